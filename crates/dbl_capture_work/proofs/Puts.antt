-- The records of a commit, as they are put group by group: what the sink holds, what it may leave, and what a report counts.
use Rattle.std.proofs.Common.{◌≡◌, ◌∙◌, ◌⊎◌, inl, inr, ◌+◌, ◌-◌, ◌^◌, ◌≤◌, ◌<◌, ℕ, zero, suc, min, Bool, true, false, cond, Some, List, [], ◌∷◌, ◌++◌, length, filter, take, refl, sym, ap, subst, arith, append_assoc, append-nil, length-append, le_refl}
use Rattle.std.specs.Prelude.{slice_get}
use Rattle.std.specs.List.{AllByRecursion}
use Rattle.std.proofs.lemmas.List.Concat.{flat_map-append}
use Rattle.std.proofs.lemmas.List.Elements.{filter-append}
use Rattle.dbl_record.specs.declared.record.Record.{Record}
use Rattle.dbl_record.specs.Cuts.{IsHandful, cut, joined}
use Rattle.dbl_record.proofs.CutLaws.{cuts_are_handfuls, cut_torn}
use Rattle.dbl_model_table.proofs.Lists.{slice_get-lt}
use Rattle.dbl_topic.specs.Sinks.{IsLeftByPut}
use Rattle.dbl_window.proofs.ConsumeLawsConsumers.{all_right}
use Rattle.dbl_capture_model.proofs.FaithfulItems.{at_left, at_right}
use Rattle.dbl_capture_model.proofs.Events.{take_whole}
use Rattle.dbl_capture_work.specs.declared.report.Report.{Report}
use Rattle.dbl_capture_work.specs.Groups.{lasts, chunks_of, counted_snapshot_rows, report_with, IsLeftByCut, HasLastsAtItsEnd}

-- ---- where the puts stand

pub joined_push : (put : List (List Record)) (group : List Record) → joined (put ++ group ∷ []) ≡ joined put ++ group
joined_push put group = flat_map-append (λ (g : List Record). g) put (group ∷ []) ∙ ap (λ (l : List Record). joined put ++ l) (append-nil group)

-- the group that is put is one of the cut
pub record IsNextGroup (records : List Record) (put : List (List Record)) (group : List Record) : Type 0 where
  pub later : List (List Record)
  pub parted : cut records ≡ put ++ group ∷ later
  pub rest : List Record
  pub whole : records ≡ joined put ++ (group ++ rest)

-- a sink takes it
pub next_handful : (records : List Record) (put : List (List Record)) (group : List Record) → IsNextGroup records put group → IsHandful group
next_handful records put group n = (all_right IsHandful put (group ∷ n.later) (subst (AllByRecursion IsHandful) n.parted (cuts_are_handfuls records))).0

-- and not all records stand before it
pub next_more : (records : List Record) (put : List (List Record)) (group : List Record) → IsNextGroup records put group → length (joined put) < length records
next_more records put group n =
    let all : length records ≡ length (joined put) + (length group + length n.rest) = ap length n.whole ∙ (length-append (joined put) (group ++ n.rest) ∙ ap (λ (m : ℕ). length (joined put) + m) (length-append group n.rest)) in
    omega (arith, all, (next_handful records put group n).some)

-- ---- what a put may leave

snoc_case : (xs : List (List Record)) → (xs ≡ []) ⊎ ((front : List (List Record)) × (last : List Record) × (xs ≡ front ++ last ∷ []))
snoc_case [] = inl refl
snoc_case (x ∷ xs) = elim (snoc_case xs) [
  | inl none ↦ inr ([], x, ap (λ (l : List (List Record)). x ∷ l) none)
  | inr some ↦ inr (x ∷ some.0, some.1, ap (λ (l : List (List Record)). x ∷ l) some.2)
]

-- the groups before it are cut as they stand
pub front_cut : (records : List Record) (put : List (List Record)) (group : List Record) → IsNextGroup records put group → cut (joined put) ≡ put
front_cut records put group n = by (snoc_case put)
  where
    by : (put ≡ []) ⊎ ((front : List (List Record)) × (last : List Record) × (put ≡ front ++ last ∷ [])) → cut (joined put) ≡ put
    by (inl none) = ap (λ (l : List (List Record)). cut (joined l)) none ∙ sym none
    by (inr some) =
        let parted : cut records ≡ some.0 ++ some.1 ∷ (group ∷ n.later) =
        n.parted ∙ (ap (λ (l : List (List Record)). l ++ group ∷ n.later) some.2 ∙ append_assoc some.0 (some.1 ∷ []) (group ∷ n.later)) in
        let handful : IsHandful some.1 = (all_right IsHandful some.0 (some.1 ∷ (group ∷ n.later)) (subst (AllByRecursion IsHandful) parted (cuts_are_handfuls records))).0 in
        let torn : cut (joined some.0 ++ take (length some.1) some.1) ≡ some.0 ++ take (length some.1) some.1 ∷ [] =
        cut_torn records some.0 (group ∷ n.later) some.1 (length some.1) parted handful.some (le_refl (length some.1)) in
        let whole : cut (joined some.0 ++ some.1) ≡ some.0 ++ some.1 ∷ [] = subst (λ (l : List Record). cut (joined some.0 ++ l) ≡ some.0 ++ l ∷ []) (take_whole some.1) torn in
        ap (λ (l : List (List Record)). cut (joined l)) some.2 ∙ (ap cut (joined_push some.0 some.1) ∙ (whole ∙ sym some.2))

none_first : (k : ℕ) → 0 + k ≡ k
none_first k = omega arith

one_first : (n k : ℕ) → suc n + k ≡ suc (n + k)
one_first n k = omega arith

take_short : (ys zs : List Record) (k : ℕ) → k ≤ length ys → take k (ys ++ zs) ≡ take k ys
take_short ys zs zero le = refl
take_short [] zs (suc k) le = absurd (no_room k le)
  where
    no_room : (n : ℕ) → suc n ≤ 0 → ⊥
    no_room n l = omega (arith, l)
take_short (y ∷ ys) zs (suc k) le = ap (λ (l : List Record). y ∷ l) (take_short ys zs k (lower k (length ys) le))
  where
    lower : (n m : ℕ) → suc n ≤ suc m → n ≤ m
    lower n m l = omega (arith, l)

pub take_more : (xs ys zs : List Record) (k : ℕ) → k ≤ length ys → take (length xs + k) (xs ++ (ys ++ zs)) ≡ xs ++ take k ys
take_more [] ys zs k le = ap (λ (n : ℕ). take n (ys ++ zs)) (none_first k) ∙ take_short ys zs k le
take_more (x ∷ xs) ys zs k le = ap (λ (n : ℕ). take n (x ∷ (xs ++ (ys ++ zs)))) (one_first (length xs) k) ∙ ap (λ (l : List Record). x ∷ l) (take_more xs ys zs k le)

plus_none : (n : ℕ) → n + 0 ≡ n
plus_none n = omega arith

-- of a put that failed some first records of the commit are left, in the groups of their cut
pub left_cut : (groups : List (List Record)) (records : List Record) (put : List (List Record)) (group : List Record) (left : List (List Record)) → IsNextGroup records put group → IsLeftByPut (groups ++ put) group left → IsLeftByCut groups [] records left
left_cut groups records put group left n (inl same) = (
  length (joined put) + 0,
  same
      ∙ ap (λ (l : List (List Record)). groups ++ l)
      (sym (ap (λ (l : List Record). cut (take (length (joined put) + 0) l)) n.whole ∙ (ap cut (take_more (joined put) group n.rest 0 (none_le (length group)) ∙ append-nil (joined put)) ∙ front_cut records put group n))),
)
  where
    none_le : (m : ℕ) → 0 ≤ m
    none_le m = omega arith
left_cut groups records put group left n (inr some) = (
  length (joined put) + some.0,
  some.3
      ∙ (append_assoc groups put (take some.0 group ∷ [])
      ∙ ap (λ (l : List (List Record)). groups ++ l)
      (sym (ap (λ (l : List Record). cut (take (length (joined put) + some.0) l)) n.whole
      ∙ (ap cut (take_more (joined put) group n.rest some.0 some.2) ∙ cut_torn records put n.later group some.0 n.parted some.1 some.2)))),
)

-- ---- what a report counts

-- the last record of a commit stands at the end of each group that has it
only_at_end : (d g r total place : ℕ) → total ≡ d + (g + r) → (d + place) + 1 ≡ total → place < g → place + 1 ≡ g
only_at_end d g r total place is at lt = omega (arith, is, at, lt)

pub group_lasts : (records : List Record) (put : List (List Record)) (group : List Record) → IsNextGroup records put group → HasLastsAtItsEnd records → HasLastsAtItsEnd group
group_lasts records put group n ends = record {
  each = λ place item at last. (
      let there : slice_get (joined put ++ (group ++ n.rest)) (length (joined put) + place) ≡ Some item = at_right (joined put) (group ++ n.rest) place item (at_left group n.rest place item at) in
      let here : slice_get records (length (joined put) + place) ≡ Some item = ap (λ (l : List Record). slice_get l (length (joined put) + place)) n.whole ∙ there in
      only_at_end (length (joined put)) (length group) (length n.rest) (length records) place (ap length n.whole ∙ (length-append (joined put) (group ++ n.rest) ∙ ap (λ (m : ℕ). length (joined put) + m) (length-append group n.rest)))
      (ends.each (length (joined put) + place) item here last) (slice_get-lt group place item at));
}

counted_twice : (a x y z most : ℕ) → z ≡ x + y → min (min (a + x) most + y) most ≡ min (a + z) most
counted_twice a x y z most is = omega (arith, is)

lasts_append : (xs ys : List Record) → lasts (xs ++ ys) ≡ lasts xs + lasts ys
lasts_append xs ys = ap length (filter-append (λ (item : Record). item.last) xs ys) ∙ length-append (filter (λ (item : Record). item.last) xs) (filter (λ (item : Record). item.last) ys)

lasts_le : (xs : List Record) → lasts xs ≤ length xs
lasts_le [] = le_refl 0
lasts_le (x ∷ xs) = by (lasts_le xs) x.last
  where
    step : (a b : ℕ) → a ≤ b → a ≤ suc b
    step a b le = omega (arith, le)

    both : (a b : ℕ) → a ≤ b → suc a ≤ suc b
    both a b le = omega (arith, le)

    by : lasts xs ≤ length xs → (b : Bool) → length (cond b (x ∷ filter (λ (item : Record). item.last) xs) (filter (λ (item : Record). item.last) xs)) ≤ suc (length xs)
    by rest true = both (lasts xs) (length xs) rest
    by rest false = step (lasts xs) (length xs) rest

rows_sum : (a b c d e f : ℕ) → e ≡ a + c → f ≡ b + d → b ≤ a → d ≤ c → e - f ≡ (a - b) + (c - d)
rows_sum a b c d e f one two three four = omega (arith, one, two, three, four)

chunks_append : (snapshot : Bool) (xs ys : List Record) → chunks_of snapshot (xs ++ ys) ≡ chunks_of snapshot xs + chunks_of snapshot ys
chunks_append true xs ys = lasts_append xs ys
chunks_append false xs ys = refl

rows_append : (snapshot : Bool) (xs ys : List Record) → counted_snapshot_rows snapshot (xs ++ ys) ≡ counted_snapshot_rows snapshot xs + counted_snapshot_rows snapshot ys
rows_append true xs ys = rows_sum (length xs) (lasts xs) (length ys) (lasts ys) (length (xs ++ ys)) (lasts (xs ++ ys)) (length-append xs ys) (lasts_append xs ys) (lasts_le xs) (lasts_le ys)
rows_append false xs ys = refl

-- what is counted group by group is counted at once
pub report_twice : (snapshot : Bool) (xs ys : List Record) (report : Report) → report_with snapshot ys (report_with snapshot xs report) ≡ report_with snapshot (xs ++ ys) report
report_twice snapshot xs ys report =
    let one = counted_twice report.records (length xs) (length ys) (length (xs ++ ys)) (2 ^ 64 - 1) (length-append xs ys) in
    let two = counted_twice report.chunks (chunks_of snapshot xs) (chunks_of snapshot ys) (chunks_of snapshot (xs ++ ys)) (2 ^ 64 - 1) (chunks_append snapshot xs ys) in
    let three = counted_twice report.snapshot_rows (counted_snapshot_rows snapshot xs) (counted_snapshot_rows snapshot ys) (counted_snapshot_rows snapshot (xs ++ ys)) (2 ^ 64 - 1) (rows_append snapshot xs ys) in
    λ i. record report { records = one i; chunks = two i; snapshot_rows = three i }

pub within : (a most : ℕ) → a ≤ most → min (a + 0) most ≡ a
within a most le = omega (arith, le)

-- and no records count nothing
pub report_none : (snapshot : Bool) (report : Report) → report.records ≤ 2 ^ 64 - 1 → report.chunks ≤ 2 ^ 64 - 1 → report.snapshot_rows ≤ 2 ^ 64 - 1 → report_with snapshot [] report ≡ report
report_none true report one two three = λ i. record report { records = within report.records (2 ^ 64 - 1) one i; chunks = within report.chunks (2 ^ 64 - 1) two i; snapshot_rows = within report.snapshot_rows (2 ^ 64 - 1) three i }
report_none false report one two three = λ i. record report { records = within report.records (2 ^ 64 - 1) one i; chunks = within report.chunks (2 ^ 64 - 1) two i; snapshot_rows = within report.snapshot_rows (2 ^ 64 - 1) three i }

-- before the last record none is the last of its commit
pub none_last : (xs : List Record) (y : Record) (ys : List Record) → HasLastsAtItsEnd (xs ++ y ∷ ys) → lasts xs ≡ 0
none_last [] y ys ends = refl
none_last (x ∷ xs) y ys ends = by x.last refl (none_last xs y ys (record { each = λ place item at last. (let end : suc place + 1 ≡ suc (length (xs ++ y ∷ ys)) = ends.each (suc place) item at last in omega (arith, end)) }))
  where
    by : (b : Bool) → x.last ≡ b → lasts xs ≡ 0 → length (cond b (x ∷ filter (λ (item : Record). item.last) xs) (filter (λ (item : Record). item.last) xs)) ≡ 0
    by true is none = let end : 0 + 1 ≡ suc (length (xs ++ y ∷ ys)) = ends.each 0 x refl is in absurd (omega (arith, end, length-append xs (y ∷ ys)))
    by false is none = none
