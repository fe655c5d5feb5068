-- Where the puts of a commit's records stand: some groups of the cut were put, one is gathered, and the rest comes after it.
use Rattle.std.proofs.Common.{◌≡◌, ◌∙◌, ◌⊎◌, inl, inr, ◌+◌, ◌-◌, ◌^◌, ◌≤◌, ◌<◌, ℕ, zero, suc, Bool, true, false, cond, Some, List, [], ◌∷◌, ◌++◌, length, take, refl, sym, ap, subst, arith, append_assoc, append-nil, length-append, add-zero}
use Rattle.std.specs.Prelude.{if◌then◌else◌, flat_map, slice_get}
use Rattle.std.specs.List.{AllByRecursion}
use Rattle.std.proofs.lemmas.List.Concat.{flat_map-append}
use Rattle.dbl_record.specs.declared.record.Record.{Record}
use Rattle.dbl_record.specs.Cuts.{begins_batch, batches_after, cut, joined}
use Rattle.dbl_record.specs.Groups.{record_form, group_form}
use Rattle.dbl_record.proofs.CutLaws.{cuts_join}
use Rattle.dbl_record.proofs.Sizes.{group_size}
use Rattle.dbl_topic.specs.Model.{SinkModel}
use Rattle.dbl_topic.specs.Sinks.{IsLeftByPut, told_length}
use Rattle.dbl_capture_model.proofs.FaithfulItems.{at_left, at_right, at_cases}
use Rattle.dbl_capture_work.specs.declared.report.Report.{Report}
use Rattle.dbl_capture_work.specs.declared.halt.Halt.{Halt}
use Rattle.dbl_capture_work.specs.declared.halt.Halt.TheVariants as halt
use Rattle.dbl_capture_work.specs.Causes.{HasPutBefore, IsLongRecord}
use Rattle.dbl_capture_work.specs.Groups.{chunks_of, counted, report_with, IsLeftByCut, HasLastsAtItsEnd, HoldsPut, WasTorn, WerePut}
use Rattle.dbl_capture_work.proofs.Batches.{own_goes_on}
use Rattle.dbl_capture_work.proofs.Puts.{IsNextGroup, front_cut, group_lasts, joined_push, left_cut, next_handful, next_more, none_last, report_none, report_twice, take_more, within}

-- a sink takes a group of so many bytes
pub record IsShortGroup (group : List Record) : Type 0 where
  pub short : length (group_form group) ≤ 2 ^ 28

pub record IsPut {K : Type 0} (holds : K → List (List Record) → Type 0) (snapshot : Bool) (records gathered rest : List Record)
    (old new : K) (before after : Report) : Type 0 where
  pub put : List (List Record)
  pub parted : cut records ≡ put ++ batches_after gathered rest
  pub whole : records ≡ joined put ++ (gathered ++ rest)
  pub held : (groups : List (List Record)) → holds old groups → holds new (groups ++ put)
  pub counted : HasLastsAtItsEnd records → after ≡ report_with snapshot (joined put) before
  pub short : AllByRecursion IsShortGroup put

-- what one put adds
pub record IsPutMore {K : Type 0} (holds : K → List (List Record) → Type 0) (snapshot : Bool) (group : List Record)
    (old new : K) (before after : Report) : Type 0 where
  pub held : (groups : List (List Record)) → holds old groups → holds new (groups ++ group ∷ [])
  pub counted : HasLastsAtItsEnd group → after ≡ report_with snapshot group before
  pub short : length (group_form group) ≤ 2 ^ 28

all_snoc : (put : List (List Record)) (group : List Record) → AllByRecursion IsShortGroup put → IsShortGroup group → AllByRecursion IsShortGroup (put ++ group ∷ [])
all_snoc [] group all last = (last, tt)
all_snoc (first ∷ put) group all last = (all.0, all_snoc put group all.1 last)

module _ {K : Type 0} (holds : K → List (List Record) → Type 0) (snapshot : Bool) where
  pub put_begins : (records gathered rest : List Record) (sink : K) (report : Report) → gathered ++ rest ≡ records → cut gathered ≡ gathered ∷ []
      → report.records ≤ 2 ^ 64 - 1 → report.chunks ≤ 2 ^ 64 - 1 → report.snapshot_rows ≤ 2 ^ 64 - 1
      → IsPut holds snapshot records gathered rest sink sink report report
  put_begins records gathered rest sink report is own some many rows = record {
    put = [];
    parted = ap cut (sym is) ∙ own_goes_on gathered rest own;
    whole = sym is;
    held = λ groups h. subst (holds sink) (sym (append-nil groups)) h;
    counted = λ lasts. sym (report_none snapshot report some many rows);
    short = tt;
  }

  -- ---- nothing was put yet

  none_below : (n : ℕ) → 0 ≤ n
  none_below n = omega arith

  pub none_put : (records : List Record) (report : Report) → report.records ≤ 2 ^ 64 - 1 → report.chunks ≤ 2 ^ 64 - 1 → report.snapshot_rows ≤ 2 ^ 64 - 1 → WerePut snapshot records report report
  none_put records report one two three = record { count = 0; within = none_below (length records); report = sym (report_none snapshot report one two three) }

  pub none_holds : (groups : List (List Record)) (records : List Record) (sink : K) (report : Report) → report.records ≤ 2 ^ 64 - 1 → report.chunks ≤ 2 ^ 64 - 1 → report.snapshot_rows ≤ 2 ^ 64 - 1
      → holds sink groups → HoldsPut holds groups snapshot [] records report report sink
  none_holds groups records sink report one two three held = record { count = 0; few = inl refl; held = subst (holds sink) (sym (append-nil groups)) held; report = sym (report_none snapshot report one two three) }

  -- what the iterator has yet
  pub put_at : (records gathered rest more : List Record) (old new : K) (before after : Report) → rest ≡ more → IsPut holds snapshot records gathered rest old new before after
      → IsPut holds snapshot records gathered more old new before after
  put_at records gathered rest more old new before after is p = subst (λ (l : List Record). IsPut holds snapshot records gathered l old new before after) is p

  -- the group that is gathered is one of the cut, where a new one begins, and at the end
  pub next_begins : (records gathered : List Record) (item : Record) (rest : List Record) (old new : K) (before after : Report) → begins_batch gathered item ≡ true
      → (p : IsPut holds snapshot records gathered (item ∷ rest) old new before after) → IsNextGroup records p.put gathered
  next_begins records gathered item rest old new before after is p = record {
    later = batches_after (item ∷ []) rest;
    parted = p.parted ∙ ap (λ (b : Bool). p.put ++ (if b then gathered ∷ batches_after (item ∷ []) rest else batches_after (gathered ++ item ∷ []) rest)) is;
    rest = item ∷ rest;
    whole = p.whole;
  }

  pub last_group : (records gathered : List Record) (old new : K) (before after : Report)
      → (p : IsPut holds snapshot records gathered [] old new before after) → IsNextGroup records p.put gathered
  last_group records gathered old new before after p = record { later = []; parted = p.parted; rest = []; whole = p.whole }

  -- it was put, and a new one begins
  pub put_on : (records gathered : List Record) (item : Record) (rest : List Record) (old mid new : K) (before after next : Report) → begins_batch gathered item ≡ true
      → IsPut holds snapshot records gathered (item ∷ rest) old mid before after → IsPutMore holds snapshot gathered mid new after next
      → IsPut holds snapshot records (item ∷ []) rest old new before next
  put_on records gathered item rest old mid new before after next is p m = record {
    put = p.put ++ gathered ∷ [];
    parted =
        p.parted
        ∙ (ap (λ (b : Bool). p.put ++ (if b then gathered ∷ batches_after (item ∷ []) rest else batches_after (gathered ++ item ∷ []) rest)) is
        ∙ sym (append_assoc p.put (gathered ∷ []) (batches_after (item ∷ []) rest)));
    whole = p.whole ∙ (sym (append_assoc (joined p.put) gathered (item ∷ rest)) ∙ ap (λ (l : List Record). l ++ item ∷ rest) (sym (joined_push p.put gathered)));
    held = λ groups h. subst (holds new) (append_assoc groups p.put (gathered ∷ [])) (m.held (groups ++ p.put) (p.held groups h));
    counted = λ lasts.
        m.counted (group_lasts records p.put gathered (next_begins records gathered item rest old mid before after is p) lasts)
        ∙ (ap (report_with snapshot gathered) (p.counted lasts)
        ∙ (report_twice snapshot (joined p.put) gathered before ∙ ap (λ (l : List Record). report_with snapshot l before) (sym (joined_push p.put gathered))));
    short = all_snoc p.put gathered p.short (record { short = m.short });
  }

  -- no window was counted, since a record is gathered yet
  pub counts_stay : (records : List Record) (item : Record) (rest : List Record) (old new : K) (before after : Report) → before.chunks ≤ 2 ^ 64 - 1
      → IsPut holds snapshot records (item ∷ []) rest old new before after → HasLastsAtItsEnd records → after.chunks ≡ before.chunks
  counts_stay records item rest old new before after le p lasts = ap (λ (r : Report). r.chunks) (p.counted lasts) ∙ (ap (counted before.chunks) (by snapshot) ∙ within before.chunks (2 ^ 64 - 1) le)
    where
      by : (b : Bool) → chunks_of b (joined p.put) ≡ 0
      by true = none_last (joined p.put) item rest (subst HasLastsAtItsEnd p.whole lasts)
      by false = refl

  -- it has one record more
  pub gather_on : (records gathered : List Record) (item : Record) (rest : List Record) (old new : K) (before after : Report) → begins_batch gathered item ≡ false
      → IsPut holds snapshot records gathered (item ∷ rest) old new before after → IsPut holds snapshot records (gathered ++ item ∷ []) rest old new before after
  gather_on records gathered item rest old new before after is p = record {
    put = p.put;
    parted = p.parted ∙ ap (λ (b : Bool). p.put ++ (if b then gathered ∷ batches_after (item ∷ []) rest else batches_after (gathered ++ item ∷ []) rest)) is;
    whole = p.whole ∙ ap (λ (l : List Record). joined p.put ++ l) (sym (append_assoc gathered (item ∷ []) rest));
    held = p.held;
    counted = p.counted;
    short = p.short;
  }

  -- ---- where it ends

  after_some : (gathered rest : List Record) → (group : List Record) × (later : List (List Record)) × (batches_after gathered rest ≡ group ∷ later)
  after_some gathered [] = (gathered, [], refl)
  after_some gathered (item ∷ rest) = by (begins_batch gathered item) (after_some (gathered ++ item ∷ []) rest)
    where
      by : (b : Bool) → ((group : List Record) × (later : List (List Record)) × (batches_after (gathered ++ item ∷ []) rest ≡ group ∷ later))
          → (group : List Record) × (later : List (List Record)) × (cond b (gathered ∷ batches_after (item ∷ []) rest) (batches_after (gathered ++ item ∷ []) rest) ≡ group ∷ later)
      by true more = (gathered, batches_after (item ∷ []) rest, refl)
      by false more = more

  -- some group of the cut is the next one
  pub some_next : (records gathered rest : List Record) (old new : K) (before after : Report) → (p : IsPut holds snapshot records gathered rest old new before after)
      → (group : List Record) × IsNextGroup records p.put group
  some_next records gathered rest old new before after p =
      let some = after_some gathered rest in
      let parted : cut records ≡ p.put ++ some.0 ∷ some.1 = p.parted ∙ ap (λ (l : List (List Record)). p.put ++ l) some.2 in (
        some.0,
        record {
          later = some.1;
          parted = parted;
          rest = joined some.1;
          whole = sym (cuts_join records) ∙ (ap joined parted ∙ flat_map-append (λ (g : List Record). g) p.put (some.0 ∷ some.1));
        },
      )

  -- what was put is some first records
  pub taken_is : (records gathered rest : List Record) (old new : K) (before after : Report) → (p : IsPut holds snapshot records gathered rest old new before after)
      → take (length (joined p.put)) records ≡ joined p.put
  taken_is records gathered rest old new before after p =
      ap (take (length (joined p.put))) p.whole
      ∙ (ap (λ (n : ℕ). take n (joined p.put ++ (gathered ++ rest))) (sym (add-zero (length (joined p.put))))
      ∙ (take_more (joined p.put) gathered rest 0 (none_le (length gathered)) ∙ append-nil (joined p.put)))
    where
      none_le : (m : ℕ) → 0 ≤ m
      none_le m = omega arith

  pub were_put : (records gathered rest : List Record) (old new : K) (before after : Report) → IsPut holds snapshot records gathered rest old new before after
      → HasLastsAtItsEnd records → WerePut snapshot records before after
  were_put records gathered rest old new before after p lasts = record {
    count = length (joined p.put);
    within = parts (length (joined p.put)) (length (gathered ++ rest)) (length records) (ap length p.whole ∙ length-append (joined p.put) (gathered ++ rest));
    report = p.counted lasts ∙ ap (λ (l : List Record). report_with snapshot l before) (sym (taken_is records gathered rest old new before after p));
  }
    where
      parts : (a b c : ℕ) → c ≡ a + b → a ≤ c
      parts a b c is = omega (arith, is)

  pub holds_put : (groups : List (List Record)) (records gathered rest : List Record) (old new : K) (before after : Report) → IsPut holds snapshot records gathered rest old new before after
      → holds old groups → HasLastsAtItsEnd records → HoldsPut holds groups snapshot [] records before after new
  holds_put groups records gathered rest old new before after p held lasts =
      let some = some_next records gathered rest old new before after p in
      let same = taken_is records gathered rest old new before after p in
      record {
        count = length (joined p.put);
        few = inr (next_more records p.put some.0 some.1);
        held = subst (λ (l : List (List Record)). holds new (groups ++ l)) (sym (ap cut same ∙ front_cut records p.put some.0 some.1)) (p.held groups held);
        report = p.counted lasts ∙ ap (λ (l : List Record). report_with snapshot l before) (sym same);
      }

  -- the put of the next group failed
  pub torn_put : (model : SinkModel K) (groups : List (List Record)) (records gathered rest group : List Record) (old mid new : K) (before after next : Report)
      → (p : IsPut holds snapshot records gathered rest old mid before after) → IsNextGroup records p.put group → HasLastsAtItsEnd records → next ≡ after
      → ((found : List (List Record)) → model.may_leave new found → IsLeftByPut (groups ++ p.put) group found) → (found : List (List Record)) × model.may_leave new found
      → model.fails_at new group → WasTorn model groups snapshot [] records before next new
  torn_put model groups records gathered rest group old mid new before after next p n lasts same left some fails =
      let taken = taken_is records gathered rest old mid before after p in
      let front : p.put ≡ cut (take (length (joined p.put)) records) = sym (ap cut taken ∙ front_cut records p.put group n) in
      record {
        count = length (joined p.put);
        group = group;
        later = n.later;
        parted = subst (λ (l : List (List Record)). cut records ≡ l ++ group ∷ n.later) front n.parted;
        left = λ found may. subst (λ (l : List (List Record)). IsLeftByPut (groups ++ l) group found) front (left found may);
        some = some;
        fails = fails;
        report = same ∙ (p.counted lasts ∙ ap (λ (l : List Record). report_with snapshot l before) (sym taken));
      }

  -- a sink that tells what it holds leaves no less
  pub left_still : (groups left : List (List Record)) (records gathered rest : List Record) (old new : K) (before after : Report) → (p : IsPut holds snapshot records gathered rest old new before after)
      → left ≡ groups ++ p.put → IsLeftByCut groups [] records left
  left_still groups left records gathered rest old new before after p is =
      let some = some_next records gathered rest old new before after p in
      left_cut groups records p.put some.0 left some.1 (inl is)

  -- a put that failed without a trace leaves it so
  pub put_kept : (records gathered rest : List Record) (old mid new : K) (before after next : Report) → IsPut holds snapshot records gathered rest old mid before after
      → ((groups : List (List Record)) → holds mid groups → holds new groups) → next ≡ after → IsPut holds snapshot records gathered rest old new before next
  put_kept records gathered rest old mid new before after next p still same = record {
    put = p.put;
    parted = p.parted;
    whole = p.whole;
    held = λ groups h. still (groups ++ p.put) (p.held groups h);
    counted = λ lasts. same ∙ p.counted lasts;
    short = p.short;
  }

  -- what one put that was answered adds
  pub put_more : (group : List Record) (old new : K) (before after : Report) → ((groups : List (List Record)) → holds old groups → holds new (groups ++ group ∷ []))
      → (HasLastsAtItsEnd group → after ≡ report_with snapshot group before) → (2 ^ 28 < length (group_form group) → false ≡ true) → IsPutMore holds snapshot group old new before after
  put_more group old new before after held counted never = record { held = held; counted = counted; short = no_more (2 ^ 28) (length (group_form group)) (λ more. (let wrong : false ≡ true = never more in cc)) }
    where
      no_more : (n m : ℕ) → (n < m → ⊥) → m ≤ n
      no_more n m lt = omega (arith, lt)

-- ---- a record that is too long

size_first : (x a b m n k : ℕ) → a ≡ 4 + x → b ≡ 4 + k → k ≡ m + n → x ≡ m → a ≤ b
size_first x a b m n k one two three four = omega (arith, one, two, three, four)

size_later : (x a b m n k : ℕ) → a ≤ b → b ≡ 4 + n → x ≡ 4 + k → k ≡ m + n → a ≤ x
size_later x a b m n k le one two three = omega (arith, le, one, two, three)

-- a group's form is no shorter than that of a record of it
pub member_size : (group : List Record) (place : ℕ) (item : Record) → slice_get group place ≡ Some item → length (group_form (item ∷ [])) ≤ length (group_form group)
member_size [] place item at = cc
member_size (x ∷ xs) zero item at =
    let same : x ≡ item = cc in
    size_first (length (flat_map record_form (item ∷ []))) (length (group_form (item ∷ []))) (length (group_form (x ∷ xs))) (length (record_form item)) (length (flat_map record_form xs)) (length (flat_map record_form (x ∷ xs)))
    (group_size (item ∷ [])) (group_size (x ∷ xs)) (length-append (record_form x) (flat_map record_form xs) ∙ ap (λ (r : Record). length (record_form r) + length (flat_map record_form xs)) same)
    (ap length (append-nil (record_form item)))
member_size (x ∷ xs) (suc place) item at =
    size_later (length (group_form (x ∷ xs))) (length (group_form (item ∷ []))) (length (group_form xs)) (length (record_form x)) (length (flat_map record_form xs)) (length (flat_map record_form (x ∷ xs)))
    (member_size xs place item at) (group_size xs) (group_size (x ∷ xs)) (length-append (record_form x) (flat_map record_form xs))

rest_size : (x : Record) (xs : List Record) → length (group_form xs) ≤ length (group_form (x ∷ xs))
rest_size x xs =
    no_less (length (group_form xs)) (length (group_form (x ∷ xs))) (length (record_form x)) (length (flat_map record_form xs)) (length (flat_map record_form (x ∷ xs)))
    (group_size xs) (group_size (x ∷ xs)) (length-append (record_form x) (flat_map record_form xs))
  where
    no_less : (a b m n k : ℕ) → a ≡ 4 + n → b ≡ 4 + k → k ≡ m + n → a ≤ b
    no_less a b m n k one two three = omega (arith, one, two, three)

pub le_both : (a b c : ℕ) → a ≤ b → b ≤ c → a ≤ c
le_both a b c one two = omega (arith, one, two)

in_short : (groups : List (List Record)) → AllByRecursion IsShortGroup groups → (place : ℕ) (item : Record) → slice_get (joined groups) place ≡ Some item → length (group_form (item ∷ [])) ≤ 2 ^ 28
in_short [] short place item at = cc
in_short (group ∷ groups) short place item at = elim (at_cases group (joined groups) place item at) [
  | inl here ↦ le_both (length (group_form (item ∷ []))) (length (group_form group)) (2 ^ 28) (member_size group place item here) short.0.short
  | inr there ↦ in_short groups short.1 there.0 item there.1
]

pub too_long : (n m : ℕ) → n ≤ m → m < n → ⊥
too_long n m le lt = omega (arith, le, lt)

-- If all batches but the one that is gathered were short, no record is too long but the last one, which is alone in that.
pub none_long : {K : Type 0} (holds : K → List (List Record) → Type 0) (snapshot : Bool) (records gathered : List Record) (old new : K) (before after : Report)
    → IsPut holds snapshot records gathered [] old new before after → (place : ℕ) (item : Record) → slice_get records place ≡ Some item
    → place + 1 < length records → 2 ^ 28 < length (group_form (item ∷ [])) → ⊥
none_long holds snapshot records gathered old new before after p place item at before_last long =
    elim (at_cases (joined p.put) (gathered ++ []) place item (subst (λ (l : List Record). slice_get l place ≡ Some item) p.whole at)) [
      | inl here ↦ too_long (length (group_form (item ∷ []))) (2 ^ 28) (in_short p.put p.short place item here) long
      | inr there ↦ in_last there.0 (subst (λ (l : List Record). slice_get l there.0 ≡ Some item) (append-nil gathered) there.1) there.2
    ]
  where
    group : IsNextGroup records p.put gathered
    group = record { later = []; parted = p.parted; rest = []; whole = p.whole }

    size : length records ≡ length (joined p.put) + length gathered
    size = ap length p.whole ∙ length-append (joined p.put) (gathered ++ []) ∙ ap (λ (l : List Record). length (joined p.put) + length l) (append-nil gathered)

    in_last : (n : ℕ) → slice_get gathered n ≡ Some item → place ≡ length (joined p.put) + n → ⊥
    in_last n in_it is = by (next_handful records p.put gathered group).small
      where
        by : (length (group_form gathered) ≤ 16777216) ⊎ (length gathered ≡ 1) → ⊥
        by (inl small) =
            too_long (length (group_form (item ∷ []))) (2 ^ 28)
            (le_both (length (group_form (item ∷ []))) (length (group_form gathered)) (2 ^ 28) (member_size gathered n item in_it)
            (le_both (length (group_form gathered)) 16777216 (2 ^ 28) small (omega arith))) long
        by (inr one) = omega (arith, one, is, size, before_last)

-- ---- a group that is too long

pub first_at : (xs : List Record) → length xs ≡ 1 → (x : Record) × (xs ≡ x ∷ [])
first_at [] is = cc
first_at (x ∷ []) is = (x, refl)
first_at (x ∷ (y ∷ xs)) is = absurd (more (length xs) is)
  where
    more : (n : ℕ) → suc (suc n) ≡ 1 → ⊥
    more n e = omega (arith, e)

short_alone : (xs : List Record) → length (group_form xs) ≤ 2 ^ 28 → AllByRecursion (λ (other : Record). length (group_form (other ∷ [])) ≤ 2 ^ 28) xs
short_alone [] short = tt
short_alone (x ∷ xs) short = (
  le_both (length (group_form (x ∷ []))) (length (group_form (x ∷ xs))) (2 ^ 28) (member_size (x ∷ xs) 0 x refl) short,
  short_alone xs (le_both (length (group_form xs)) (length (group_form (x ∷ xs))) (2 ^ 28) (rest_size x xs) short),
)

all_join : (P : Record → Type 0) (xs ys : List Record) → AllByRecursion P xs → AllByRecursion P ys → AllByRecursion P (xs ++ ys)
all_join P [] ys one two = two
all_join P (x ∷ xs) ys one two = (one.0, all_join P xs ys one.1 two)

pub shorts_alone : (groups : List (List Record)) → AllByRecursion IsShortGroup groups → AllByRecursion (λ (other : Record). length (group_form (other ∷ [])) ≤ 2 ^ 28) (joined groups)
shorts_alone [] short = tt
shorts_alone (group ∷ groups) short = all_join (λ (other : Record). length (group_form (other ∷ [])) ≤ 2 ^ 28) group (joined groups) (short_alone group short.0.short) (shorts_alone groups short.1)

-- it is of one record, the first that is too long, and is after those that were put
pub long_at : (records : List Record) (put : List (List Record)) (group : List Record) (h : Halt) → IsNextGroup records put group → AllByRecursion IsShortGroup put → 2 ^ 28 < length (group_form group) → h ≡ halt.RecordTooLong (told_length group)
    → (long : IsLongRecord records h) × (long.place ≡ length (joined put))
long_at records put group h n short long is = by (next_handful records put group n).small
  where
    none_below : (m : ℕ) → 0 ≤ m
    none_below m = omega arith

    by : (length (group_form group) ≤ 16777216) ⊎ (length group ≡ 1) → (long : IsLongRecord records h) × (long.place ≡ length (joined put))
    by (inl small) = absurd (too_long (length (group_form group)) (2 ^ 28) (le_both (length (group_form group)) 16777216 (2 ^ 28) small (omega arith)) long)
    by (inr one) =
        let some = first_at group one in (
          record {
            place = length (joined put) + 0;
            item = some.0;
            stands =
                ap (λ (l : List Record). slice_get l (length (joined put) + 0)) n.whole
                ∙ at_right (joined put) (group ++ n.rest) 0 some.0 (at_left group n.rest 0 some.0 (ap (λ (l : List Record). slice_get l 0) some.1));
            first = subst (AllByRecursion (λ (other : Record). length (group_form (other ∷ [])) ≤ 2 ^ 28))
                (sym (ap (take (length (joined put) + 0)) n.whole ∙ (take_more (joined put) group n.rest 0 (none_below (length group)) ∙ append-nil (joined put))))
                (shorts_alone put short);
            long = subst (λ (l : List Record). 2 ^ 28 < length (group_form l)) some.1 long;
            is = is ∙ ap (λ (l : List Record). halt.RecordTooLong (told_length l)) some.1;
          },
          add-zero (length (joined put)),
        )

pub long_group : (records : List Record) (put : List (List Record)) (group : List Record) (h : Halt) → IsNextGroup records put group → AllByRecursion IsShortGroup put → 2 ^ 28 < length (group_form group) → h ≡ halt.RecordTooLong (told_length group) → IsLongRecord records h
long_group records put group h n short long is = (long_at records put group h n short long is).0

-- which halt a group's is
abbrev pub IsGroupHalt : List Record → Halt → Type 0
IsGroupHalt group h = (h ≡ halt.Memory) ⊎ ((h ≡ halt.Sink) ⊎ ((2 ^ 28 < length (group_form group)) × (h ≡ halt.RecordTooLong (told_length group))))

pub long_put : {K : Type 0} (holds : K → List (List Record) → Type 0) (snapshot : Bool) (groups : List (List Record)) (records gathered rest group : List Record) (old mid new : K) (before after next : Report) (len : ℕ)
    → (p : IsPut holds snapshot records gathered rest old mid before after) → IsNextGroup records p.put group → HasLastsAtItsEnd records → next ≡ after → holds new (groups ++ p.put) → IsGroupHalt group (halt.RecordTooLong len)
    → HasPutBefore holds groups snapshot [] records before next new (halt.RecordTooLong len)
long_put holds snapshot groups records gathered rest group old mid new before after next len p n lasts same held (inl memory) = cc
long_put holds snapshot groups records gathered rest group old mid new before after next len p n lasts same held (inr (inl failed)) = cc
long_put holds snapshot groups records gathered rest group old mid new before after next len p n lasts same held (inr (inr long)) =
    let at = long_at records p.put group (halt.RecordTooLong len) n p.short long.0 long.1 in
    let taken : take at.0.place records ≡ joined p.put = ap (λ (m : ℕ). take m records) at.1 ∙ taken_is holds snapshot records gathered rest old mid before after p in
    record {
      long = at.0;
      held = subst (λ (l : List (List Record)). holds new (groups ++ l)) (sym (ap cut taken ∙ front_cut records p.put group n)) held;
      report = same ∙ (p.counted lasts ∙ ap (λ (l : List Record). report_with snapshot l before) (sym taken));
    }

-- where nothing was put, nothing is left of the records
pub none_left_over : (groups left : List (List Record)) (records : List Record) → left ≡ groups → IsLeftByCut groups [] records left
none_left_over groups left records is = (0, is ∙ sym (append-nil groups))
