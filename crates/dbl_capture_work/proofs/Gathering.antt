-- Groups as they are gathered.
use Rattle.std.proofs.Common.{◌≡◌, ◌∙◌, ◌+◌, ◌-◌, ◌^◌, ◌≤◌, ◌<◌, ℕ, suc, Bool, true, false, Some, List, [], ◌∷◌, ◌++◌, length, refl, sym, ap, arith, append-nil, length-append, leb}
use Rattle.std.specs.Prelude.{◌==◌, ◌||◌, cond, filter, not, min, nat_lt, flat_map, slice_get}
use Rattle.std.proofs.lemmas.Bool.Decides.{nat_tests}
use Rattle.std.proofs.lemmas.List.Concat.{flat_map-append}
use Rattle.dbl_record.specs.declared.record.Record.{Record}
use Rattle.dbl_record.specs.Cuts.{stands_elsewhere, begins_batch}
use Rattle.dbl_record.specs.Groups.{record_form, group_form}
use Rattle.dbl_record.proofs.Sizes.{group_size}
use Rattle.dbl_capture_work.specs.declared.report.Report.{Report}
use Rattle.dbl_capture_work.specs.Groups.{HasLastsAtItsEnd, counted, ends_commit, lasts, report_with}

-- ---- how long a form is

form_sum : (a b c n m : ℕ) → a ≡ 4 + n → b ≡ 4 + m → m ≡ n + c → b ≡ a + c
form_sum a b c n m one two three = omega (arith, one, two, three)

-- with one record more the form is longer by that record's
pub form_more : (items : List Record) (item : Record) → length (group_form (items ++ item ∷ [])) ≡ length (group_form items) + length (record_form item)
form_more items item =
    form_sum (length (group_form items)) (length (group_form (items ++ item ∷ []))) (length (record_form item)) (length (flat_map record_form items)) (length (flat_map record_form (items ++ item ∷ [])))
    (group_size items) (group_size (items ++ item ∷ []))
    (ap length (flat_map-append record_form items (item ∷ []) ∙ ap (λ (l : List ℕ). flat_map record_form items ++ l) (append-nil (record_form item)))
    ∙ length-append (flat_map record_form items) (record_form item))

form_one_sum : (a n m : ℕ) → a ≡ 4 + n → n ≡ m → a ≡ m + 4
form_one_sum a n m one two = omega (arith, one, two)

pub form_one : (item : Record) → length (group_form (item ∷ [])) ≡ length (record_form item) + 4
form_one item = form_one_sum (length (group_form (item ∷ []))) (length (flat_map record_form (item ∷ []))) (length (record_form item)) (group_size (item ∷ [])) (ap length (append-nil (record_form item)))

-- ---- the last record

pub elsewhere_last : (before : List Record) (last item : Record) → stands_elsewhere (before ++ last ∷ []) item ≡ not (last.position == item.position)
elsewhere_last [] last item = refl
elsewhere_last (first ∷ []) last item = refl
elsewhere_last (first ∷ (second ∷ more)) last item = elsewhere_last (second ∷ more) last item

pub ends_last : (items : List Record) (last : Record) → slice_get items (length items - 1) ≡ Some last → ends_commit items ≡ last.last
ends_last [] last is = cc
ends_last (item ∷ []) last is = let same : item ≡ last = cc in ap (λ (r : Record). r.last) same
ends_last (first ∷ (second ∷ more)) last is = ends_last (second ∷ more) last (ap (slice_get (first ∷ (second ∷ more))) (one_back (length more)) ∙ is)
  where
    one_back : (n : ℕ) → suc (suc n - 1) ≡ suc (suc n) - 1
    one_back n = omega arith

-- ---- where a new group begins

or_right : (a : Bool) → a || true ≡ true
or_right true = refl
or_right false = refl

or_all : (a b c : Bool) → a ≡ true → a || b || c ≡ true
or_all true b c is = refl
or_all false b c is = cc

or_second : (a b c : Bool) → b ≡ true → a || b || c ≡ true
or_second a true c is = ap (λ (x : Bool). x || c) (or_right a)
or_second a false c is = cc

or_third : (a b c : Bool) → a ≡ false → b ≡ false → a || b || c ≡ c
or_third false false c one two = refl
or_third true b c one two = cc
or_third false true c one two = cc

not_same : (a b : ℕ) → (a ≡ b → ⊥) → not (a == b) ≡ true
not_same a b differ = grind (arith, nat_tests)

is_same : (a b : ℕ) → a ≡ b → not (a == b) ≡ false
is_same a b same = grind (arith, nat_tests)

above : (a b : ℕ) → a < b → nat_lt a b ≡ true
above a b lt = grind (arith, nat_tests)

not_above : (a b : ℕ) → b ≤ a → nat_lt a b ≡ false
not_above a b le = grind (arith, nat_tests)

one_over : (n : ℕ) → 1000 ≤ n → 1000 < n + 1
one_over n le = omega (arith, le)

one_under : (n : ℕ) → n < 1000 → n + 1 ≤ 1000
one_under n lt = omega (arith, lt)

pub as_many : (b : Bool) (n m : ℕ) → b ≡ leb n m → b ≡ true → n ≤ m
as_many b n m is one = grind (arith, nat_tests)

pub fewer : (b : Bool) (n m : ℕ) → b ≡ leb n m → b ≡ false → m < n
fewer b n m is one = grind (arith, nat_tests)

pub same_position : (b : Bool) (n m : ℕ) → b ≡ not (n == m) → b ≡ false → n ≡ m
same_position b n m is one = grind (arith, nat_tests)

-- at a record of another position
pub begins_elsewhere : (items before : List Record) (last item : Record) → items ≡ before ++ last ∷ [] → (item.position ≡ last.position → ⊥) → begins_batch items item ≡ true
unfolding begins_batch
begins_elsewhere items before last item is differ =
    or_all (stands_elsewhere items item) (nat_lt 1000 (length items + 1)) (nat_lt 16777216 (length (group_form (items ++ item ∷ []))))
    (ap (λ (l : List Record). stands_elsewhere l item) is ∙ (elsewhere_last before last item ∙ not_same last.position item.position (λ same. differ (sym same))))

-- after 1,000 records
pub begins_at_many : (items : List Record) (item : Record) → 1000 ≤ length items → begins_batch items item ≡ true
unfolding begins_batch
begins_at_many items item many =
    or_second (stands_elsewhere items item) (nat_lt 1000 (length items + 1)) (nat_lt 16777216 (length (group_form (items ++ item ∷ []))))
    (above 1000 (length items + 1) (one_over (length items) many))

lengths : (greatest a b x y s : ℕ) → 16777216 < greatest → x ≡ min a greatest → y ≡ min b greatest → s ≡ min (x + y) greatest → nat_lt 16777216 s ≡ nat_lt 16777216 (a + b)
lengths greatest a b x y s big one two three = grind (arith, nat_tests)

-- and otherwise where the form would be too long
pub begins_by_size : (items before : List Record) (last item : Record) (greatest bytes more sum : ℕ) → items ≡ before ++ last ∷ [] → item.position ≡ last.position → length items < 1000 → 16777216 < greatest
    → bytes ≡ min (length (group_form items)) greatest → more ≡ min (length (record_form item)) greatest → sum ≡ min (bytes + more) greatest → nat_lt 16777216 sum ≡ begins_batch items item
unfolding begins_batch
begins_by_size items before last item greatest bytes more sum is same few big one two three =
    lengths greatest (length (group_form items)) (length (record_form item)) bytes more sum big one two three
    ∙ (ap (nat_lt 16777216) (sym (form_more items item))
    ∙ sym (or_third (stands_elsewhere items item) (nat_lt 1000 (length items + 1)) (nat_lt 16777216 (length (group_form (items ++ item ∷ []))))
    (ap (λ (l : List Record). stands_elsewhere l item) is ∙ (elsewhere_last before last item ∙ is_same last.position item.position (sym same)))
    (not_above 1000 (length items + 1) (one_under (length items) few))))

-- ---- how many records are the last of their commit

none_last : (items : List Record) (item : Record) (b : Bool) → item.last ≡ b → HasLastsAtItsEnd (item ∷ items) → 1 ≤ length items → item.last ≡ false
none_last items item true is ends some = absurd (omega (arith, some, ends.each 0 item refl is))
none_last items item false is ends some = is

rest_ends : (items : List Record) (item : Record) → HasLastsAtItsEnd (item ∷ items) → HasLastsAtItsEnd items
rest_ends items item ends = record { each = λ place x at last. less place (length items) (ends.each (suc place) x at last) }
  where
    less : (p n : ℕ) → suc p + 1 ≡ suc n → p + 1 ≡ n
    less p n is = omega (arith, is)

counts_one : (item : Record) (b : Bool) → item.last ≡ b → lasts (item ∷ []) ≡ cond b 1 0
counts_one item true is = ap (λ (b : Bool). length (cond b (item ∷ []) [])) is
counts_one item false is = ap (λ (b : Bool). length (cond b (item ∷ []) [])) is

pub lasts_is : (items : List Record) → HasLastsAtItsEnd items → lasts items ≡ cond (ends_commit items) 1 0
lasts_is [] ends = refl
lasts_is (item ∷ []) ends = counts_one item item.last refl
lasts_is (first ∷ (second ∷ more)) ends =
    ap (λ (b : Bool). length (cond b (first ∷ filter (λ (item : Record). item.last) (second ∷ more)) (filter (λ (item : Record). item.last) (second ∷ more))))
    (none_last (second ∷ more) first first.last refl ends (omega arith))
    ∙ lasts_is (second ∷ more) (rest_ends (second ∷ more) first ends)

-- so a group of a snapshot is counted
pub noted_snapshot : (items : List Record) (report : Report) (records chunks rows count ended : ℕ) → HasLastsAtItsEnd items → count ≡ length items → ended ≡ cond (ends_commit items) 1 0
    → records ≡ min (report.records + count) (2 ^ 64 - 1) → chunks ≡ min (report.chunks + ended) (2 ^ 64 - 1) → rows ≡ min (report.snapshot_rows + (count - ended)) (2 ^ 64 - 1)
    → ◌≡◌ {A = Report} (record report { records = records; chunks = chunks; snapshot_rows = rows }) (report_with true items report)
noted_snapshot items report records chunks rows count ended ends many last one two three =
    let same : ended ≡ lasts items = last ∙ sym (lasts_is items ends) in
    let a : records ≡ counted report.records (length items) = one ∙ ap (λ (n : ℕ). counted report.records n) many in
    let b : chunks ≡ counted report.chunks (lasts items) = two ∙ ap (λ (n : ℕ). counted report.chunks n) same in
    let d : rows ≡ counted report.snapshot_rows (length items - lasts items) = three ∙ (ap (λ (n : ℕ). counted report.snapshot_rows (n - ended)) many ∙ ap (λ (n : ℕ). counted report.snapshot_rows (length items - n)) same) in
    λ i. record report { records = a i; chunks = b i; snapshot_rows = d i }
