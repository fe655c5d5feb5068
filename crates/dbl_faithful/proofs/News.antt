-- The changes among the fresh records.
use Rattle.std.proofs.Common.{◌≡◌, ◌∙◌, ◌⊎◌, inl, inr, ◌+◌, ◌<◌, ℕ, zero, suc, Bool, true, false, List, [], ◌∷◌, ◌++◌, Some, length, take, refl, sym, ap, subst, arith, append_assoc, append-nil}
use Rattle.std.specs.Prelude.{◌==◌, nat_lt, if◌then◌else◌, slice_get}
use Rattle.std.specs.List.{AllByRecursion}
use Rattle.std.proofs.lemmas.Bool.Decides.{nat_tests}
use Rattle.std.proofs.lemmas.List.Elements.{All-from_recursion, recursion_from_All}
use Rattle.dbl_record.specs.declared.record.Record.{Record}
use Rattle.dbl_record.specs.Places.{Place, place_of, IsBefore, IsFresh}
use Rattle.dbl_model_table.proofs.Lists.{bool_case, and_left, and_right, and_both, slice_get-lt}
use Rattle.dbl_consume_laws.proofs.Lists.{slice_get-seam}
use Rattle.dbl_faithful.specs.Kinds.{is_change_record}
use Rattle.dbl_faithful.specs.ExactLogs.{is_before, is_fresh, news_of, fresh_after, news}
use Rattle.dbl_faithful.specs.ExactLaws.{IsFreshChange, NewsAreFresh, NewsRise}
use Rattle.dbl_faithful.proofs.Items.{first_some, at_left, at_right, at_cases, at_all}

-- ---- tests of places

sooner_test : (p q o r : ℕ) → p < q → (if nat_lt p q then true else (if p == q then nat_lt o r else false)) ≡ true
sooner_test p q o r lt = grind (arith, nat_tests)

same_test : (p q o r : ℕ) → p ≡ q → o < r → (if nat_lt p q then true else (if p == q then nat_lt o r else false)) ≡ true
same_test p q o r e lt = grind (arith, nat_tests)

test_tells : (p q o r : ℕ) → (if nat_lt p q then true else (if p == q then nat_lt o r else false)) ≡ true → (p < q) ⊎ ((p ≡ q) × (o < r))
test_tells p q o r is = grind (arith, nat_tests)

before_true : (a b : Place) → IsBefore a b → is_before a b ≡ true
before_true a b (inl lt) = sooner_test a.0 b.0 a.1 b.1 lt
before_true a b (inr more) = same_test a.0 b.0 a.1 b.1 more.0 more.1

before_is : (a b : Place) → is_before a b ≡ true → IsBefore a b
before_is a b is = test_tells a.0 b.0 a.1 b.1 is

-- ---- whether a record is fresh

abbrev pub AreBefore : List Record → Record → Type 0
AreBefore before item = AllByRecursion (λ earlier. IsBefore (place_of earlier) (place_of item)) before

pub fresh_true : (before : List Record) (item : Record) → AreBefore before item → is_fresh before item ≡ true
fresh_true [] item all = refl
fresh_true (x ∷ before) item all =
    and_both (is_before (place_of x) (place_of item)) (is_fresh before item) (before_true (place_of x) (place_of item) all.0) (fresh_true before item all.1)

pub fresh_is : (before : List Record) (item : Record) → is_fresh before item ≡ true → AreBefore before item
fresh_is [] item is = tt
fresh_is (x ∷ before) item is = (
  before_is (place_of x) (place_of item) (and_left (is_before (place_of x) (place_of item)) (is_fresh before item) is),
  fresh_is before item (and_right (is_before (place_of x) (place_of item)) (is_fresh before item) is),
)

-- a record that one before it doesn't stand before isn't
pub stale : (before : List Record) (item : Record) (k : ℕ) (x : Record) → slice_get before k ≡ Some x → (IsBefore (place_of x) (place_of item) → ⊥) → is_fresh before item ≡ false
stale before item k x at never = elim (bool_case (is_fresh before item)) [
  | inl is ↦ absurd (never (at_all (λ (earlier : Record). IsBefore (place_of earlier) (place_of item)) before k x (fresh_is before item is) at))
  | inr isnt ↦ isnt
]

pub fresh_place : (records : List Record) (place : ℕ) (item : Record) → slice_get records place ≡ Some item → AreBefore (take place records) item → IsFresh records place
fresh_place records place item at all = (item, at, All-from_recursion (λ (earlier : Record). IsBefore (place_of earlier) (place_of item)) (take place records) all)

pub fresh_before : (records : List Record) (place : ℕ) (item : Record) → slice_get records place ≡ Some item → IsFresh records place → AreBefore (take place records) item
fresh_before records place item at fresh =
    let one : fresh.0 ≡ item = first_some fresh.0 item (sym fresh.1 ∙ at) in
    subst (AreBefore (take place records)) one (recursion_from_All (λ (earlier : Record). IsBefore (place_of earlier) (place_of fresh.0)) (take place records) fresh.2)

-- ---- one record

pub news_fresh : (before : List Record) (item : Record) → is_fresh before item ≡ true → is_change_record item ≡ true → news_of before item ≡ item ∷ []
news_fresh before item fresh change =
    ap (λ (b : Bool). if b then (if is_change_record item then item ∷ [] else []) else []) fresh ∙ ap (λ (b : Bool). if b then item ∷ [] else []) change

pub news_stale : (before : List Record) (item : Record) → is_fresh before item ≡ false → news_of before item ≡ []
news_stale before item isnt = ap (λ (b : Bool). if b then (if is_change_record item then item ∷ [] else []) else []) isnt

pub news_other : (before : List Record) (item : Record) → is_change_record item ≡ false → news_of before item ≡ []
news_other before item other = by (is_fresh before item)
  where
    by : (b : Bool) → (if b then (if is_change_record item then item ∷ [] else []) else []) ≡ []
    by true = ap (λ (c : Bool). if c then item ∷ [] else []) other
    by false = refl

-- ---- more records

fresh_after-append : (before xs ys : List Record) → fresh_after before (xs ++ ys) ≡ fresh_after before xs ++ fresh_after (before ++ xs) ys
fresh_after-append before [] ys = ap (λ (l : List Record). fresh_after l ys) (sym (append-nil before))
fresh_after-append before (x ∷ xs) ys =
    let rest : fresh_after (before ++ x ∷ []) (xs ++ ys) ≡ fresh_after (before ++ x ∷ []) xs ++ fresh_after (before ++ x ∷ xs) ys =
    fresh_after-append (before ++ x ∷ []) xs ys ∙ ap (λ (l : List Record). fresh_after (before ++ x ∷ []) xs ++ fresh_after l ys) (append_assoc before (x ∷ []) xs) in
    ap (λ (l : List Record). news_of before x ++ l) rest
    ∙ sym (append_assoc (news_of before x) (fresh_after (before ++ x ∷ []) xs) (fresh_after (before ++ x ∷ xs) ys))

pub news-push : (records : List Record) (item : Record) → news (records ++ item ∷ []) ≡ news records ++ news_of records item
news-push records item = fresh_after-append [] records (item ∷ []) ∙ ap (λ (l : List Record). news records ++ l) (append-nil (news_of records item))

-- a record that adds none
pub news_same : (records : List Record) (item : Record) → news_of records item ≡ [] → news (records ++ item ∷ []) ≡ news records
news_same records item none = news-push records item ∙ (ap (λ (l : List Record). news records ++ l) none ∙ append-nil (news records))

-- ---- where each stands

of_news : (fresh change : Bool) (x item : Record) (number : ℕ) → slice_get (if fresh then (if change then x ∷ [] else []) else []) number ≡ Some item → (x ≡ item) × (fresh ≡ true) × (change ≡ true)
of_news true true x item zero at = (first_some x item at, refl, refl)
of_news true true x item (suc number) at = cc
of_news true false x item number at = cc
of_news false change x item number at = cc

stands_since : (before items : List Record) (number : ℕ) (item : Record) → slice_get (fresh_after before items) number ≡ Some item
    → (j : ℕ) × (slice_get items j ≡ Some item) × (is_fresh (before ++ take j items) item ≡ true) × (is_change_record item ≡ true)
stands_since before [] number item at = cc
stands_since before (x ∷ items) number item at = elim (at_cases (news_of before x) (fresh_after (before ++ x ∷ []) items) number item at) [
  | inl here ↦ (
      let own = of_news (is_fresh before x) (is_change_record x) x item number here in
      let one : x ≡ item = own.0 in (
        0,
        ap Some one,
        subst (λ (l : List Record). is_fresh l item ≡ true) (sym (append-nil before)) (ap (is_fresh before) (sym one) ∙ own.1),
        ap is_change_record (sym one) ∙ own.2,
      ))
  | inr later ↦ (
      let rest = stands_since (before ++ x ∷ []) items later.0 item later.1 in
      (suc rest.0, rest.1, subst (λ (l : List Record). is_fresh l item ≡ true) (append_assoc before (x ∷ []) (take rest.0 items)) rest.2, rest.3))
]

pub news_stand : (records : List Record) (number : ℕ) (item : Record) → slice_get (news records) number ≡ Some item → IsFreshChange records item
news_stand records number item at =
    let found = stands_since [] records number item at in
    record { place = found.0; stands = found.1; fresh = fresh_place records found.0 item found.1 (fresh_is (take found.0 records) item found.2); change = found.3 }

has_after : (before items : List Record) (j : ℕ) (item : Record) → slice_get items j ≡ Some item → is_fresh (before ++ take j items) item ≡ true → is_change_record item ≡ true
    → (number : ℕ) × (slice_get (fresh_after before items) number ≡ Some item)
has_after before [] j item at fresh change = cc
has_after before (x ∷ items) zero item at fresh change =
    let one : item ≡ x = sym (first_some x item at) in
    let here : is_fresh before x ≡ true = subst (λ (r : Record). is_fresh before r ≡ true) one (subst (λ (l : List Record). is_fresh l item ≡ true) (append-nil before) fresh) in
    let made : news_of before x ≡ x ∷ [] = news_fresh before x here (ap is_change_record (sym one) ∙ change) in
    (0, ap (λ (l : List Record). slice_get (l ++ fresh_after (before ++ x ∷ []) items) 0) made ∙ ap Some (sym one))
has_after before (x ∷ items) (suc j) item at fresh change =
    let rest = has_after (before ++ x ∷ []) items j item at (subst (λ (l : List Record). is_fresh l item ≡ true) (sym (append_assoc before (x ∷ []) (take j items))) fresh) change in
    (length (news_of before x) + rest.0, at_right (news_of before x) (fresh_after (before ++ x ∷ []) items) rest.0 item rest.1)

pub news_have : (records : List Record) (place : ℕ) (item : Record) → slice_get records place ≡ Some item → IsFresh records place → is_change_record item ≡ true → (number : ℕ) × (slice_get (news records) number ≡ Some item)
news_have records place item at fresh change = has_after [] records place item at (fresh_true (take place records) item (fresh_before records place item at fresh)) change

pub news_are_fresh : NewsAreFresh
news_are_fresh records item = (
  λ found. news_stand records found.0 item found.1,
  λ stands. news_have records stands.place item stands.stands stands.fresh stands.change,
)

-- ---- they rise

-- what is news after a record is after that record
after_one : (before items : List Record) (x : Record) (number : ℕ) (item : Record) → slice_get (fresh_after (before ++ x ∷ []) items) number ≡ Some item → IsBefore (place_of x) (place_of item)
after_one before items x number item at =
    let found = stands_since (before ++ x ∷ []) items number item at in
    let all : AreBefore ((before ++ x ∷ []) ++ take found.0 items) item = fresh_is ((before ++ x ∷ []) ++ take found.0 items) item found.2 in
    at_all (λ (earlier : Record). IsBefore (place_of earlier) (place_of item)) ((before ++ x ∷ []) ++ take found.0 items) (length before) x all
    (at_left (before ++ x ∷ []) (take found.0 items) (length before) x (slice_get-seam before x []))

never_two : (fresh change : Bool) (x : Record) (i j : ℕ) (b : Record) → i < j → slice_get (if fresh then (if change then x ∷ [] else []) else []) j ≡ Some b → ⊥
never_two true true x i zero b lt at = omega (arith, lt)
never_two true true x i (suc j) b lt at = cc
never_two true false x i j b lt at = cc
never_two false change x i j b lt at = cc

never_back : (i j n k : ℕ) → i < j → i ≡ n + k → j < n → ⊥
never_back i j n k lt is le = omega (arith, lt, is, le)

still_later : (i j n k l : ℕ) → i < j → i ≡ n + k → j ≡ n + l → k < l
still_later i j n k l lt one two = omega (arith, lt, one, two)

rise_after : (before items : List Record) (i j : ℕ) (a b : Record) → i < j → slice_get (fresh_after before items) i ≡ Some a → slice_get (fresh_after before items) j ≡ Some b → IsBefore (place_of a) (place_of b)
rise_after before [] i j a b lt at_a at_b = cc
rise_after before (x ∷ items) i j a b lt at_a at_b = elim (at_cases (news_of before x) (fresh_after (before ++ x ∷ []) items) i a at_a) [
  | inl first ↦ elim (at_cases (news_of before x) (fresh_after (before ++ x ∷ []) items) j b at_b) [
    | inl second ↦ absurd (never_two (is_fresh before x) (is_change_record x) x i j b lt second)
    | inr later ↦ subst (λ (r : Record). IsBefore (place_of r) (place_of b)) (of_news (is_fresh before x) (is_change_record x) x a i first).0 (after_one before items x later.0 b later.1)
  ]
  | inr rest ↦ elim (at_cases (news_of before x) (fresh_after (before ++ x ∷ []) items) j b at_b) [
    | inl second ↦ absurd (never_back i j (length (news_of before x)) rest.0 lt rest.2 (slice_get-lt (news_of before x) j b second))
    | inr later ↦ rise_after (before ++ x ∷ []) items rest.0 later.0 a b (still_later i j (length (news_of before x)) rest.0 later.0 lt rest.2 later.2) rest.1 later.1
  ]
]

pub news_rise : NewsRise
news_rise records i j a b lt at_a at_b = rise_after [] records i j a b lt at_a at_b
