-- Batches of records that come after others.
use Rattle.std.proofs.Common.{◌≡◌, ◌∙◌, ◌⊎◌, inl, inr, ◌+◌, ◌-◌, ◌≤◌, ◌<◌, ℕ, zero, suc, Bool, true, false, cond, List, [], ◌∷◌, ◌++◌, length, take, refl, sym, ap, subst, arith, append_assoc, append-nil}
use Rattle.dbl_record.specs.declared.record.Record.{Record}
use Rattle.std.specs.List.{AllByRecursion}
use Rattle.dbl_record.specs.Cuts.{IsHandful, begins_batch, batches_after, cut, joined}
use Rattle.dbl_record.proofs.CutLaws.{cut_torn, cuts_are_handfuls, cuts_join}
use Rattle.std.specs.Prelude.{Option, Some, None, IfSome}
use Rattle.dbl_capture_work.specs.declared.groups.Gathered.{Gathered}
use Rattle.dbl_capture_work.specs.Groups.{IsBatched, IsGathered, records_in}

none_left : (group items : List Record) → batches_after group items ≡ [] → ⊥
none_left group [] is = cc
none_left group (item ∷ items) is = by (begins_batch group item) (none_left (group ++ item ∷ []) items) is
  where
    by : (b : Bool) → (batches_after (group ++ item ∷ []) items ≡ [] → ⊥) → cond b (group ∷ batches_after (item ∷ []) items) (batches_after (group ++ item ∷ []) items) ≡ [] → ⊥
    by true rest same = cc
    by false rest same = rest same

-- the last batch goes on with the records after it
pub last_goes_on : (group items : List Record) (front : List (List Record)) (last more : List Record) → batches_after group items ≡ front ++ last ∷ [] → batches_after group (items ++ more) ≡ front ++ batches_after last more
last_goes_on group [] [] last more is =
    let same : group ≡ last = cc in
    ap (λ (g : List Record). batches_after g more) same
last_goes_on group [] (first ∷ []) last more is = cc
last_goes_on group [] (first ∷ (second ∷ front)) last more is = cc
last_goes_on group (item ∷ items) front last more is =
    by (begins_batch group item) front (λ other. last_goes_on (item ∷ []) items other last more) (last_goes_on (group ++ item ∷ []) items front last more) is
  where
    by : (b : Bool) (front : List (List Record)) → ((other : List (List Record)) → batches_after (item ∷ []) items ≡ other ++ last ∷ [] → batches_after (item ∷ []) (items ++ more) ≡ other ++ batches_after last more)
        → (batches_after (group ++ item ∷ []) items ≡ front ++ last ∷ [] → batches_after (group ++ item ∷ []) (items ++ more) ≡ front ++ batches_after last more) → cond b (group ∷ batches_after (item ∷ []) items) (batches_after (group ++ item ∷ []) items) ≡ front ++ last ∷ []
        → cond b (group ∷ batches_after (item ∷ []) (items ++ more)) (batches_after (group ++ item ∷ []) (items ++ more)) ≡ front ++ batches_after last more
    by true [] begun joined same =
        let none : batches_after (item ∷ []) items ≡ [] = cc in
        absurd (none_left (item ∷ []) items none)
    by true (first ∷ front) begun joined same =
        let here : group ≡ first = cc in
        let rest : batches_after (item ∷ []) items ≡ front ++ last ∷ [] = cc in
        ap (λ (l : List (List Record)). group ∷ l) (begun front rest) ∙ ap (λ (g : List Record). g ∷ (front ++ batches_after last more)) here
    by false front begun joined same = joined same

-- of records that are one batch, the batches go on from it
pub own_goes_on : (group more : List Record) → cut group ≡ group ∷ [] → cut (group ++ more) ≡ batches_after group more
own_goes_on [] more is = cc
own_goes_on (item ∷ group) more is = last_goes_on (item ∷ []) group [] (item ∷ group) more is

-- a record that begins no batch joins it
pub own_joins : (group : List Record) (item : Record) → cut group ≡ group ∷ [] → begins_batch group item ≡ false → cut (group ++ item ∷ []) ≡ (group ++ item ∷ []) ∷ []
own_joins group item is joins = own_goes_on group (item ∷ []) is ∙ ap (λ (b : Bool). cond b (group ∷ (item ∷ []) ∷ []) ((group ++ item ∷ []) ∷ [])) joins

-- ---- a batch after records that were put

-- the batches of all records are those that were put, and the batch's with the records after it
pub cut_after : (put batch more : List Record) → IsBatched put batch → cut batch ≡ batch ∷ [] → cut (put ++ (batch ++ more)) ≡ cut put ++ cut (batch ++ more)
cut_after put [] more batched own = cc
cut_after [] (item ∷ batch) more batched own = refl
cut_after (first ∷ put) (item ∷ batch) more batched own =
    ap cut (sym (append_assoc (first ∷ put) (item ∷ batch) more))
    ∙ (last_goes_on (first ∷ []) (put ++ item ∷ batch) (cut (first ∷ put)) (item ∷ batch) more batched
    ∙ ap (λ (l : List (List Record)). cut (first ∷ put) ++ l) (sym (own_goes_on (item ∷ batch) more own)))

one_some : (n : ℕ) → 1 ≤ suc n
one_some n = omega arith

-- and of the first ones of the batch
pub cut_within : (put batch : List Record) (n : ℕ) → IsBatched put batch → cut batch ≡ batch ∷ [] → n ≤ length batch → cut (put ++ take n batch) ≡ cut put ++ cut (take n batch)
cut_within put [] n batched own le = cc
cut_within put (item ∷ batch) zero batched own le = ap cut (append-nil put) ∙ sym (append-nil (cut put))
cut_within put (item ∷ batch) (suc n) batched own le =
    ap (λ (l : List Record). cut (l ++ take (suc n) (item ∷ batch))) (sym (cuts_join put))
    ∙ (cut_torn (put ++ item ∷ batch) (cut put) [] (item ∷ batch) (suc n) batched (one_some n) le
    ∙ ap (λ (l : List (List Record)). cut put ++ l) (sym (cut_torn (item ∷ batch) [] [] (item ∷ batch) (suc n) own (one_some n) le)))

le_cases : (a b : ℕ) → (a ≤ b) ⊎ (b < a)
le_cases zero b = inl (omega arith)
le_cases (suc a) zero = inr (omega arith)
le_cases (suc a) (suc b) = elim (le_cases a b) [
  | inl le ↦ inl (omega (arith, le))
  | inr lt ↦ inr (omega (arith, lt))
]

pub take_within : (n : ℕ) (xs ys : List Record) → n ≤ length xs → take n (xs ++ ys) ≡ take n xs
take_within zero xs ys le = refl
take_within (suc n) [] ys le = absurd (none n le)
  where
    none : (n : ℕ) → suc n ≤ zero → ⊥
    none n le = omega (arith, le)
take_within (suc n) (x ∷ xs) ys le = ap (λ (l : List Record). x ∷ l) (take_within n xs ys (less n (length xs) le))
  where
    less : (a b : ℕ) → suc a ≤ suc b → a ≤ b
    less a b le = omega (arith, le)

take_beyond : (n : ℕ) (xs ys : List Record) → length xs ≤ n → take n (xs ++ ys) ≡ xs ++ take (n - length xs) ys
take_beyond n [] ys le = ap (λ (k : ℕ). take k ys) (same n)
  where
    same : (n : ℕ) → n ≡ n - 0
    same n = omega arith
take_beyond zero (x ∷ xs) ys le = absurd (none (length xs) le)
  where
    none : (n : ℕ) → suc n ≤ zero → ⊥
    none n le = omega (arith, le)
take_beyond (suc n) (x ∷ xs) ys le =
    ap (λ (l : List Record). x ∷ l) (take_beyond n xs ys (less (length xs) n le) ∙ ap (λ (k : ℕ). xs ++ take k ys) (same n (length xs)))
  where
    less : (a b : ℕ) → suc a ≤ suc b → a ≤ b
    less a b le = omega (arith, le)

    same : (n k : ℕ) → n - k ≡ suc n - suc k
    same n k = omega arith

lt_le : (a b : ℕ) → a < b → a ≤ b
lt_le a b lt = omega (arith, lt)

-- Records that are one batch, if there are any.
abbrev pub IsOwnBatch : List Record → Type 0
IsOwnBatch [] = Unit {0}
IsOwnBatch (item ∷ items) = cut (item ∷ items) ≡ (item ∷ items) ∷ []

pub own_batch : (items : List Record) → cut items ≡ items ∷ [] → IsOwnBatch items
own_batch [] is = tt
own_batch (item ∷ items) is = is

pub own_gathered : (batch : Option Gathered) → IfSome batch IsGathered → IsOwnBatch (records_in batch)
own_gathered None is = tt
own_gathered (Some gathered) is = own_batch gathered.items.items is.own

-- of any first ones of the batch and the records after it
pub cut_taken : (put batch more : List Record) (n : ℕ) → IsBatched put batch → IsOwnBatch batch → cut (put ++ take n (batch ++ more)) ≡ cut put ++ cut (take n (batch ++ more))
cut_taken put [] more n batched own =
    ap (λ (p : List Record). cut (p ++ take n more)) batched ∙ ap (λ (p : List Record). cut p ++ cut (take n more)) (sym batched)
cut_taken put (item ∷ batch) more n batched own = elim (le_cases n (length (item ∷ batch))) [
  | inl le ↦ ap (λ (l : List Record). cut (put ++ l)) (take_within n (item ∷ batch) more le)
      ∙ (cut_within put (item ∷ batch) n batched own le ∙ ap (λ (l : List Record). cut put ++ cut l) (sym (take_within n (item ∷ batch) more le)))
  | inr lt ↦ ap (λ (l : List Record). cut (put ++ l)) (take_beyond n (item ∷ batch) more (lt_le (length (item ∷ batch)) n lt))
      ∙ (cut_after put (item ∷ batch) (take (n - length (item ∷ batch)) more) batched own
      ∙ ap (λ (l : List Record). cut put ++ cut l) (sym (take_beyond n (item ∷ batch) more (lt_le (length (item ∷ batch)) n lt))))
]

-- a sink takes such a batch
pub own_handful : (group : List Record) → cut group ≡ group ∷ [] → IsHandful group
own_handful group own = (subst (AllByRecursion IsHandful) own (cuts_are_handfuls group)).0
