-- The greatest place of records.
use Rattle.std.proofs.Common.{◌≡◌, ◌⊎◌, inl, inr, ℕ, zero, suc, ◌<◌, ◌≤◌, List, [], ◌∷◌, map, subst, arith}
use Rattle.std.proofs.lemmas.List.Elements.{All-nil, All-cons, All-weaker, All-contains, Contains-get_or, Contains-append_right}
use Rattle.dbl_record.specs.declared.record.Record.{Record}
use Rattle.dbl_record.specs.Places.{Place, place_of, IsBefore, IsTop, TopsAreOne, TopsStand}

split : (n m : ℕ) → (n ≤ m) ⊎ (m < n)
split zero m = inl (omega arith)
split (suc n) zero = inr (omega arith)
split (suc n) (suc m) = elim (split n m) [ inl low ↦ inl (omega arith) | inr high ↦ inr (omega arith) ]

-- one of two places stands before the other, or they are one
compared : (a b : Place) → IsBefore a b ⊎ ((a ≡ b) ⊎ IsBefore b a)
compared a b =
    elim (split a.0 b.0) [
      | inr above ↦ inr (inr (inl above))
      | inl low ↦ elim (split b.0 a.0) [
        | inr below ↦ inl (inl below)
        | inl high ↦ elim (split a.1 b.1) [
          | inr over ↦ inr (inr (inr (omega arith, over)))
          | inl under ↦ elim (split b.1 a.1) [
            | inr less ↦ inl (inr (omega arith, less))
            | inl more ↦ let first : a.0 ≡ b.0 = omega arith in let second : a.1 ≡ b.1 = omega arith in inr (inl (λ i. (first i, second i)))
          ]
        ]
      ]
    ]

after_itself : (a : Place) → ¬ IsBefore a a
after_itself a (inl less) = absurd (omega arith)
after_itself a (inr less) = absurd (omega arith)

before_both : (a b c : Place) → IsBefore a b → IsBefore b c → IsBefore a c
before_both a b c (inl p) (inl q) = inl (omega arith)
before_both a b c (inl p) (inr q) = inl (omega arith)
before_both a b c (inr p) (inl q) = inl (omega arith)
before_both a b c (inr p) (inr q) = inr (omega arith, omega arith)

pub tops_are_one : TopsAreOne
tops_are_one records a b p q =
    elim (compared a b) [
      | inl before ↦ absurd (All-contains (λ place. ¬ IsBefore a place) (map place_of records) b p.greatest q.taken before)
      | inr rest ↦ elim rest [
        | inl same ↦ same
        | inr subsequent ↦ absurd (All-contains (λ place. ¬ IsBefore b place) (map place_of records) a q.greatest p.taken subsequent)
      ]
    ]

top_of_two : (item : Record) (records : List Record) (top : Place) → IsTop records top → (place : Place) × IsTop (item ∷ records) place
top_of_two item records top h =
    elim (compared (place_of item) top) [
      | inl before ↦ (
        top,
        record {
          taken = Contains-append_right (place_of item ∷ []) (map place_of records) top h.taken;
          greatest = All-cons (λ place. ¬ IsBefore top place) (place_of item) (map place_of records) (λ back. after_itself top (before_both top (place_of item) top back before)) h.greatest;
        },
      )
      | inr rest ↦ (
        place_of item,
        record {
          taken = Contains-get_or (place_of item ∷ map place_of records) 0 (place_of item) (omega arith);
          greatest = All-cons (λ place. ¬ IsBefore (place_of item) place) (place_of item) (map place_of records) (after_itself (place_of item))
              (All-weaker (λ place. ¬ IsBefore top place) (λ place. ¬ IsBefore (place_of item) place) (λ place none before. none (elim rest [
                | inl same ↦ subst (λ p. IsBefore p place) same before
                | inr less ↦ before_both top (place_of item) place less before
              ])) (map place_of records) h.greatest);
        },
      )
    ]

pub tops_stand : TopsStand
tops_stand item [] = (
  place_of item,
  record {
    taken = Contains-get_or (place_of item ∷ []) 0 (place_of item) (omega arith);
    greatest = All-cons (λ place. ¬ IsBefore (place_of item) place) (place_of item) [] (after_itself (place_of item)) (All-nil (λ place. ¬ IsBefore (place_of item) place));
  },
)
tops_stand item (next ∷ records) = let rest = tops_stand next records in top_of_two item (next ∷ records) rest.0 rest.1
