-- The first records of a group, as a group of their own.
use Rattle.std.proofs.Common.{◌≡◌, ◌∙◌, ℕ, zero, suc, ◌+◌, ◌<◌, ◌≤◌, Bool, true, false, cond, not, Option, Some}
use Rattle.std.proofs.Common.{None, List, [], ◌∷◌, ◌++◌, length, take, get_or, refl, ap, subst, inl, inr, arith}
use Rattle.std.specs.List.{flat_map, position_from}
use Rattle.std.proofs.lemmas.List.{length-append}
use Rattle.dbl_record.specs.declared.record.Record.{Record}
use Rattle.dbl_record.specs.Groups.{group_form, record_form}
use Rattle.dbl_record.specs.Cuts.{IsHandful}
use Rattle.dbl_record.proofs.Sizes.{group_size}
use Rattle.dbl_hooks_gate.specs.declared.rule.Rule.{Rule}
use Rattle.dbl_hooks_gate.specs.Rules.{AreAllowed, is_allowed}

-- ---- their length

forms_shorter : (n : ℕ) (items : List Record) → length (flat_map record_form (take n items)) ≤ length (flat_map record_form items)
forms_shorter zero items = omega arith
forms_shorter (suc n) [] = omega arith
forms_shorter (suc n) (item ∷ items) =
    omega (
      arith,
      forms_shorter n items,
      length-append (record_form item) (flat_map record_form (take n items)),
      length-append (record_form item) (flat_map record_form items),
    )

pub length_before : (n : ℕ) (items : List Record) → n ≤ length items → length (take n items) ≡ n
length_before zero items le = refl
length_before (suc n) [] le = absurd (omega (arith, le))
length_before (suc n) (item ∷ items) le = ap suc (length_before n items (omega (arith, le)))

-- fewer records than all of a group have at most 2^24 bytes
pub before_short : (group : List Record) (n : ℕ) → IsHandful group → 1 ≤ n → n < length group → length (group_form (take n group)) ≤ 16777216
before_short group n handful some within = elim handful.small [
  | inl small ↦ omega (arith, small, forms_shorter n group, group_size group, group_size (take n group))
  | inr one ↦ absurd (omega (arith, one, some, within))
]

-- and are a group that a sink accepts
pub before_handful : (group : List Record) (n : ℕ) → IsHandful group → 1 ≤ n → n < length group → IsHandful (take n group)
before_handful group n handful some within = record {
  some = omega (arith, some, within, length_before n group (omega (arith, within)));
  few = omega (arith, handful.few, within, length_before n group (omega (arith, within)));
  small = inl (before_short group n handful some within);
}

-- ---- the first one that is refused

-- The record at this index of the group isn't allowed, and those before it are.
pub record IsRefusedAt (rule : Rule) (items : List Record) (n : ℕ) : Type 0 where
  pub item : Record
  pub after : List Record
  pub within : n < length items
  pub parted : items ≡ take n items ++ item ∷ after
  pub allowed : AreAllowed rule (take n items)
  pub refused : is_allowed rule item ≡ false

some_inside : Option ℕ → ℕ
some_inside None = 0
some_inside (Some n) = n

some_is : (i n : ℕ) → Some i ≡ Some n → i ≡ n
unfolding some_inside
some_is i n is = ap some_inside is

abbrev FoundAt : Rule → List Record → ℕ → ℕ → Type 0
FoundAt rule items i n = (k : ℕ) × (n ≡ i + k) × IsRefusedAt rule items k

-- the index of the first record that isn't allowed, counted from here
abbrev place_from : Rule → ℕ → List Record → Option ℕ
place_from rule i items = position_from (λ item. not (is_allowed rule item)) i items

found_if : (rule : Rule) (x : Record) (xs : List Record) (i n : ℕ) → (place_from rule (i + 1) xs ≡ Some n → FoundAt rule xs (i + 1) n) → (b : Bool)
    → is_allowed rule x ≡ b → cond (not b) (Some i) (place_from rule (i + 1) xs) ≡ Some n → FoundAt rule (x ∷ xs) i n
found_if rule x xs i n later true e is =
    let found = later is in (
      suc found.0,
      omega (arith, found.1),
      record {
        item = found.2.item;
        after = found.2.after;
        within = omega (arith, found.2.within);
        parted = ap (λ (l : List Record). x ∷ l) found.2.parted;
        allowed = (e, found.2.allowed);
        refused = found.2.refused;
      },
    )
found_if rule x xs i n later false e is =
    (0, omega (arith, some_is i n is), record { item = x; after = xs; within = omega arith; parted = refl; allowed = tt; refused = e })

found_from : (rule : Rule) (items : List Record) (i n : ℕ) → place_from rule i items ≡ Some n → FoundAt rule items i n
found_from rule [] i n is = absurd cc
found_from rule (x ∷ xs) i n is = found_if rule x xs i n (found_from rule xs (i + 1) n) (is_allowed rule x) refl is

pub found_at : (rule : Rule) (items : List Record) (n : ℕ) → position_from (λ item. not (is_allowed rule item)) 0 items ≡ Some n → IsRefusedAt rule items n
found_at rule items n is =
    let found = found_from rule items 0 n is in
    let same : found.0 ≡ n = omega (arith, found.1) in
    subst (λ (k : ℕ). IsRefusedAt rule items k) same found.2

allowed_if : (rule : Rule) (x : Record) (xs : List Record) (i : ℕ) → (place_from rule (i + 1) xs ≡ None → AreAllowed rule xs) → (b : Bool)
    → is_allowed rule x ≡ b → cond (not b) (Some i) (place_from rule (i + 1) xs) ≡ None → AreAllowed rule (x ∷ xs)
allowed_if rule x xs i later true e is = (e, later is)
allowed_if rule x xs i later false e is = absurd cc

allowed_from : (rule : Rule) (items : List Record) (i : ℕ) → place_from rule i items ≡ None → AreAllowed rule items
allowed_from rule [] i is = tt
allowed_from rule (x ∷ xs) i is = allowed_if rule x xs i (allowed_from rule xs (i + 1)) (is_allowed rule x) refl is

-- none is refused
pub all_allowed : (rule : Rule) (items : List Record) → position_from (λ item. not (is_allowed rule item)) 0 items ≡ None → AreAllowed rule items
all_allowed rule items is = allowed_from rule items 0 is

-- the record at the index is that one
pub item_at : (rule : Rule) (items : List Record) (n : ℕ) (found : Record) (at : IsRefusedAt rule items n) → found ≡ get_or items n found → found ≡ at.item
item_at rule items n found at is = is ∙ (ap (λ (l : List Record). get_or l n found) at.parted ∙ get_after items n at.within)
  where
    get_after : (xs : List Record) (k : ℕ) → k < length xs → get_or (take k xs ++ at.item ∷ at.after) k found ≡ at.item
    get_after [] k lt = absurd (omega (arith, lt))
    get_after (x ∷ xs) zero lt = refl
    get_after (x ∷ xs) (suc k) lt = get_after xs k (omega (arith, lt))
