-- Who holds what of a table once a session has ended.
use Rattle.std.proofs.Common.{◌≡◌, ◌∙◌, inl, inr, ℕ, Bool, true, false, Option, Some, None, List, refl, sym, ap, subst}
use Rattle.std.specs.Prelude.{◌&&◌, ◌||◌, not, IfSome, if◌then◌else◌, option_map, bytes_eq}
use Rattle.std.specs.BTreeSet.{BTreeSet, contains}
use Rattle.dbl_base.specs.Texts.{text_cmp}
use Rattle.dbl_model_table.specs.declared.row.Key.{Key}
use Rattle.dbl_model_table.proofs.Lists.{bool_case, same_text}
use Rattle.dbl_tables_rows.specs.declared.slots.Held.{Held}
use Rattle.dbl_tables_rows.specs.declared.rows.Cleared.{Cleared}
use Rattle.dbl_tables_rows.specs.declared.held.HeldKey.{HeldKey}
use Rattle.dbl_tables_rows.specs.Views.{Slots, committed_in, held_in, owner_in, is_owner, is_holder_in, IsAlone}
use Rattle.dbl_tables_rows.specs.Changing.{given_up, cleared_left, restored}
use Rattle.dbl_tables_rows.specs.Ends.{ReleasesAll}
use Rattle.dbl_tables_rows.specs.Listed.{is_listed}
use Rattle.dbl_tables_changes.specs.AcceptedSteps.{AreListed, AreListedBefore, HasNothingCommitted}
use Rattle.dbl_tables_changes.proofs.UnderLemmas.{two, carried}

-- the session that holds a lock
abbrev pub owner_of : Option Held → Option (List ℕ)
owner_of held = option_map (λ (h : Held). h.by) held

module _ (s t : List ℕ) where
  -- who gives up a lock holds nothing there, and others hold what they held
  pub owner_released : (held : Option Held) (listed : Bool) → IfSome held (λ h. h.by ≡ s → listed ≡ true)
      → is_owner t (owner_of (if listed then given_up s held else held)) ≡ (if bytes_eq s t then false else is_owner t (owner_of held))
  owner_released None listed told = by listed (bytes_eq s t)
    where
      by : (l b : Bool) → is_owner t (owner_of (if l then None else None)) ≡ (if b then false else false)
      by true true = refl
      by true false = refl
      by false true = refl
      by false false = refl
  owner_released (Some h) listed told = by (bytes_eq h.by s) (bytes_eq s t) listed refl refl told
    where
      not_theirs : bytes_eq s t ≡ false → bytes_eq h.by s ≡ true → false ≡ bytes_eq h.by t
      not_theirs st hs = elim (bool_case (bytes_eq h.by t)) [
        | inl ht ↦ absurd (two h.by s t hs ht st)
        | inr ht ↦ sym ht
      ]

      by : (hs st l : Bool) → bytes_eq h.by s ≡ hs → bytes_eq s t ≡ st → (h.by ≡ s → l ≡ true)
          → is_owner t (owner_of (if l then (if hs then None else Some h) else Some h)) ≡ (if st then false else bytes_eq h.by t)
      by true true true hs st l = refl
      by true false true hs st l = not_theirs st hs
      by true st false hs is l = let contra : false ≡ true = l (same_text h.by s hs) in cc
      by false true true hs st l = carried h.by s t st ∙ hs
      by false true false hs st l = carried h.by s t st ∙ hs
      by false false true hs st l = refl
      by false false false hs st l = refl

-- the lock that is left is one that stood there
pub left_of : (s : List ℕ) (held : Option Held) (listed : Bool) (P : List ℕ → Type 0) → IfSome held (λ h. P h.by) → IfSome (if listed then given_up s held else held) (λ h. P h.by)
left_of s None true P all = tt
left_of s None false P all = tt
left_of s (Some h) true P all = by (bytes_eq h.by s)
  where
    by : (b : Bool) → IfSome (if b then None else Some h) (λ (x : Held). P x.by)
    by true = tt
    by false = all
left_of s (Some h) false P all = all

module _ (s : List ℕ) (place : ℕ) (keys : List HeldKey) (slots new : Slots) where
  pub rolled_owner : (cleared : Option Cleared) (t : List ℕ) (key : Key) → ReleasesAll place keys s (restored s cleared slots) new → AreListed place slots s keys → AreListedBefore place cleared s keys → IsAlone cleared slots
      → is_owner t (owner_in (cleared_left s cleared) new key) ≡ (if bytes_eq s t then false else is_owner t (owner_in cleared slots key))
  rolled_owner None t key releases listed before alone =
      ap (λ (h : Option Held). is_owner t (owner_of h)) (releases.held key) ∙ owner_released s t (held_in slots key) (is_listed place key keys) (listed key)
  rolled_owner (Some cleared) t key releases listed before alone = by (bytes_eq cleared.by s) (bytes_eq s t) refl refl (releases.held key)
    where
      -- after the undone truncate nobody else has a lock
      only : (held : Option Held) → IfSome held (λ h. h.by ≡ cleared.by) → bytes_eq cleared.by s ≡ true → bytes_eq s t ≡ false → is_owner t (owner_of held) ≡ false
      only None own cs st = refl
      only (Some h) own cs st = elim (bool_case (bytes_eq h.by t)) [
        | inl ht ↦ absurd (two h.by s t (ap (λ (x : List ℕ). bytes_eq x s) own ∙ cs) ht st)
        | inr ht ↦ ht
      ]

      not_this : bytes_eq cleared.by s ≡ true → bytes_eq s t ≡ false → bytes_eq cleared.by t ≡ false
      not_this cs st = elim (bool_case (bytes_eq cleared.by t)) [
        | inl ct ↦ absurd (two cleared.by s t cs ct st)
        | inr ct ↦ ct
      ]

      by : (cs st : Bool) → bytes_eq cleared.by s ≡ cs → bytes_eq s t ≡ st
          → held_in new key ≡ (if is_listed place key keys then given_up s (held_in (if cs then cleared.slots else slots) key) else held_in (if cs then cleared.slots else slots) key)
          → is_owner t (owner_in (if cs then None else Some cleared) new key) ≡ (if st then false else bytes_eq cleared.by t)
      by true true cs st holds =
          ap (λ (h : Option Held). is_owner t (owner_of h)) holds ∙ owner_released s t (held_in cleared.slots key) (is_listed place key keys) (before key)
          ∙ ap (λ (b : Bool). if b then false else is_owner t (owner_of (held_in cleared.slots key))) st
      by true false cs st holds =
          ap (λ (h : Option Held). is_owner t (owner_of h)) holds ∙ owner_released s t (held_in cleared.slots key) (is_listed place key keys) (before key)
          ∙ ap (λ (b : Bool). if b then false else is_owner t (owner_of (held_in cleared.slots key))) st
          ∙ only (held_in cleared.slots key) (alone key).1 cs st ∙ sym (not_this cs st)
      by false true cs st holds = carried cleared.by s t st ∙ cs
      by false false cs st holds = refl

  pub rolled_fresh : (cleared : Option Cleared) → ReleasesAll place keys s (restored s cleared slots) new → HasNothingCommitted cleared slots → HasNothingCommitted (cleared_left s cleared) new
  rolled_fresh None releases fresh = tt
  rolled_fresh (Some cleared) releases fresh = by (bytes_eq cleared.by s) (λ key. releases.committed key)
    where
      by : (b : Bool) → ((key : Key) → committed_in new key ≡ committed_in (if b then cleared.slots else slots) key) → HasNothingCommitted (if b then None else Some cleared) new
      by true stays = tt
      by false stays = λ key. stays key ∙ fresh key

  pub rolled_alone : (cleared : Option Cleared) → ReleasesAll place keys s (restored s cleared slots) new → IsAlone cleared slots → IsAlone (cleared_left s cleared) new
  rolled_alone None releases alone = tt
  rolled_alone (Some cleared) releases alone = by (bytes_eq cleared.by s) (λ key. releases.held key)
    where
      by : (b : Bool) → ((key : Key) → held_in new key ≡ (if is_listed place key keys then given_up s (held_in (if b then cleared.slots else slots) key) else held_in (if b then cleared.slots else slots) key)) → IsAlone (if b then None else Some cleared) new
      by true holds = tt
      by false holds = λ key. (subst (λ (h : Option Held). IfSome h (λ x. x.by ≡ cleared.by)) (sym (holds key)) (left_of s (held_in slots key) (is_listed place key keys) (λ name. name ≡ cleared.by) (alone key).0), (alone key).1)

-- ---- holders

-- who ends holds nothing of the table, and others hold what they held
pub holders_left : (s t : List ℕ) (cleared : Option Cleared) (old new : BTreeSet (List ℕ)) → contains text_cmp new t ≡ (not (bytes_eq s t) && contains text_cmp old t) → is_holder_in (cleared_left s cleared) new t ≡ (if bytes_eq s t then false else is_holder_in cleared old t)
holders_left s t None old new is = is ∙ by (bytes_eq s t)
  where
    by : (b : Bool) → (not b && contains text_cmp old t) ≡ (if b then false else contains text_cmp old t)
    by true = refl
    by false = refl
holders_left s t (Some cleared) old new is = by (bytes_eq cleared.by s) (bytes_eq s t) refl refl is
  where
    not_this : bytes_eq cleared.by s ≡ true → bytes_eq s t ≡ false → bytes_eq cleared.by t ≡ false
    not_this cs st = elim (bool_case (bytes_eq cleared.by t)) [
      | inl ct ↦ absurd (two cleared.by s t cs ct st)
      | inr ct ↦ ct
    ]

    by : (cs st : Bool) → bytes_eq cleared.by s ≡ cs → bytes_eq s t ≡ st → contains text_cmp new t ≡ (not st && contains text_cmp old t)
        → is_holder_in (if cs then None else Some cleared) new t ≡ (if st then false else (bytes_eq cleared.by t || contains text_cmp old t))
    by true true cs st has = has
    by true false cs st has = has ∙ sym (ap (λ (b : Bool). b || contains text_cmp old t) (not_this cs st))
    by false true cs st has = ap (λ (b : Bool). b || contains text_cmp new t) (carried cleared.by s t st ∙ cs) ∙ has
    by false false cs st has = ap (λ (b : Bool). bytes_eq cleared.by t || b) has
