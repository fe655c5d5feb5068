-- What a session's commit leaves of a table, slot by slot: no acts are spoken of.
use Rattle.std.proofs.Common.{◌≡◌, ◌∙◌, inl, inr, ℕ, Bool, true, false, Option, Some, None, List, refl, sym, ap, subst}
use Rattle.std.specs.Prelude.{IfSome, if◌then◌else◌, bytes_eq}
use Rattle.dbl_model_table.specs.declared.row.Key.{Key}
use Rattle.dbl_model_table.proofs.Lists.{bool_case}
use Rattle.dbl_tables_rows.specs.SourceLog.Texts.{Texts}
use Rattle.dbl_tables_rows.specs.declared.slots.Held.{Held}
use Rattle.dbl_tables_rows.specs.declared.rows.Cleared.{Cleared}
use Rattle.dbl_tables_rows.specs.declared.held.HeldKey.{HeldKey}
use Rattle.dbl_tables_rows.specs.Views.{Slots, texts_of, committed_in, held_in, base_of, owner_in, is_owner, seen_under, seen_in, IsAlone}
use Rattle.dbl_tables_rows.specs.Changing.{settled_row, given_up, cleared_left}
use Rattle.dbl_tables_rows.specs.Ends.{SettlesAll}
use Rattle.dbl_tables_rows.specs.Listed.{is_listed}
use Rattle.dbl_tables_changes.specs.AcceptedSteps.{AreListed, HasNothingCommitted}
use Rattle.dbl_tables_changes.proofs.UnderLemmas.{two, carried, under_released, under_settled, settled_committed}
use Rattle.dbl_tables_changes.proofs.OwnerLemmas.{owner_of, owner_released, left_of}

-- who has no lock of its own sees what is committed
pub not_own : (t : List ℕ) (held : Option Held) (c : Option Texts) → is_owner t (owner_of held) ≡ false → seen_under t held c ≡ c
not_own t None c other = refl
not_own t (Some h) c other = ap (λ (b : Bool). if b then texts_of h.row else c) other

-- who has one doesn't look at what is committed
own_or : (t : List ℕ) (held : Option Held) (c d : Option Texts) → seen_under t held d ≡ (if is_owner t (owner_of held) then seen_under t held c else d)
own_or t None c d = refl
own_or t (Some h) c d = by (bytes_eq h.by t)
  where
    by : (b : Bool) → (if b then texts_of h.row else d) ≡ (if b then (if b then texts_of h.row else c) else d)
    by true = refl
    by false = refl

-- a lock of one session isn't another's
not_another : (s t : List ℕ) (held : Option Held) → IfSome held (λ h. bytes_eq h.by s ≡ true) → bytes_eq s t ≡ false → is_owner t (owner_of held) ≡ false
not_another s t None own st = refl
not_another s t (Some h) own st = elim (bool_case (bytes_eq h.by t)) [
  | inl ht ↦ absurd (two h.by s t own ht st)
  | inr ht ↦ ht
]

module _ (s : List ℕ) (place : ℕ) (keys : List HeldKey) (slots new : Slots) where
  -- what everybody else sees who holds nothing
  abbrev pub now : Option Cleared → Key → Option Texts
  now cleared key = committed_in (base_of (cleared_left s cleared) new) key

  -- the session sees what is committed, others what they saw under their own locks, and elsewhere what is committed
  pub settled_seen : (cleared : Option Cleared) (t : List ℕ) (key : Key) → SettlesAll place keys s slots new → AreListed place slots s keys → HasNothingCommitted cleared slots → IsAlone cleared slots
      → seen_in (cleared_left s cleared) new t key ≡ (if bytes_eq s t then now cleared key else (if is_owner t (owner_in cleared slots key) then seen_in cleared slots t key else now cleared key))
  settled_seen None t key settles listed fresh alone = by (bytes_eq s t) refl
    where
      whole : seen_under t (held_in new key) (committed_in new key) ≡ (if bytes_eq s t then seen_under s (held_in slots key) (committed_in slots key) else seen_under t (held_in slots key) (seen_under s (held_in slots key) (committed_in slots key)))
      whole =
          ap (λ (h : Option Held). seen_under t h (committed_in new key)) (settles.held key)
          ∙ ap (seen_under t (if is_listed place key keys then given_up s (held_in slots key) else held_in slots key)) (settles.committed key)
          ∙ under_settled s t (held_in slots key) (is_listed place key keys) (committed_in slots key) (listed key)

      is_now : committed_in new key ≡ seen_under s (held_in slots key) (committed_in slots key)
      is_now = settled_committed s place keys slots new None key settles listed fresh

      by : (b : Bool) → bytes_eq s t ≡ b → seen_under t (held_in new key) (committed_in new key)
          ≡ (if b then committed_in new key else (if is_owner t (owner_of (held_in slots key)) then seen_under t (held_in slots key) (committed_in slots key) else committed_in new key))
      by true st =
          whole ∙ ap (λ (b : Bool). if b then seen_under s (held_in slots key) (committed_in slots key) else seen_under t (held_in slots key) (seen_under s (held_in slots key) (committed_in slots key))) st ∙ sym is_now
      by false st =
          whole ∙ ap (λ (b : Bool). if b then seen_under s (held_in slots key) (committed_in slots key) else seen_under t (held_in slots key) (seen_under s (held_in slots key) (committed_in slots key))) st
          ∙ own_or t (held_in slots key) (committed_in slots key) (seen_under s (held_in slots key) (committed_in slots key))
          ∙ ap (λ (o : Option Texts). if is_owner t (owner_of (held_in slots key)) then seen_under t (held_in slots key) (committed_in slots key) else o) (sym is_now)
  settled_seen (Some cleared) t key settles listed fresh alone = by (bytes_eq cleared.by s) (bytes_eq s t) refl refl
    where
      -- after the done truncate nobody else has a lock
      theirs : bytes_eq cleared.by s ≡ true → IfSome (held_in slots key) (λ h. bytes_eq h.by s ≡ true)
      theirs cs = named (held_in slots key) (alone key).0
        where
          named : (held : Option Held) → IfSome held (λ h. h.by ≡ cleared.by) → IfSome held (λ h. bytes_eq h.by s ≡ true)
          named None own = tt
          named (Some h) own = ap (λ (x : List ℕ). bytes_eq x s) own ∙ cs

      -- what is held there now, by nobody else
      free : bytes_eq cleared.by s ≡ true → is_owner t (owner_of (held_in new key)) ≡ false
      free cs =
          ap (λ (h : Option Held). is_owner t (owner_of h)) (settles.held key) ∙ owner_released s t (held_in slots key) (is_listed place key keys) (listed key) ∙ none (bytes_eq s t) refl
        where
          none : (b : Bool) → bytes_eq s t ≡ b → (if b then false else is_owner t (owner_of (held_in slots key))) ≡ false
          none true st = refl
          none false st = not_another s t (held_in slots key) (theirs cs) st

      not_this : bytes_eq cleared.by s ≡ true → bytes_eq s t ≡ false → bytes_eq cleared.by t ≡ false
      not_this cs st = elim (bool_case (bytes_eq cleared.by t)) [
        | inl ct ↦ absurd (two cleared.by s t cs ct st)
        | inr ct ↦ ct
      ]

      by : (cs st : Bool) → bytes_eq cleared.by s ≡ cs → bytes_eq s t ≡ st → seen_in (if cs then None else Some cleared) new t key
          ≡ (if st then committed_in (base_of (if cs then None else Some cleared) new) key else (if bytes_eq cleared.by t then seen_in (Some cleared) slots t key else committed_in (base_of (if cs then None else Some cleared) new) key))
      by true true cs st = not_own t (held_in new key) (committed_in new key) (free cs)
      by true false cs st =
          not_own t (held_in new key) (committed_in new key) (free cs)
          ∙ sym (ap (λ (b : Bool). if b then seen_in (Some cleared) slots t key else committed_in new key) (not_this cs st))
      by false true cs st = ap (λ (b : Bool). if b then seen_under t (held_in new key) None else committed_in cleared.slots key) (carried cleared.by s t st ∙ cs)
      by false false cs st =
          ap (λ (o : Option Texts). if bytes_eq cleared.by t then o else committed_in cleared.slots key)
          (ap (λ (h : Option Held). seen_under t h None) (settles.held key)
          ∙ under_released s t (held_in slots key) (is_listed place key keys) None (listed key)
          ∙ ap (λ (b : Bool). if b then None else seen_under t (held_in slots key) None) st)
          ∙ twice (bytes_eq cleared.by t)
        where
          twice : (b : Bool) → (if b then seen_under t (held_in slots key) None else committed_in cleared.slots key) ≡ (if b then (if b then seen_under t (held_in slots key) None else committed_in cleared.slots key) else committed_in cleared.slots key)
          twice true = refl
          twice false = refl

  -- who ends holds nothing, and others hold what they held
  pub settled_owner : (cleared : Option Cleared) (t : List ℕ) (key : Key) → SettlesAll place keys s slots new → AreListed place slots s keys → IsAlone cleared slots
      → is_owner t (owner_in (cleared_left s cleared) new key) ≡ (if bytes_eq s t then false else is_owner t (owner_in cleared slots key))
  settled_owner None t key settles listed alone =
      ap (λ (h : Option Held). is_owner t (owner_of h)) (settles.held key) ∙ owner_released s t (held_in slots key) (is_listed place key keys) (listed key)
  settled_owner (Some cleared) t key settles listed alone = by (bytes_eq cleared.by s) (bytes_eq s t) refl refl
    where
      theirs : bytes_eq cleared.by s ≡ true → (held : Option Held) → IfSome held (λ h. h.by ≡ cleared.by) → IfSome held (λ h. bytes_eq h.by s ≡ true)
      theirs cs None own = tt
      theirs cs (Some h) own = ap (λ (x : List ℕ). bytes_eq x s) own ∙ cs

      not_this : bytes_eq cleared.by s ≡ true → bytes_eq s t ≡ false → bytes_eq cleared.by t ≡ false
      not_this cs st = elim (bool_case (bytes_eq cleared.by t)) [
        | inl ct ↦ absurd (two cleared.by s t cs ct st)
        | inr ct ↦ ct
      ]

      given : is_owner t (owner_of (held_in new key)) ≡ (if bytes_eq s t then false else is_owner t (owner_of (held_in slots key)))
      given = ap (λ (h : Option Held). is_owner t (owner_of h)) (settles.held key) ∙ owner_released s t (held_in slots key) (is_listed place key keys) (listed key)

      by : (cs st : Bool) → bytes_eq cleared.by s ≡ cs → bytes_eq s t ≡ st → is_owner t (owner_in (if cs then None else Some cleared) new key) ≡ (if st then false else bytes_eq cleared.by t)
      by true true cs st = given ∙ ap (λ (b : Bool). if b then false else is_owner t (owner_of (held_in slots key))) st
      by true false cs st =
          given ∙ ap (λ (b : Bool). if b then false else is_owner t (owner_of (held_in slots key))) st
          ∙ not_another s t (held_in slots key) (theirs cs (held_in slots key) (alone key).0) st ∙ sym (not_this cs st)
      by false true cs st = carried cleared.by s t st ∙ cs
      by false false cs st = refl

  pub settled_fresh : (cleared : Option Cleared) → SettlesAll place keys s slots new → HasNothingCommitted cleared slots → IsAlone cleared slots → HasNothingCommitted (cleared_left s cleared) new
  settled_fresh None settles fresh alone = tt
  settled_fresh (Some cleared) settles fresh alone = by (bytes_eq cleared.by s) refl
    where
      none : (key : Key) (held : Option Held) (l : Bool) (c : Option Texts) → c ≡ None → IfSome held (λ h. h.by ≡ cleared.by) → bytes_eq cleared.by s ≡ false → (if l then settled_row s held c else c) ≡ None
      none key None true c is own cs = is
      none key None false c is own cs = is
      none key (Some h) true c is own cs = ap (λ (b : Bool). if b then texts_of h.row else c) (ap (λ (x : List ℕ). bytes_eq x s) own ∙ cs) ∙ is
      none key (Some h) false c is own cs = is

      by : (b : Bool) → bytes_eq cleared.by s ≡ b → HasNothingCommitted (if b then None else Some cleared) new
      by true cs = tt
      by false cs = λ key. settles.committed key ∙ none key (held_in slots key) (is_listed place key keys) (committed_in slots key) (fresh key) (alone key).0 cs

  pub settled_alone : (cleared : Option Cleared) → SettlesAll place keys s slots new → IsAlone cleared slots → IsAlone (cleared_left s cleared) new
  settled_alone None settles alone = tt
  settled_alone (Some cleared) settles alone = by (bytes_eq cleared.by s)
    where
      by : (b : Bool) → IsAlone (if b then None else Some cleared) new
      by true = tt
      by false = λ key. (subst (λ (h : Option Held). IfSome h (λ x. x.by ≡ cleared.by)) (sym (settles.held key)) (left_of s (held_in slots key) (is_listed place key keys) (λ name. name ≡ cleared.by) (alone key).0), (alone key).1)
