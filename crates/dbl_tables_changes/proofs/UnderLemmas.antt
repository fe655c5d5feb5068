-- What a session sees at a key of a table once another session, or it itself, has ended: slot by slot, no acts are spoken of.
use Rattle.std.proofs.Common.{◌≡◌, ◌∙◌, inl, inr, ℕ, Bool, true, false, Option, Some, None, List, refl, sym, ap}
use Rattle.std.specs.Prelude.{IfSome, if◌then◌else◌, bytes_eq}
use Rattle.dbl_model_table.specs.declared.row.Key.{Key}
use Rattle.dbl_model_table.proofs.Lists.{bool_case, same_text, text_itself}
use Rattle.dbl_tables_rows.specs.SourceLog.Texts.{Texts}
use Rattle.dbl_tables_rows.specs.declared.slots.Held.{Held}
use Rattle.dbl_tables_rows.specs.declared.rows.Cleared.{Cleared}
use Rattle.dbl_tables_rows.specs.declared.held.HeldKey.{HeldKey}
use Rattle.dbl_tables_rows.specs.Views.{Slots, texts_of, committed_in, held_in, base_of, seen_under, seen_in, IsAlone}
use Rattle.dbl_tables_rows.specs.Changing.{settled_row, given_up, cleared_left, restored}
use Rattle.dbl_tables_rows.specs.Ends.{SettlesAll, ReleasesAll}
use Rattle.dbl_tables_rows.specs.Listed.{is_listed}
use Rattle.dbl_tables_changes.specs.AcceptedSteps.{AreListed, AreListedBefore, HasNothingCommitted}

-- a text isn't two texts
pub two : (x a b : List ℕ) → bytes_eq x a ≡ true → bytes_eq x b ≡ true → bytes_eq a b ≡ false → ⊥
two x a b is_a is_b apart =
    let e : a ≡ b = sym (same_text x a is_a) ∙ same_text x b is_b in
    let contra : true ≡ false = sym (text_itself b) ∙ (ap (λ (y : List ℕ). bytes_eq y b) (sym e) ∙ apart) in
    cc

-- a text that is one of two equal ones is the other
pub carried : (x a b : List ℕ) → bytes_eq a b ≡ true → bytes_eq x b ≡ bytes_eq x a
carried x a b same = ap (bytes_eq x) (sym (same_text a b same))

module _ (s t : List ℕ) where
  -- a lock that is given up isn't seen by the session that held it, and others see what they saw
  pub under_released : (held : Option Held) (listed : Bool) (c : Option Texts) → IfSome held (λ h. h.by ≡ s → listed ≡ true)
      → seen_under t (if listed then given_up s held else held) c ≡ (if bytes_eq s t then c else seen_under t held c)
  under_released None listed c told = by listed (bytes_eq s t)
    where
      by : (l b : Bool) → seen_under t (if l then None else None) c ≡ (if b then c else c)
      by true true = refl
      by true false = refl
      by false true = refl
      by false false = refl
  under_released (Some h) listed c told = by (bytes_eq h.by s) (bytes_eq s t) listed refl refl told
    where
      -- under another's lock the session sees what is committed
      not_own : bytes_eq s t ≡ true → bytes_eq h.by s ≡ false → seen_under t (Some h) c ≡ c
      not_own st hs = ap (λ (b : Bool). if b then texts_of h.row else c) (carried h.by s t st ∙ hs)

      not_theirs : bytes_eq s t ≡ false → bytes_eq h.by s ≡ true → seen_under t (Some h) c ≡ c
      not_theirs st hs = elim (bool_case (bytes_eq h.by t)) [
        | inl ht ↦ absurd (two h.by s t hs ht st)
        | inr ht ↦ ap (λ (b : Bool). if b then texts_of h.row else c) ht
      ]

      by : (hs st l : Bool) → bytes_eq h.by s ≡ hs → bytes_eq s t ≡ st → (h.by ≡ s → l ≡ true)
          → seen_under t (if l then (if hs then None else Some h) else Some h) c ≡ (if st then c else seen_under t (Some h) c)
      by true true true hs st l = refl
      by true false true hs st l = sym (not_theirs st hs)
      by true st false hs is l = let contra : false ≡ true = l (same_text h.by s hs) in cc
      by false true true hs st l = not_own st hs
      by false true false hs st l = not_own st hs
      by false false true hs st l = refl
      by false false false hs st l = refl

  -- a lock that becomes its row: what its session saw is committed, and others see what is committed under no lock of their own
  pub under_settled : (held : Option Held) (listed : Bool) (c : Option Texts) → IfSome held (λ h. h.by ≡ s → listed ≡ true)
      → seen_under t (if listed then given_up s held else held) (if listed then settled_row s held c else c) ≡ (if bytes_eq s t then seen_under s held c else seen_under t held (seen_under s held c))
  under_settled None listed c told = by listed (bytes_eq s t)
    where
      by : (l b : Bool) → seen_under t (if l then None else None) (if l then c else c) ≡ (if b then c else c)
      by true true = refl
      by true false = refl
      by false true = refl
      by false false = refl
  under_settled (Some h) listed c told = by (bytes_eq h.by s) (bytes_eq s t) listed refl refl told
    where
      by : (hs st l : Bool) → bytes_eq h.by s ≡ hs → bytes_eq s t ≡ st → (h.by ≡ s → l ≡ true)
          → seen_under t (if l then (if hs then None else Some h) else Some h) (if l then (if hs then texts_of h.row else c) else c)
          ≡ (if st then (if hs then texts_of h.row else c) else seen_under t (Some h) (if hs then texts_of h.row else c))
      by true true true hs st l = refl
      by true false true hs st l = elim (bool_case (bytes_eq h.by t)) [
        | inl ht ↦ absurd (two h.by s t hs ht st)
        | inr ht ↦ sym (ap (λ (b : Bool). if b then texts_of h.row else texts_of h.row) ht)
      ]
      by true st false hs is l = let contra : false ≡ true = l (same_text h.by s hs) in cc
      by false true true hs st l = ap (λ (b : Bool). if b then texts_of h.row else c) (carried h.by s t st ∙ hs)
      by false true false hs st l = ap (λ (b : Bool). if b then texts_of h.row else c) (carried h.by s t st ∙ hs)
      by false false true hs st l = refl
      by false false false hs st l = refl

-- ---- a table whose session rolls back

module _ (s : List ℕ) (place : ℕ) (keys : List HeldKey) (slots new : Slots) where
  -- what is committed stays
  pub rolled_committed : (cleared : Option Cleared) (key : Key) → ReleasesAll place keys s (restored s cleared slots) new → committed_in (base_of (cleared_left s cleared) new) key ≡ committed_in (base_of cleared slots) key
  rolled_committed None key releases = releases.committed key
  rolled_committed (Some cleared) key releases = by (bytes_eq cleared.by s) refl (releases.committed key)
    where
      by : (b : Bool) → bytes_eq cleared.by s ≡ b → committed_in new key ≡ committed_in (if b then cleared.slots else slots) key → committed_in (base_of (if b then None else Some cleared) new) key ≡ committed_in cleared.slots key
      by true same stays = stays
      by false other stays = refl

  -- the session sees what is committed, and others see what they saw
  pub rolled_seen : (cleared : Option Cleared) (t : List ℕ) (key : Key) → ReleasesAll place keys s (restored s cleared slots) new → AreListed place slots s keys → AreListedBefore place cleared s keys → IsAlone cleared slots
      → seen_in (cleared_left s cleared) new t key ≡ (if bytes_eq s t then committed_in (base_of cleared slots) key else seen_in cleared slots t key)
  rolled_seen None t key releases listed before alone =
      ap (λ (h : Option Held). seen_under t h (committed_in new key)) (releases.held key)
      ∙ ap (seen_under t (if is_listed place key keys then given_up s (held_in slots key) else held_in slots key)) (releases.committed key)
      ∙ under_released s t (held_in slots key) (is_listed place key keys) (committed_in slots key) (listed key)
  rolled_seen (Some cleared) t key releases listed before alone = by (bytes_eq cleared.by s) (bytes_eq s t) refl refl (releases.committed key) (releases.held key)
    where
      -- after the undone truncate nobody else has a lock
      only : (held : Option Held) → IfSome held (λ h. h.by ≡ cleared.by) → bytes_eq cleared.by s ≡ true → bytes_eq s t ≡ false → (c : Option Texts) → seen_under t held c ≡ c
      only None own cs st c = refl
      only (Some h) own cs st c = elim (bool_case (bytes_eq h.by t)) [
        | inl ht ↦ absurd (two h.by s t (ap (λ (x : List ℕ). bytes_eq x s) own ∙ cs) ht st)
        | inr ht ↦ ap (λ (b : Bool). if b then texts_of h.row else c) ht
      ]

      -- a truncate of one session isn't another's
      not_this : bytes_eq cleared.by s ≡ true → bytes_eq s t ≡ false → seen_in (Some cleared) slots t key ≡ committed_in cleared.slots key
      not_this cs st = elim (bool_case (bytes_eq cleared.by t)) [
        | inl ct ↦ absurd (two cleared.by s t cs ct st)
        | inr ct ↦ ap (λ (b : Bool). if b then seen_under t (held_in slots key) None else committed_in cleared.slots key) ct
      ]

      not_own : bytes_eq s t ≡ true → bytes_eq cleared.by s ≡ false → (x : Option Texts) → (if bytes_eq cleared.by t then x else committed_in cleared.slots key) ≡ committed_in cleared.slots key
      not_own st cs x = ap (λ (b : Bool). if b then x else committed_in cleared.slots key) (carried cleared.by s t st ∙ cs)

      by : (cs st : Bool) → bytes_eq cleared.by s ≡ cs → bytes_eq s t ≡ st → committed_in new key ≡ committed_in (if cs then cleared.slots else slots) key
          → held_in new key ≡ (if is_listed place key keys then given_up s (held_in (if cs then cleared.slots else slots) key) else held_in (if cs then cleared.slots else slots) key)
          → seen_in (if cs then None else Some cleared) new t key ≡ (if st then committed_in cleared.slots key else seen_in (Some cleared) slots t key)
      by true st cs is stays holds =
          ap (λ (h : Option Held). seen_under t h (committed_in new key)) holds
          ∙ ap (seen_under t (if is_listed place key keys then given_up s (held_in cleared.slots key) else held_in cleared.slots key)) stays
          ∙ under_released s t (held_in cleared.slots key) (is_listed place key keys) (committed_in cleared.slots key) (before key)
          ∙ ap (λ (b : Bool). if b then committed_in cleared.slots key else seen_under t (held_in cleared.slots key) (committed_in cleared.slots key)) is
          ∙ rest st is
        where
          rest : (b : Bool) → bytes_eq s t ≡ b → (if b then committed_in cleared.slots key else seen_under t (held_in cleared.slots key) (committed_in cleared.slots key)) ≡ (if b then committed_in cleared.slots key else seen_in (Some cleared) slots t key)
          rest true same = refl
          rest false other = only (held_in cleared.slots key) (alone key).1 cs other (committed_in cleared.slots key) ∙ sym (not_this cs other)
      by false true cs st stays holds = not_own st cs (seen_under t (held_in new key) None)
      by false false cs st stays holds =
          ap (λ (h : Option Held). if bytes_eq cleared.by t then seen_under t h None else committed_in cleared.slots key) holds
          ∙ ap (λ (o : Option Texts). if bytes_eq cleared.by t then o else committed_in cleared.slots key)
          (under_released s t (held_in slots key) (is_listed place key keys) None (listed key) ∙ ap (λ (b : Bool). if b then None else seen_under t (held_in slots key) None) st)

-- ---- a table whose session commits

module _ (s : List ℕ) (place : ℕ) (keys : List HeldKey) (slots new : Slots) where
  -- what the session saw is committed
  pub settled_committed : (cleared : Option Cleared) (key : Key) → SettlesAll place keys s slots new → AreListed place slots s keys → HasNothingCommitted cleared slots → committed_in (base_of (cleared_left s cleared) new) key ≡ seen_in cleared slots s key
  settled_committed None key settles listed fresh = settles.committed key ∙ by (held_in slots key) (is_listed place key keys) (listed key)
    where
      by : (held : Option Held) (l : Bool) → IfSome held (λ h. h.by ≡ s → l ≡ true) → (if l then settled_row s held (committed_in slots key) else committed_in slots key) ≡ seen_under s held (committed_in slots key)
      by None true told = refl
      by None false told = refl
      by (Some h) true told = refl
      by (Some h) false told = elim (bool_case (bytes_eq h.by s)) [
        | inl same ↦ (let contra : false ≡ true = told (same_text h.by s same) in cc)
        | inr other ↦ sym (ap (λ (b : Bool). if b then texts_of h.row else committed_in slots key) other)
      ]
  settled_committed (Some cleared) key settles listed fresh = by (bytes_eq cleared.by s) refl
    where
      none : (held : Option Held) (l : Bool) → IfSome held (λ h. h.by ≡ s → l ≡ true) → (c : Option Texts) → c ≡ None → (if l then settled_row s held c else c) ≡ seen_under s held None
      none None true told c is = is
      none None false told c is = is
      none (Some h) true told c is = ap (λ (x : Option Texts). if bytes_eq h.by s then texts_of h.row else x) is
      none (Some h) false told c is = elim (bool_case (bytes_eq h.by s)) [
        | inl same ↦ (let contra : false ≡ true = told (same_text h.by s same) in cc)
        | inr other ↦ is ∙ sym (ap (λ (b : Bool). if b then texts_of h.row else None) other)
      ]

      by : (b : Bool) → bytes_eq cleared.by s ≡ b → committed_in (base_of (if b then None else Some cleared) new) key ≡ (if b then seen_under s (held_in slots key) None else committed_in cleared.slots key)
      by true same = settles.committed key ∙ none (held_in slots key) (is_listed place key keys) (listed key) (committed_in slots key) (fresh key)
      by false other = refl
