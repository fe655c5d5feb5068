-- The slots of a table after one change of the map: what is seen of it key by key.
use Rattle.std.proofs.Common.{◌≡◌, ◌∙◌, ℕ, Bool, true, false, Option, Some, None, List, refl, sym, ap, subst}
use Rattle.std.specs.Prelude.{if◌then◌else◌, is_some, is_none, option_and_then}
use Rattle.std.specs.declared.cmp.Ordering.{Ordering}
use Rattle.std.specs.Cmp.Lexicographic.{slice_cmp}
use Rattle.std.specs.BTreeMap.{get, is_at, Updates}
use Rattle.std.specs.Map.{lookup}
use Rattle.dbl_value_types.specs.contracts.value.ValOrd.TheImpl.{cmp-value}
use Rattle.dbl_model_table.specs.declared.row.Key.{Key}
use Rattle.dbl_model_table.specs.Keys.{key_cmp, same_key}
use Rattle.dbl_model_table.proofs.DerivedOrder.{derived_order}
use Rattle.dbl_model_table.proofs.KeyLemmas.{same_key-is}
use Rattle.dbl_model_table.proofs.Lists.{and_left, and_right}
use Rattle.dbl_source_log.specs.Texts.{Texts}
use Rattle.dbl_tables_rows.specs.declared.slots.Held.{Held}
use Rattle.dbl_tables_rows.specs.declared.slots.Slot.{Slot}
use Rattle.dbl_tables_rows.specs.Views.{Slots, texts_of, committed_in, held_in}
use Rattle.dbl_tables_rows.specs.Changing.{HasSlot, IsInvisible, WritesLock, held_by, row_held, settled_row, given_up, Settles, ReleasesKey, settled_slot, released_slot, is_empty_there}

-- ---- the order of keys

-- the order that is derived for them
abbrev pub derived_cmp : Key → Key → Ordering
derived_cmp a b = slice_cmp (λ v w. cmp-value.it v w) a.cells b.cells

-- it is that of the definitions
pub orders : derived_cmp ≡ key_cmp
orders = λ i a b. derived_order a b i

pub found_at : (m : Slots) (key : Key) (o : Option Slot) → o ≡ get derived_cmp m key → o ≡ get key_cmp m key
found_at m key o is = is ∙ ap (λ (cmp : Key → Key → Ordering). get cmp m key) orders

pub has_at : (m : Slots) (key : Key) (b : Bool) → is_some (get derived_cmp m key) ≡ b → is_some (get key_cmp m key) ≡ b
has_at m key b is = sym (ap (λ (cmp : Key → Key → Ordering). is_some (get cmp m key)) orders) ∙ is

-- ---- one key

pub changed_at : (old new : Slots) (key : Key) (w : Option Slot) → Updates derived_cmp old new key w → (q : Key) → get key_cmp new q ≡ (if same_key key q then w else get key_cmp old q)
changed_at old new key w updates q = let told : Updates key_cmp old new key w = subst (λ (cmp : Key → Key → Ordering). Updates cmp old new key w) orders updates in told.0 q

-- what is seen of a slot
viewed : {A : Type 0} (f : Slot → Option A) (old new : Slots) (key : Key) (w : Option Slot) → Updates derived_cmp old new key w → (q : Key)
    → option_and_then f (get key_cmp new q) ≡ (if same_key key q then option_and_then f w else option_and_then f (get key_cmp old q))
viewed f old new key w updates q = ap (option_and_then f) (changed_at old new key w updates q) ∙ by (same_key key q)
  where
    by : (b : Bool) → option_and_then f (if b then w else get key_cmp old q) ≡ (if b then option_and_then f w else option_and_then f (get key_cmp old q))
    by true = refl
    by false = refl

abbrev row_in : Slot → Option Texts
row_in slot = texts_of slot.committed

abbrev lock_in : Slot → Option Held
lock_in slot = slot.held

-- a slot that changes stays one
pub slots_stay : (old new : Slots) (key : Key) (after : Slot) → Updates derived_cmp old new key (Some after) → (q : Key) → HasSlot old q → HasSlot new q
slots_stay old new key after updates q has = ap is_some (changed_at old new key (Some after) updates q) ∙ by (same_key key q)
  where
    by : (b : Bool) → is_some (if b then Some after else get key_cmp old q) ≡ true
    by true = refl
    by false = has

pub slot_there : (old new : Slots) (key : Key) (after : Slot) → Updates derived_cmp old new key (Some after) → same_key key key ≡ true → HasSlot new key
slot_there old new key after updates same = ap is_some (changed_at old new key (Some after) updates key ∙ ap (λ (b : Bool). if b then Some after else get key_cmp old key) same)

-- a map with the same entries
pub same_entries : (old new : Slots) → new.entries ≡ old.entries → (q : Key) → get key_cmp new q ≡ get key_cmp old q
same_entries old new is q = ap (lookup (is_at (key_cmp q))) is

pub same_slots : (old new : Slots) → ((q : Key) → get key_cmp new q ≡ get key_cmp old q) → IsInvisible old new
same_slots old new same = record { committed = λ q. ap (option_and_then row_in) (same q); held = λ q. ap (option_and_then lock_in) (same q) }

-- ---- room for a lock

-- where there was no slot an empty one isn't seen
pub room_made : (old new : Slots) (key : Key) (empty : Slot) → empty.committed ≡ None → empty.held ≡ None → is_some (get key_cmp old key) ≡ false → Updates derived_cmp old new key (Some empty) → IsInvisible old new
room_made old new key empty no_row no_lock none updates = record {
  committed = λ q. viewed row_in old new key (Some empty) updates q ∙ row_there q (same_key key q) refl;
  held = λ q. viewed lock_in old new key (Some empty) updates q ∙ lock_there q (same_key key q) refl;
}
  where
    no_slot : (o : Option Slot) → is_some o ≡ false → o ≡ None
    no_slot None is = refl
    no_slot (Some s) is = cc

    at_key : (q : Key) → same_key key q ≡ true → get key_cmp old q ≡ None
    at_key q same = ap (get key_cmp old) (sym (same_key-is key q same)) ∙ no_slot (get key_cmp old key) none

    row_there : (q : Key) (b : Bool) → same_key key q ≡ b → (if b then texts_of empty.committed else committed_in old q) ≡ committed_in old q
    row_there q true same = ap texts_of no_row ∙ sym (ap (option_and_then row_in) (at_key q same))
    row_there q false other = refl

    lock_there : (q : Key) (b : Bool) → same_key key q ≡ b → (if b then empty.held else held_in old q) ≡ held_in old q
    lock_there q true same = no_lock ∙ sym (ap (option_and_then lock_in) (at_key q same))
    lock_there q false other = refl

-- ---- a slot that is there

module _ (old new : Slots) (key : Key) (slot : Slot) (there : Some slot ≡ get key_cmp old key) where
  row_here : (q : Key) → same_key key q ≡ true → committed_in old q ≡ texts_of slot.committed
  row_here q same = ap (committed_in old) (sym (same_key-is key q same)) ∙ sym (ap (option_and_then row_in) there)

  lock_here : (q : Key) → same_key key q ≡ true → held_in old q ≡ slot.held
  lock_here q same = ap (held_in old) (sym (same_key-is key q same)) ∙ sym (ap (option_and_then lock_in) there)

  -- a lock is put on it
  pub writes_there : (after : Slot) (held : Held) → after.committed ≡ slot.committed → after.held ≡ Some held → Updates derived_cmp old new key (Some after) → WritesLock key held old new
  writes_there after held row lock updates = record {
    committed = λ q. viewed row_in old new key (Some after) updates q ∙ by q (same_key key q) refl;
    locked = λ q. viewed lock_in old new key (Some after) updates q ∙ ap (λ (h : Option Held). if same_key key q then h else held_in old q) lock;
  }
    where
      by : (q : Key) (b : Bool) → same_key key q ≡ b → (if b then texts_of after.committed else committed_in old q) ≡ committed_in old q
      by q true same = ap texts_of row ∙ sym (row_here q same)
      by q false other = refl

  -- it is settled, or released
  module _ (session : List ℕ) where
    settled_row_is : texts_of (settled_slot session slot).committed ≡ settled_row session slot.held (texts_of slot.committed)
    settled_row_is = by (held_by session slot.held)
      where
        under : (h : Option Held) → texts_of (option_and_then (λ (x : Held). x.row) h) ≡ row_held h
        under None = refl
        under (Some h) = refl

        by : (b : Bool) → texts_of (if b then (let s : Slot = record { committed = option_and_then (λ (x : Held). x.row) slot.held; held = None } in s) else slot).committed ≡ (if b then row_held slot.held else texts_of slot.committed)
        by true = under slot.held
        by false = refl

    settled_lock_is : (settled_slot session slot).held ≡ given_up session slot.held
    settled_lock_is = by (held_by session slot.held)
      where
        by : (b : Bool) → (if b then (let s : Slot = record { committed = option_and_then (λ (x : Held). x.row) slot.held; held = None } in s) else slot).held ≡ (if b then None else slot.held)
        by true = refl
        by false = refl

    released_row_is : (released_slot session slot).committed ≡ slot.committed
    released_row_is = by (held_by session slot.held)
      where
        by : (b : Bool) → (if b then (let s : Slot = record slot { held = None } in s) else slot).committed ≡ slot.committed
        by true = refl
        by false = refl

    released_lock_is : (released_slot session slot).held ≡ given_up session slot.held
    released_lock_is = by (held_by session slot.held)
      where
        by : (b : Bool) → (if b then (let s : Slot = record slot { held = None } in s) else slot).held ≡ (if b then None else slot.held)
        by true = refl
        by false = refl

    lock_given_up : (after : Slot) → after.held ≡ given_up session slot.held → Updates derived_cmp old new key (Some after) → (q : Key) → held_in new q ≡ (if same_key key q then given_up session (held_in old q) else held_in old q)
    lock_given_up after lock updates q = viewed lock_in old new key (Some after) updates q ∙ by (same_key key q) refl
      where
        by : (b : Bool) → same_key key q ≡ b → (if b then after.held else held_in old q) ≡ (if b then given_up session (held_in old q) else held_in old q)
        by true same = lock ∙ sym (ap (given_up session) (lock_here q same))
        by false other = refl

    pub settles_there : (after : Slot) → after ≡ settled_slot session slot → Updates derived_cmp old new key (Some after) → Settles key session old new
    settles_there after is updates = record {
      committed = λ q. viewed row_in old new key (Some after) updates q ∙ by q (same_key key q) refl;
      held = lock_given_up after (ap (λ (s : Slot). s.held) is ∙ settled_lock_is) updates;
    }
      where
        by : (q : Key) (b : Bool) → same_key key q ≡ b → (if b then texts_of after.committed else committed_in old q) ≡ (if b then settled_row session (held_in old q) (committed_in old q) else committed_in old q)
        by q true same =
            ap (λ (s : Slot). texts_of s.committed) is ∙ (settled_row_is
            ∙ sym (ap (λ (h : Option Held). settled_row session h (committed_in old q)) (lock_here q same) ∙ ap (settled_row session slot.held) (row_here q same)))
        by q false other = refl

    pub releases_there : (after : Slot) → after ≡ released_slot session slot → Updates derived_cmp old new key (Some after) → ReleasesKey key session old new
    releases_there after is updates = record {
      committed = λ q. viewed row_in old new key (Some after) updates q ∙ by q (same_key key q) refl;
      held = lock_given_up after (ap (λ (s : Slot). s.held) is ∙ released_lock_is) updates;
    }
      where
        by : (q : Key) (b : Bool) → same_key key q ≡ b → (if b then texts_of after.committed else committed_in old q) ≡ committed_in old q
        by q true same = ap (λ (s : Slot). texts_of s.committed) is ∙ (ap texts_of released_row_is ∙ sym (row_here q same))
        by q false other = refl

-- ---- no slot

module _ (old : Slots) (key : Key) (session : List ℕ) (none : None ≡ get key_cmp old key) where
  no_lock_here : (q : Key) → same_key key q ≡ true → held_in old q ≡ None
  no_lock_here q same = ap (held_in old) (sym (same_key-is key q same)) ∙ sym (ap (option_and_then lock_in) none)

  nothing_given_up : (q : Key) → held_in old q ≡ (if same_key key q then given_up session (held_in old q) else held_in old q)
  nothing_given_up q = by (same_key key q) refl
    where
      by : (b : Bool) → same_key key q ≡ b → held_in old q ≡ (if b then given_up session (held_in old q) else held_in old q)
      by true same = no_lock_here q same ∙ sym (ap (given_up session) (no_lock_here q same))
      by false other = refl

  pub settles_nothing : Settles key session old old
  settles_nothing = record { committed = λ q. by q (same_key key q) refl; held = nothing_given_up }
    where
      by : (q : Key) (b : Bool) → same_key key q ≡ b → committed_in old q ≡ (if b then settled_row session (held_in old q) (committed_in old q) else committed_in old q)
      by q true same = sym (ap (λ (h : Option Held). settled_row session h (committed_in old q)) (no_lock_here q same))
      by q false other = refl

  pub releases_nothing : ReleasesKey key session old old
  releases_nothing = record { committed = λ q. refl; held = nothing_given_up }

-- ---- a slot that nobody sees is taken out

is_none_so : {A : Type 0} (o : Option A) → is_none o ≡ true → o ≡ None
is_none_so None is = refl
is_none_so (Some x) is = cc

pub taken_out : (old new : Slots) (key : Key) → is_empty_there (get key_cmp old key) ≡ true → Updates derived_cmp old new key None → IsInvisible old new
taken_out old new key empty updates = record {
  committed = λ q. viewed row_in old new key None updates q ∙ row_there q (same_key key q) refl;
  held = λ q. viewed lock_in old new key None updates q ∙ lock_there q (same_key key q) refl;
}
  where
    no_row : (o : Option Slot) → is_empty_there o ≡ true → option_and_then row_in o ≡ None
    no_row None is = cc
    no_row (Some s) is = ap texts_of (is_none_so s.committed (and_left (is_none s.committed) (is_none s.held) is))

    no_lock : (o : Option Slot) → is_empty_there o ≡ true → option_and_then lock_in o ≡ None
    no_lock None is = cc
    no_lock (Some s) is = is_none_so s.held (and_right (is_none s.committed) (is_none s.held) is)

    row_there : (q : Key) (b : Bool) → same_key key q ≡ b → (if b then None else committed_in old q) ≡ committed_in old q
    row_there q true same = sym (ap (committed_in old) (sym (same_key-is key q same)) ∙ no_row (get key_cmp old key) empty)
    row_there q false other = refl

    lock_there : (q : Key) (b : Bool) → same_key key q ≡ b → (if b then None else held_in old q) ≡ held_in old q
    lock_there q true same = sym (ap (held_in old) (sym (same_key-is key q same)) ∙ no_lock (get key_cmp old key) empty)
    lock_there q false other = refl

-- ---- one change after the other

pub settles_unseen : (key : Key) (session : List ℕ) (old between new : Slots) → Settles key session old between → IsInvisible between new → Settles key session old new
settles_unseen key session old between new settles unseen = record { committed = λ q. unseen.committed q ∙ settles.committed q; held = λ q. unseen.held q ∙ settles.held q }

pub releases_unseen : (key : Key) (session : List ℕ) (old between new : Slots) → ReleasesKey key session old between → IsInvisible between new → ReleasesKey key session old new
releases_unseen key session old between new releases unseen = record { committed = λ q. unseen.committed q ∙ releases.committed q; held = λ q. unseen.held q ∙ releases.held q }
