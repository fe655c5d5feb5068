-- The ends of sessions in all tables, by the keys that they have listed.
use Rattle.std.specs.Prelude.{◌≡◌, if◌then◌else◌, Option, None, Some, slice_get, ℕ, List, [], ◌∷◌}
use Rattle.dbl_model_table.specs.declared.row.Key.{Key}
use Rattle.dbl_tables_rows.specs.declared.held.HeldKey.{HeldKey}
use Rattle.dbl_tables_rows.specs.declared.rows.Rows.{Rows}
use Rattle.dbl_tables_rows.specs.Views.{Slots, committed_in, held_in}
use Rattle.dbl_tables_rows.specs.Changing.{settled_row, given_up, restored, IsTableLeft}
use Rattle.dbl_tables_rows.specs.Listed.{is_listed}

-- ---- all listed keys

-- The session's rows at its listed keys of the table were committed.
pub record SettlesAll (table : ℕ) (keys : List HeldKey) (session : List ℕ) (old new : Slots) : Type 0 where
  pub committed : (key : Key)
      → committed_in new key
      ≡ (if is_listed table key keys then settled_row session (held_in old key) (committed_in old key) else committed_in old key)
  pub held : (key : Key) → held_in new key ≡ (if is_listed table key keys then given_up session (held_in old key) else held_in old key)

-- The session's locks on its listed keys of the table were released.
pub record ReleasesAll (table : ℕ) (keys : List HeldKey) (session : List ℕ) (old new : Slots) : Type 0 where
  pub committed : (key : Key) → committed_in new key ≡ committed_in old key
  pub held : (key : Key) → held_in new key ≡ (if is_listed table key keys then given_up session (held_in old key) else held_in old key)

-- ---- a table after the end of a session

-- The table after the session's commit.
pub record IsCommitted (place : ℕ) (keys : List HeldKey) (session : List ℕ) (old new : Rows) : Type 0 where
  pub left : IsTableLeft session old new
  pub slots : SettlesAll place keys session old.slots new.slots

-- The table after the session's rollback.
pub record IsRolledBack (place : ℕ) (keys : List HeldKey) (session : List ℕ) (old new : Rows) : Type 0 where
  pub left : IsTableLeft session old new
  pub slots : ReleasesAll place keys session (restored session old.cleared old.slots) new.slots

-- Whether a table exists and has changed in this way.
abbrev pub IsChangedTo : (Rows → Type 0) → Option Rows → Type 0
IsChangedTo Change None = ⊥
IsChangedTo Change (Some rows) = Change rows

-- The tables are the same ones in the same order, and each has changed in this way.
pub record EachChanges (Change : ℕ → Rows → Rows → Type 0) (old new : List Rows) : Type 0 where
  pub each : (place : ℕ) (rows : Rows) → slice_get old place ≡ Some rows → IsChangedTo (Change place rows) (slice_get new place)
  pub back : (place : ℕ) → slice_get old place ≡ None → slice_get new place ≡ None

-- Only the slots of the table have changed, in this way.
pub record ChangesOnlySlots (Change : Slots → Slots → Type 0) (old new : Rows) : Type 0 where
  pub table : new.table ≡ old.table
  pub places : new.places ≡ old.places
  pub cleared : new.cleared ≡ old.cleared
  pub holders : new.holders ≡ old.holders
  pub slots : Change old.slots new.slots

-- ---- the listed keys of all tables

-- The session's row at one key of the table was committed.
abbrev pub SettlesOne : HeldKey → List ℕ → ℕ → Rows → Rows → Type 0
SettlesOne held session place old new = ChangesOnlySlots (SettlesAll place (held ∷ []) session) old new

-- The session's lock on one key of the table was released.
abbrev pub ReleasesOne : HeldKey → List ℕ → ℕ → Rows → Rows → Type 0
ReleasesOne held session place old new = ChangesOnlySlots (ReleasesAll place (held ∷ []) session) old new

-- The session's rows at the listed keys of the table were committed.
abbrev pub SettlesListed : List HeldKey → List ℕ → ℕ → Rows → Rows → Type 0
SettlesListed keys session place old new = ChangesOnlySlots (SettlesAll place keys session) old new

-- The session's locks on the listed keys of the table were released.
abbrev pub ReleasesListed : List HeldKey → List ℕ → ℕ → Rows → Rows → Type 0
ReleasesListed keys session place old new = ChangesOnlySlots (ReleasesAll place keys session) old new
