-- How the slots of a table change, and a table at the end of a session.
use Rattle.std.specs.Prelude.{◌≡◌, ◌&&◌, not, Bool, false, if◌then◌else◌, is_none, Option, None}
use Rattle.std.specs.Prelude.{Some, option_map, option_and_then, IsSome, ℕ, List, bytes_eq}
use Rattle.std.specs.BTreeMap.{IsEmpty, get}
use Rattle.std.specs.BTreeSet.{contains}
use Rattle.dbl_base.specs.Texts.{text_cmp}
use Rattle.dbl_model_table.specs.declared.row.Key.{Key}
use Rattle.dbl_model_table.specs.Keys.{key_cmp, same_key}
use Rattle.dbl_source_log.specs.Texts.{Texts}
use Rattle.dbl_tables_rows.specs.declared.slots.Held.{Held}
use Rattle.dbl_tables_rows.specs.declared.slots.Slot.{Slot}
use Rattle.dbl_tables_rows.specs.declared.rows.Cleared.{Cleared}
use Rattle.dbl_tables_rows.specs.declared.rows.Rows.{Rows}
use Rattle.dbl_tables_rows.specs.Views.{Slots, texts_of, committed_in, held_in, is_owner}

-- Whether the key has a slot.
abbrev pub HasSlot : Slots → Key → Type 0
HasSlot slots key = IsSome (get key_cmp slots key)

-- What each session sees stays unchanged.
pub record IsInvisible (old new : Slots) : Type 0 where
  pub committed : (key : Key) → committed_in new key ≡ committed_in old key
  pub held : (key : Key) → held_in new key ≡ held_in old key

-- One key was locked, with the row that its session sees.
pub record WritesLock (key : Key) (held : Held) (old new : Slots) : Type 0 where
  pub committed : (other : Key) → committed_in new other ≡ committed_in old other
  pub locked : (other : Key) → held_in new other ≡ (if same_key key other then Some held else held_in old other)

-- Whether a lock is the session's.
abbrev pub held_by : List ℕ → Option Held → Bool
held_by session held = is_owner session (option_map (λ h. h.by) held)

-- The row under a lock, if any.
abbrev pub row_held : Option Held → Option Texts
row_held None = None
row_held (Some held) = texts_of held.row

-- The committed row after a session's commit: the row under its lock, or else the one before.
abbrev pub settled_row : List ℕ → Option Held → Option Texts → Option Texts
settled_row session held committed = if held_by session held then row_held held else committed

-- The lock on a key after the session has released its own.
abbrev pub given_up : List ℕ → Option Held → Option Held
given_up session held = if held_by session held then None else held

-- The session's row at one key was committed.
pub record Settles (key : Key) (session : List ℕ) (old new : Slots) : Type 0 where
  pub committed : (other : Key)
      → committed_in new other
      ≡ (if same_key key other then settled_row session (held_in old other) (committed_in old other) else committed_in old other)
  pub held : (other : Key) → held_in new other ≡ (if same_key key other then given_up session (held_in old other) else held_in old other)

-- The session's lock on one key was released.
pub record ReleasesKey (key : Key) (session : List ℕ) (old new : Slots) : Type 0 where
  pub committed : (other : Key) → committed_in new other ≡ committed_in old other
  pub held : (other : Key) → held_in new other ≡ (if same_key key other then given_up session (held_in old other) else held_in old other)

-- ---- one slot

-- A slot after the commit of the session's row.
abbrev pub settled_slot : List ℕ → Slot → Slot
settled_slot session slot = if held_by session slot.held
    then record { committed = option_and_then (λ held. held.row) slot.held; held = None } else slot

-- A slot after the release of the session's lock.
abbrev pub released_slot : List ℕ → Slot → Slot
released_slot session slot = if held_by session slot.held then record slot { held = None } else slot

-- Whether a slot has neither a committed row nor a lock.
abbrev pub is_empty_slot : Slot → Bool
is_empty_slot slot = is_none slot.committed && is_none slot.held

-- Whether there is a slot with neither a committed row nor a lock.
abbrev pub is_empty_there : Option Slot → Bool
is_empty_there None = false
is_empty_there (Some slot) = is_empty_slot slot

-- ---- a table after the end of a session

-- The truncate in progress after the end of a session: none if it was the session's own.
abbrev pub cleared_left : List ℕ → Option Cleared → Option Cleared
cleared_left session None = None
cleared_left session (Some cleared) = if bytes_eq cleared.by session then None else Some cleared

-- The slots of a table after a rollback: those before the session's truncate, if it made one.
abbrev pub restored : List ℕ → Option Cleared → Slots → Slots
restored session None slots = slots
restored session (Some cleared) slots = if bytes_eq cleared.by session then cleared.slots else slots

-- What a commit and a rollback have in common at a table.
pub record IsTableLeft (session : List ℕ) (old new : Rows) : Type 0 where
  pub table : new.table ≡ old.table
  pub places : new.places ≡ old.places
  pub cleared : new.cleared ≡ cleared_left session old.cleared
  pub holders : (name : List ℕ) → contains text_cmp new.holders name ≡ (not (bytes_eq session name) && contains text_cmp old.holders name)

-- The session's truncate was committed, and its locks on keys remain.
pub record IsEnded (session : List ℕ) (old new : Rows) : Type 0 where
  pub left : IsTableLeft session old new
  pub slots : new.slots ≡ old.slots

-- The session's truncate was rolled back, and its locks on keys remain.
pub record IsUndone (session : List ℕ) (old new : Rows) : Type 0 where
  pub left : IsTableLeft session old new
  pub slots : new.slots ≡ restored session old.cleared old.slots

-- ---- a truncate

-- The truncate in progress after a session truncates: its first one, which has the slots before it.
abbrev pub cleared_by : List ℕ → Option Cleared → Slots → Option Cleared
cleared_by session None slots = Some (record { by = session; slots = slots })
cleared_by session (Some cleared) slots = Some cleared

-- The session truncated the table, which has no rows since.
pub record IsTruncated (session : List ℕ) (old new : Rows) : Type 0 where
  pub table : new.table ≡ old.table
  pub places : new.places ≡ old.places
  pub cleared : new.cleared ≡ cleared_by session old.cleared old.slots
  pub holders : new.holders ≡ old.holders
  pub slots : IsEmpty new.slots
