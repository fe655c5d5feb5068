-- The state of a table in the store, key by key.
use Rattle.std.specs.Prelude.{◌≡◌, ℕ, ◌||◌, IfSome, length, Bool, false, if◌then◌else◌, Option}
use Rattle.std.specs.Prelude.{None, Some, option_map, option_and_then, List, bytes_eq}
use Rattle.std.specs.BTreeMap.{BTreeMap, get}
use Rattle.std.specs.BTreeSet.{BTreeSet, contains}
use Rattle.dbl_base.specs.Texts.{text_cmp}
use Rattle.dbl_model_table.specs.declared.row.Key.{Key}
use Rattle.dbl_model_table.specs.declared.table.RawRow.{RawRow}
use Rattle.dbl_model_table.specs.Keys.{key_cmp}
use Rattle.dbl_source_log.specs.Texts.{Texts}
use Rattle.dbl_tables_rows.specs.declared.slots.Held.{Held}
use Rattle.dbl_tables_rows.specs.declared.slots.Slot.{Slot}
use Rattle.dbl_tables_rows.specs.declared.rows.Cleared.{Cleared}
use Rattle.dbl_tables_rows.specs.declared.rows.Rows.{Rows}

-- The slots of a table by key.
abbrev pub Slots : Type 0
Slots = BTreeMap Key Slot

-- The texts of a row, if there is one.
abbrev pub texts_of : Option RawRow → Option Texts
texts_of row = option_map (λ r. r.cells) row

-- The committed row of a key.
abbrev pub committed_in : Slots → Key → Option Texts
committed_in slots key = option_and_then (λ slot. texts_of slot.committed) (get key_cmp slots key)

-- The lock on a key, with the row that its session sees there.
abbrev pub held_in : Slots → Key → Option Held
held_in slots key = option_and_then (λ slot. slot.held) (get key_cmp slots key)

-- The slots with the committed rows: those before a truncate in progress, if there is one.
abbrev pub base_of : Option Cleared → Slots → Slots
base_of None slots = slots
base_of (Some cleared) slots = cleared.slots

-- The committed row of a key in a table with a truncate in progress or none.
abbrev pub committed_at : Rows → Key → Option Texts
committed_at rows key = committed_in (base_of rows.cleared rows.slots) key

-- The session that has locked a key, by itself or with its table.
abbrev pub owner_in : Option Cleared → Slots → Key → Option (List ℕ)
owner_in None slots key = option_map (λ held. held.by) (held_in slots key)
owner_in (Some cleared) slots key = Some cleared.by

-- The session that has locked a key of the table.
abbrev pub owner_at : Rows → Key → Option (List ℕ)
owner_at rows key = owner_in rows.cleared rows.slots key

-- Whether the lock's owner is this session.
abbrev pub is_owner : List ℕ → Option (List ℕ) → Bool
is_owner session None = false
is_owner session (Some owner) = bytes_eq owner session

-- The row that a session sees: the one under its own lock, or else the committed one.
abbrev pub seen_under : List ℕ → Option Held → Option Texts → Option Texts
seen_under session None committed = committed
seen_under session (Some held) committed = if bytes_eq held.by session then texts_of held.row else committed

-- The row that a session sees at a key, with a truncate in progress or none.
abbrev pub seen_in : Option Cleared → Slots → List ℕ → Key → Option Texts
seen_in None slots session key = seen_under session (held_in slots key) (committed_in slots key)
seen_in (Some cleared) slots session key = if bytes_eq cleared.by session then seen_under session (held_in slots key) None
    else committed_in cleared.slots key

-- The row that a session sees at a key of the table.
abbrev pub seen_at : Rows → List ℕ → Key → Option Texts
seen_at rows session key = seen_in rows.cleared rows.slots session key

-- Whether a session has a lock on the table or on a key of it.
abbrev pub is_holder_in : Option Cleared → BTreeSet (List ℕ) → List ℕ → Bool
is_holder_in None holders session = contains text_cmp holders session
is_holder_in (Some cleared) holders session = bytes_eq cleared.by session || contains text_cmp holders session

-- Whether a session has a lock in the table.
abbrev pub is_holder : Rows → List ℕ → Bool
is_holder rows session = is_holder_in rows.cleared rows.holders session

-- Each row that is committed, or that a session sees, has a cell for each column.
pub record AreWide (rows : Rows) : Type 0 where
  pub committed : (key : Key) → IfSome (committed_at rows key) (λ row. length row ≡ length rows.table.info.columns)
  pub seen : (session : List ℕ) (key : Key) → IfSome (seen_at rows session key) (λ row. length row ≡ length rows.table.info.columns)

-- If a session truncates, no other session has locks.
abbrev pub IsAlone : Option Cleared → Slots → Type 0
IsAlone None slots = Unit {0}
IsAlone (Some cleared) slots = (key : Key) → IfSome (held_in slots key) (λ held. held.by ≡ cleared.by)
    × IfSome (held_in cleared.slots key) (λ held. held.by ≡ cleared.by)
