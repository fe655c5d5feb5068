-- A table of the store after an alteration.
use Rattle.std.specs.Prelude.{◌≡◌, ◌⊎◌, ℕ, ◌<◌, ◌≤◌, true, false, if◌then◌else◌, is_some, Option, None, Some, IfSome}
use Rattle.std.specs.Prelude.{option_map, Result, Ok, Err, List, [], ◌∷◌, length}
use Rattle.dbl_model_table.specs.declared.row.Key.{Key}
use Rattle.dbl_model_table.specs.declared.table.RawColumn.{RawColumn}
use Rattle.dbl_model_table.specs.declared.table.RawRow.{RawRow}
use Rattle.dbl_model_table.specs.declared.table.RawTable.{RawTable}
use Rattle.dbl_model_table.specs.declared.table.TableInfo.{TableInfo}
use Rattle.dbl_model_table.specs.declared.error.ModelError.{ModelError}
use Rattle.dbl_model_table.specs.declared.error.ModelError.TheVariants as model
use Rattle.dbl_model_table.specs.Infos.{IsInfoOf, catalogue_of}
use Rattle.dbl_model_table.specs.Keys.{same_key}
use Rattle.dbl_model_table.specs.Made.{table_fault}
use Rattle.dbl_tables_rows.specs.SourceLog.Texts.{Texts}
use Rattle.dbl_tables_rows.specs.declared.error.StepError.{StepError}
use Rattle.dbl_tables_rows.specs.declared.error.StepError.TheVariants as errors
use Rattle.dbl_tables_rows.specs.declared.rows.Rows.{Rows}
use Rattle.dbl_tables_rows.specs.declared.slots.Slot.{Slot}
use Rattle.dbl_tables_rows.specs.Given.{HasColumns}
use Rattle.dbl_tables_rows.specs.Sending.{raw_of, column_limit}
use Rattle.dbl_tables_rows.specs.Views.{Slots, texts_of, committed_in, held_in, committed_at}
use Rattle.dbl_tables_altered.specs.declared.alteration.Alteration.{Alteration}
use Rattle.dbl_tables_altered.specs.declared.alteration.Alteration.TheVariants.{Add, Remove}
use Rattle.dbl_tables_altered.specs.Alterations.{removes, raw_after, row_after, is_misplaced, is_unfit, is_too_long_with}

-- ---- for private clauses: columns

-- The column, unless the alteration removes it.
abbrev pub column_left : Alteration → RawColumn → List RawColumn
column_left alteration column = if removes alteration column.name then [] else column ∷ []

-- The cell of the column of this name, unless the alteration removes that.
abbrev pub cell_left : Alteration → List ℕ → Option (List ℕ) → Texts
cell_left alteration name text = if removes alteration name then [] else text ∷ []

-- The refusal of columns that make no table, unless memory ran out.
abbrev pub refusal_of : ModelError → StepError
refusal_of model.Memory = errors.Memory
refusal_of e = errors.BadAlter

-- A table of the entry's columns, or its refusal.
abbrev pub MakesInfo : RawTable → Result TableInfo StepError → Type 0
MakesInfo raw (Ok info) = IsInfoOf raw info × (is_some (table_fault raw) ≡ false)
MakesInfo raw (Err e) = (e ≡ errors.Memory) ⊎ ((e ≡ errors.BadAlter) × (is_some (table_fault raw) ≡ true))

-- The alteration is in its place, or it is refused.
abbrev pub JudgesColumns : Alteration → RawTable → Result Unit StepError → Type 0
JudgesColumns alteration raw (Ok done) = is_misplaced alteration raw ≡ false
JudgesColumns alteration raw (Err e) = (e ≡ errors.Memory) ⊎ ((e ≡ errors.BadAlter) × (is_misplaced alteration raw ≡ true))

-- The table's description after an alteration that it can have, or the refusal of one that it can't.
abbrev pub AltersInfo : Alteration → RawTable → Result TableInfo StepError → Type 0
AltersInfo alteration raw (Ok info) = (catalogue_of info ≡ raw_after alteration raw) × (is_unfit alteration raw ≡ false)
AltersInfo alteration raw (Err e) = (e ≡ errors.Memory) ⊎ ((e ≡ errors.BadAlter) × (is_unfit alteration raw ≡ true))

-- ---- for private clauses: rows

-- A table of so many columns has room for one more, if the alteration adds one.
abbrev pub HasRoom : Alteration → ℕ → Type 0
HasRoom (Add column text) width = width < column_limit
HasRoom (Remove removed) width = Unit {0}

-- A row doesn't have too many cells, if the alteration adds one.
abbrev pub IsNarrow : Alteration → Texts → Type 0
IsNarrow (Add column text) row = length row ≤ column_limit
IsNarrow (Remove removed) row = Unit {0}

-- An altered row isn't too long, or it is refused.
abbrev pub JudgesLength : Alteration → ℕ → Texts → Result Unit StepError → Type 0
JudgesLength alteration oid row (Ok done) = is_too_long_with alteration oid row ≡ false
JudgesLength alteration oid row (Err e) = (e ≡ errors.Memory) ⊎ ((e ≡ errors.BadAlter) × (is_too_long_with alteration oid row ≡ true))

-- A row after an alteration, or the refusal of one that is too long.
abbrev pub AltersRow : Alteration → ℕ → List RawColumn → Texts → Result RawRow StepError → Type 0
AltersRow alteration oid columns row (Ok after) = (after.cells ≡ row_after alteration columns row)
    × (is_too_long_with alteration oid (row_after alteration columns row) ≡ false)
AltersRow alteration oid columns row (Err e) = (e ≡ errors.Memory)
    ⊎ ((e ≡ errors.BadAlter) × (is_too_long_with alteration oid (row_after alteration columns row) ≡ true))

-- A row was entered at a key, without a lock.
pub record EntersRow (key : Key) (row : Texts) (old new : Slots) : Type 0 where
  pub committed : (other : Key) → committed_in new other ≡ (if same_key key other then Some row else committed_in old other)
  pub held : (other : Key) → held_in new other ≡ (if same_key key other then None else held_in old other)

-- The row of a slot was entered as the alteration makes it, if there is one.
abbrev pub EntersAltered : Alteration → ℕ → List RawColumn → Key → Option Texts → Slots → Slots → Type 0
EntersAltered alteration oid columns key None old new = new ≡ old
EntersAltered alteration oid columns key (Some row) old new = (is_too_long_with alteration oid (row_after alteration columns row) ≡ false)
    × EntersRow key (row_after alteration columns row) old new

-- The row of a slot is too long as the alteration makes it.
abbrev pub IsLong : Alteration → ℕ → List RawColumn → Option Texts → Type 0
IsLong alteration oid columns None = ⊥
IsLong alteration oid columns (Some row) = is_too_long_with alteration oid (row_after alteration columns row) ≡ true

-- The row of a slot was entered as the alteration makes it, or it is refused as too long.
abbrev pub EntersSlot : Alteration → ℕ → List RawColumn → Key → Slot → Slots → Slots → Result Unit StepError → Type 0
EntersSlot alteration oid columns key slot old new (Ok done) = EntersAltered alteration oid columns key (texts_of slot.committed) old new
EntersSlot alteration oid columns key slot old new (Err e) = (e ≡ errors.Memory)
    ⊎ ((e ≡ errors.BadAlter) × IsLong alteration oid columns (texts_of slot.committed))

-- ---- rows by key

-- No row is too long after an alteration.
abbrev pub AreShortAfter : Alteration → ℕ → List RawColumn → (Key → Option Texts) → Type 0
AreShortAfter alteration oid columns at =
    (key : Key) (row : Texts) → at key ≡ Some row → is_too_long_with alteration oid (row_after alteration columns row) ≡ false

-- Some row is too long after an alteration.
pub record HasLongAfter (alteration : Alteration) (oid : ℕ) (columns : List RawColumn) (at : Key → Option Texts) : Type 0 where
  pub key : Key
  pub row : Texts
  pub there : at key ≡ Some row
  pub long : is_too_long_with alteration oid (row_after alteration columns row) ≡ true

-- The committed rows of slots after an alteration, without locks.
pub record AreAltered (alteration : Alteration) (oid : ℕ) (columns : List RawColumn) (at : Key → Option Texts) (new : Slots) : Type 0 where
  pub short : AreShortAfter alteration oid columns at
  pub committed : (key : Key) → committed_in new key ≡ option_map (row_after alteration columns) (at key)
  pub free : (key : Key) → held_in new key ≡ None

-- The committed rows after an alteration, or the refusal of one that makes a row too long.
abbrev pub AltersSlots : Alteration → ℕ → List RawColumn → Slots → Result Slots StepError → Type 0
AltersSlots alteration oid columns old (Ok new) = AreAltered alteration oid columns (committed_in old) new
AltersSlots alteration oid columns old (Err e) = (e ≡ errors.Memory)
    ⊎ ((e ≡ errors.BadAlter) × HasLongAfter alteration oid columns (committed_in old))

-- ---- tables

-- A table after an alteration that it can have: its columns and its committed rows are altered, and no session has locks.
pub record IsAlteredTable (alteration : Alteration) (oid : ℕ) (old new : Rows) : Type 0 where
  pub fit : is_unfit alteration (raw_of old.table) ≡ false
  pub columns : raw_of new.table ≡ raw_after alteration (raw_of old.table)
  pub full : new.table.full ≡ old.table.full
  pub toast : new.table.toast ≡ old.table.toast
  pub places : HasColumns new.table.info new.places
  pub rows : AreAltered alteration oid (raw_of old.table).columns (committed_at old) new.slots
  pub cleared : new.cleared ≡ None
  pub holders : new.holders.keys ≡ []

-- The table can't have the alteration: for its columns, or because a row is too long after it.
abbrev pub IsBadAlteration : Alteration → ℕ → Rows → Type 0
IsBadAlteration alteration oid old = (is_unfit alteration (raw_of old.table) ≡ true)
    ⊎ ((is_unfit alteration (raw_of old.table) ≡ false) × HasLongAfter alteration oid (raw_of old.table).columns (committed_at old))

-- A table after an alteration, or the refusal of one that it can't have.
abbrev pub AltersRows : Alteration → ℕ → Rows → Result Rows StepError → Type 0
AltersRows alteration oid old (Ok new) = IsAlteredTable alteration oid old new
AltersRows alteration oid old (Err e) = (e ≡ errors.Memory) ⊎ ((e ≡ errors.BadAlter) × IsBadAlteration alteration oid old)
