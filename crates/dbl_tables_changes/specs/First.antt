-- For private clauses and for the store's first rows: rows that are committed as they are inserted, where no session has locks.
use Rattle.std.specs.Prelude.{◌≡◌, ◌⊎◌, ℕ, true, false, if◌then◌else◌, is_some, IfSome, Option, None, Some, option_map, Result, Ok, Err}
use Rattle.std.specs.Prelude.{List, [], ◌∷◌, ◌++◌, length, map, bytes_eq}
use Rattle.std.specs.List.{list_any}
use Rattle.std.specs.BTreeMap.{get}
use Rattle.std.specs.BTreeSet.{contains}
use Rattle.dbl_base.specs.Texts.{text_cmp}
use Rattle.dbl_pgmsg.specs.declared.messages.Message.{Message}
use Rattle.dbl_model_table.specs.declared.named_cell.NamedCell.{NamedCell}
use Rattle.dbl_model_table.specs.declared.row.Key.{Key}
use Rattle.dbl_model_table.specs.declared.table.RawRow.{RawRow}
use Rattle.dbl_model_table.specs.declared.table.TableInfo.{TableInfo}
use Rattle.dbl_model_table.specs.Keys.{same_key}
use Rattle.dbl_model_table.specs.Made.{place_of}
use Rattle.dbl_model_table.specs.Tables.{are_distinct, column_names}
use Rattle.dbl_tables_rows.specs.SourceLog.Texts.{Texts, key_in}
use Rattle.dbl_tables_rows.specs.declared.demo_table.DemoTable.{DemoTable}
use Rattle.dbl_tables_rows.specs.declared.error.StepError.{StepError}
use Rattle.dbl_tables_rows.specs.declared.error.StepError.TheVariants as errors
use Rattle.dbl_tables_rows.specs.declared.rows.Rows.{Rows}
use Rattle.dbl_tables_changes.specs.declared.first.FirstRow.{FirstRow}
use Rattle.dbl_tables_rows.specs.Acts.{Accepted}
use Rattle.dbl_tables_rows.specs.Cells.{cell_named, row_given, is_readable_row}
use Rattle.dbl_tables_rows.specs.Given.{given_names}
use Rattle.dbl_tables_rows.specs.Sending.{raw_of, insert_message, is_too_large}
use Rattle.dbl_tables_rows.specs.Steps.{FoundTable, seen}
use Rattle.dbl_tables_rows.specs.Views.{Slots, committed_in, held_in}
use Rattle.dbl_tables_changes.specs.Planned.{MeasuresEntry}
use Rattle.dbl_tables_changes.specs.Taking.{IsSameTable}

-- The row that these cells give in a table.
abbrev pub first_row : DemoTable → List NamedCell → Texts
first_row table cells = row_given (raw_of table) cells

-- The key of the row that these cells give.
abbrev pub first_key : DemoTable → List NamedCell → Key
first_key table cells = key_in (raw_of table) (first_row table cells)

-- The cell of a column, as a text or null; none if no cell names the column.
abbrev pub cell_given : List NamedCell → List ℕ → Option (Option (List ℕ))
cell_given cells name = option_map (λ cell. cell.text) (cell_named cells name)

-- The cells of each column of a table.
abbrev pub cells_named : TableInfo → List NamedCell → List (Option (Option (List ℕ)))
cells_named info cells = map (cell_given cells) (column_names info.columns)

-- One more cell was put at its column, or its column was named before, if there is one.
abbrev pub TakesCell : TableInfo → List NamedCell → NamedCell → List (Option (Option (List ℕ))) → Result Unit StepError → Type 0
TakesCell info cells cell new (Ok done) = (new ≡ cells_named info (cells ++ cell ∷ []))
    × (list_any (bytes_eq cell.column) (given_names cells) ≡ false)
TakesCell info cells cell new (Err e) = (e ≡ errors.BadRow) × (is_some (place_of (column_names info.columns) cell.column) ≡ true
    → list_any (bytes_eq cell.column) (given_names cells) ≡ true)

-- All cells were put at their columns, and no column is named twice.
abbrev pub AreTaken : TableInfo → List NamedCell → List (Option (Option (List ℕ))) → Type 0
AreTaken info cells named = (named ≡ cells_named info cells) × (are_distinct bytes_eq (given_names cells) ≡ true)

-- A column is named twice, unless memory ran out.
abbrev pub NamesTwice : List NamedCell → StepError → Type 0
NamesTwice cells e = (e ≡ errors.Memory) ⊎ ((e ≡ errors.BadRow) × (are_distinct bytes_eq (given_names cells) ≡ false))

-- A row was committed at a key, without a lock.
pub record PutsRow (key : Key) (row : RawRow) (old new : Slots) : Type 0 where
  pub committed : (other : Key) → committed_in new other ≡ (if same_key key other then Some row.cells else committed_in old other)
  pub held : (other : Key) → held_in new other ≡ (if same_key key other then None else held_in old other)

-- The row of readable cells, with its key, its message, and the size of the entry with the message.
pub record IsFirstRow (table : DemoTable) (oid : ℕ) (messages : List Message) (cells : List NamedCell) (first : FirstRow) : Type 0 where
  pub readable : is_readable_row (raw_of table) cells ≡ true
  pub row_is : first.row.cells ≡ first_row table cells
  pub key_is : first.key ≡ first_key table cells
  pub message_is : first.message ≡ insert_message oid (first_row table cells)
  pub fits : MeasuresEntry table messages (insert_message oid (first_row table cells)) (Ok first.size)

-- The cells can't be read as a row, or the row's message is too large.
abbrev pub IsBadFirst : DemoTable → ℕ → List Message → List NamedCell → Type 0
IsBadFirst table oid messages cells = (is_readable_row (raw_of table) cells ≡ false)
    ⊎ ((is_readable_row (raw_of table) cells ≡ true)
    × (is_too_large table messages (insert_message oid (first_row table cells)) ≡ true))

-- A first row as it is read, or why it can't be inserted.
abbrev pub PlansFirst : DemoTable → ℕ → List Message → List NamedCell → Result FirstRow StepError → Type 0
PlansFirst table oid messages cells (Ok first) = IsFirstRow table oid messages cells first
PlansFirst table oid messages cells (Err e) = (e ≡ errors.Memory) ⊎ ((e ≡ errors.BadRow) × IsBadFirst table oid messages cells)

-- The row of these cells was inserted at a key that had none, and its message is the last one.
pub record IsFirstInserted (oid : ℕ) (cells : List NamedCell) (old new : Rows) (before after : List Message) (size : ℕ) : Type 0 where
  pub first : FirstRow
  pub is : IsFirstRow old.table oid before cells first
  pub absent : is_some (committed_in old.slots first.key) ≡ false
  pub table : IsSameTable old new
  pub holders : new.holders ≡ old.holders
  pub slots : PutsRow first.key first.row old.slots new.slots
  pub messages : after ≡ before ++ first.message ∷ []
  pub size_is : size ≡ first.size

-- The row of these cells can be read and isn't too large, and its key has a row.
pub record IsFirstTaken (oid : ℕ) (cells : List NamedCell) (old : Rows) (before : List Message) : Type 0 where
  pub readable : is_readable_row (raw_of old.table) cells ≡ true
  pub small : is_too_large old.table before (insert_message oid (first_row old.table cells)) ≡ false
  pub there : is_some (committed_in old.slots (first_key old.table cells)) ≡ true

-- A first row was inserted, or the reason why it wasn't.
abbrev pub InsertsFirst : ℕ → List NamedCell → Rows → Rows → List Message → List Message → Result ℕ StepError → Type 0
InsertsFirst oid cells old new before after (Ok size) = IsFirstInserted oid cells old new before after size
InsertsFirst oid cells old new before after (Err e) = (e ≡ errors.Memory)
    ⊎ (((e ≡ errors.BadRow) × IsBadFirst old.table oid before cells)
    ⊎ ((e ≡ errors.RowExists) × IsFirstTaken oid cells old before))

-- The rows of a table are those that the session without a name sees, and no session has locks.
pub record AreInserted (tables : List DemoTable) (past : List Accepted) (at : FoundTable) (rows : Rows) : Type 0 where
  pub table : rows.table ≡ at.table
  pub places : (name : List ℕ) → get text_cmp rows.places name ≡ place_of (column_names at.table.info.columns) name
  pub shown : (key : Key) → committed_in rows.slots key ≡ seen tables past [] at key
  pub free : (key : Key) → held_in rows.slots key ≡ None
  pub cleared : rows.cleared ≡ None
  pub holders : (name : List ℕ) → contains text_cmp rows.holders name ≡ false
  pub wide : (key : Key) → IfSome (committed_in rows.slots key) (λ row. length row ≡ length rows.table.info.columns)
