-- How the version and the rows that a source answered are read, and which of their errors is the first: another version than the window's
-- comes before all errors of rows. Of a row its number and its number of cells are checked first, then its cells, and then the order of its
-- key.
use Rattle.std.specs.Prelude.{ℕ, ◌+◌, ◌==◌, ◌&&◌, nat_lt, nat_eq, Bool, true, if◌then◌else◌}
use Rattle.std.specs.Prelude.{Option, Some, None, Result, Ok, Err, List, [], ◌∷◌, length}
use Rattle.std.specs.List.{list_any}
use Rattle.std.specs.Ordering.{is_lt}
use Rattle.dbl_value_types.specs.declared.value.Val.{Val}
use Rattle.dbl_value_types.specs.declared.value.Val.TheVariants as val
use Rattle.dbl_value_types.specs.Values.{value_of}
use Rattle.dbl_value_types.specs.Faults.{fault_of}
use Rattle.dbl_model_table.specs.declared.row.Key.{Key}
use Rattle.dbl_model_table.specs.declared.row.Row.{Row}
use Rattle.dbl_model_table.specs.declared.table.Column.{Column}
use Rattle.dbl_model_table.specs.declared.table.RawRow.{RawRow}
use Rattle.dbl_model_table.specs.declared.table.TableInfo.{TableInfo}
use Rattle.dbl_model_table.specs.Infos.{width}
use Rattle.dbl_model_table.specs.Keys.{key_cmp, key_of}
use Rattle.dbl_source.specs.SourceModel.declared.selected.Selected.{Selected}
use Rattle.dbl_window.specs.declared.error.WindowError.{WindowError}
use Rattle.dbl_window.specs.declared.error.WindowError.TheVariants as window
use Rattle.dbl_window.specs.Plans.{Plan}

infixl 10 ◌>>=◌
-- Sequencing of results: the result for a value, or the first error.
abbrev pub ◌>>=◌ : {A B : Type 0} → Result A WindowError → (A → Result B WindowError) → Result B WindowError
(Ok x) >>= f = f x
(Err e) >>= f = Err e

-- Whether the column at an index is a key column.
abbrev pub is_of_key : TableInfo → ℕ → Bool
is_of_key info place = list_any (nat_eq place) info.key

-- Null, or an error for a cell of the key.
abbrev pub null_read : ℕ → Bool → Result Val WindowError
null_read number in_key = if in_key then Err (window.BadChunk number) else Ok val.Null

-- The value that a text has at its column's type, or an error.
abbrev pub value_read : Column → List ℕ → Option Val → Result Val WindowError
value_read column text (Some v) = Ok v
value_read column text None = Err (window.Cell column.name (fault_of column.ty text))

-- The value of a cell of the row with this number, in the column at an index.
abbrev pub cell_read : TableInfo → ℕ → ℕ → Column → Option (List ℕ) → Result Val WindowError
cell_read info number place column None = null_read number (is_of_key info place)
cell_read info number place column (Some text) = value_read column text (value_of column.ty text)

-- The values of a row's cells column by column, from an index on.
abbrev pub cells_read : TableInfo → ℕ → ℕ → List Column → List (Option (List ℕ)) → Result (List Val) WindowError
cells_read info number place [] cells = Ok []
cells_read info number place (column ∷ columns) [] = Ok []
cells_read info number place (column ∷ columns) (c ∷ cells) =
    cell_read info number place column c >>= λ x. cells_read info number (place + 1) columns cells >>= λ xs. Ok (x ∷ xs)

-- Whether a key is after the last one, as every key is if there is none.
abbrev pub comes_after : Option Key → Key → Bool
comes_after None key = true
comes_after (Some last) key = is_lt (key_cmp last key)

-- The row if its key is after the last one, or else an error.
abbrev pub placed : ℕ → Option Key → Key × Row → Result (Key × Row) WindowError
placed number last entry = if comes_after last entry.0 then Ok entry else Err (window.BadChunk number)

-- A row's cells with its key.
abbrev pub with_key : TableInfo → List Val → Key × Row
with_key info cells = (key_of info cells, record { cells = cells })

-- The row with this number, whose key must be after the last one.
abbrev pub row_read : Plan → ℕ → Option Key → RawRow → Result (Key × Row) WindowError
row_read plan number last raw =
    if nat_lt number plan.limit && (length raw.cells == width plan.info)
    then (cells_read plan.info number 0 plan.info.columns raw.cells >>= λ cells. placed number last (with_key plan.info cells))
    else Err (window.BadChunk number)

-- The rows from a number on, whose keys must rise from the last one on.
abbrev pub rows_read : Plan → ℕ → Option Key → List RawRow → Result (List (Key × Row)) WindowError
rows_read plan number last [] = Ok []
rows_read plan number last (raw ∷ rows) =
    row_read plan number last raw >>= λ entry. rows_read plan (number + 1) (Some entry.0) rows >>= λ entries. Ok (entry ∷ entries)

-- The rows of a chunk with their keys, or the first error.
unfoldable pub chunk_read : Plan → List RawRow → Result (List (Key × Row)) WindowError
chunk_read plan rows = rows_read plan 0 plan.above rows

-- The rows of a chunk with their keys, if the answer has the window's version; or else an error.
abbrev pub answer_read : Plan → Selected → Result (List (Key × Row)) WindowError
answer_read plan answer = if answer.version == plan.version then chunk_read plan answer.rows else Err (window.Moved answer.version)
