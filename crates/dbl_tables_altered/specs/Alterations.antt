-- What an alteration makes of a table's columns and rows, and which alterations a table can't have. PostgreSQL's manual, "ALTER TABLE", ADD
-- COLUMN and DROP COLUMN.
use Rattle.std.specs.Prelude.{ℕ, ◌||◌, nat_le, nat_lt, not, Bool, false, if◌then◌else◌, is_some}
use Rattle.std.specs.Prelude.{List, [], ◌∷◌, ◌++◌, filter, length, bytes_eq}
use Rattle.dbl_pgmsg.specs.Grammar.{spelling, message_limit}
use Rattle.dbl_model_table.specs.declared.table.RawColumn.{RawColumn}
use Rattle.dbl_model_table.specs.declared.table.RawTable.{RawTable}
use Rattle.dbl_model_table.specs.Made.{table_fault}
use Rattle.dbl_tables_rows.specs.SourceLog.Texts.{Texts}
use Rattle.dbl_tables_rows.specs.Cells.{is_column, spells_cell}
use Rattle.dbl_tables_rows.specs.Sending.{column_type, column_limit, insert_message}
use Rattle.dbl_tables_altered.specs.declared.alteration.Alteration.{Alteration}
use Rattle.dbl_tables_altered.specs.declared.alteration.Alteration.TheVariants.{Add, Remove}

-- ---- columns and rows

-- Whether an alteration removes the column of this name.
abbrev pub removes : Alteration → List ℕ → Bool
removes (Add column text) name = false
removes (Remove removed) name = bytes_eq removed name

-- The column that an alteration adds, if it adds one.
abbrev pub added_columns : Alteration → List RawColumn
added_columns (Add column text) = column ∷ []
added_columns (Remove removed) = []

-- The cell of the column that an alteration adds, if it adds one.
abbrev pub added_cells : Alteration → Texts
added_cells (Add column text) = text ∷ []
added_cells (Remove removed) = []

-- The columns after an alteration: those that it doesn't remove, and then the one that it adds.
abbrev pub columns_after : Alteration → List RawColumn → List RawColumn
columns_after alteration columns = filter (λ column. not (removes alteration column.name)) columns ++ added_columns alteration

-- The catalogue's entry of a table after an alteration: its name and the names of its key stay.
abbrev pub raw_after : Alteration → RawTable → RawTable
raw_after alteration raw = record raw { columns = columns_after alteration raw.columns }

-- The cells of a row in the columns that an alteration doesn't remove.
abbrev pub cells_left : Alteration → List RawColumn → Texts → Texts
cells_left alteration [] row = []
cells_left alteration (column ∷ columns) [] = []
cells_left alteration (column ∷ columns) (text ∷ row) =
    if removes alteration column.name then cells_left alteration columns row else text ∷ cells_left alteration columns row

-- A row of these columns after an alteration: each column that stays keeps its cell, and the one that is added has the alteration's.
abbrev pub row_after : Alteration → List RawColumn → Texts → Texts
row_after alteration columns row = cells_left alteration columns row ++ added_cells alteration

-- ---- refusals

-- Whether the columns after an alteration make no table that can be captured: where a column of the added one's name exists or its type is
-- float4 or float8, and where the removed column is of the key.
abbrev pub makes_no_table : Alteration → RawTable → Bool
makes_no_table alteration raw = is_some (table_fault (raw_after alteration raw))

-- Whether the table has no room for the added column, or its cell is no text of its type; or the column to remove doesn't exist.
abbrev pub is_misplaced : Alteration → RawTable → Bool
is_misplaced (Add column text) raw = nat_le column_limit (length raw.columns) || not (spells_cell (column_type column) text)
is_misplaced (Remove removed) raw = not (is_column raw removed)

-- Whether a table of these columns can't have an alteration, for every list of rows.
abbrev pub is_unfit : Alteration → RawTable → Bool
is_unfit alteration raw = is_misplaced alteration raw || makes_no_table alteration raw

-- Whether the Insert message of an altered row is too long with the cell that was added.
abbrev pub is_too_long_with : Alteration → ℕ → Texts → Bool
is_too_long_with (Add column text) oid row = nat_lt message_limit (length (spelling (insert_message oid row)))
is_too_long_with (Remove removed) oid row = false
