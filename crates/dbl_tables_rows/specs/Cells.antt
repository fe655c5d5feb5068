-- Rows and keys of cells that name their columns, and which cells are readable.
use Rattle.std.specs.Prelude.{ℕ, ◌&&◌, ◌||◌, not, Bool, true, Option, None, Some, is_some}
use Rattle.std.specs.Prelude.{option_and_then, find, List, [], ◌∷◌, map, bytes_eq}
use Rattle.std.specs.List.{list_any, list_all}
use Rattle.dbl_value_types.specs.declared.column_type.PgType.{PgType}
use Rattle.dbl_value_types.specs.Values.{value_of}
use Rattle.dbl_model_table.specs.declared.named_cell.NamedCell.{NamedCell}
use Rattle.dbl_model_table.specs.declared.table.RawColumn.{RawColumn}
use Rattle.dbl_model_table.specs.declared.table.RawTable.{RawTable}
use Rattle.dbl_model_table.specs.declared.row.Key.{Key}
use Rattle.dbl_model_table.specs.Made.{raw_names}
use Rattle.dbl_model_table.specs.Tables.{are_distinct}
use Rattle.dbl_source_log.specs.ModelHistory.History.{RawKey}
use Rattle.dbl_source_log.specs.Texts.{Texts, type_named, key_from}

-- ---- cells of rows and keys

-- The cell of a column, if there is one.
abbrev pub cell_named : List NamedCell → List ℕ → Option NamedCell
cell_named cells name = find (λ cell. bytes_eq cell.column name) cells

-- The text of a column's cell: null if the cell is null or missing.
abbrev pub text_given : List NamedCell → List ℕ → Option (List ℕ)
text_given cells name = option_and_then (λ cell. cell.text) (cell_named cells name)

-- The row with these cells, and null in other columns.
abbrev pub row_given : RawTable → List NamedCell → Texts
row_given raw cells = map (λ column. text_given cells column.name) raw.columns

-- The key's texts among these cells, in key order.
abbrev pub key_texts : RawTable → List NamedCell → RawKey
key_texts raw cells = map (text_given cells) raw.key

-- The key with these cells.
abbrev pub key_given : RawTable → List NamedCell → Key
key_given raw cells = key_from raw (key_texts raw cells)

-- ---- cells that are set

-- The text of a cell that is set, or the earlier text if the cell isn't set.
abbrev pub text_or : Option NamedCell → Option (List ℕ) → Option (List ℕ)
text_or None before = before
text_or (Some cell) before = cell.text

-- The text of a column after these cells are set.
abbrev pub text_set : List NamedCell → List ℕ → Option (List ℕ) → Option (List ℕ)
text_set set name before = text_or (cell_named set name) before

-- The row with these cells set.
abbrev pub row_set : List RawColumn → List NamedCell → Texts → Texts
row_set [] set row = []
row_set (column ∷ columns) set [] = []
row_set (column ∷ columns) set (text ∷ row) = text_set set column.name text ∷ row_set columns set row

-- The texts of a key after these cells are set.
abbrev pub key_texts_set : List NamedCell → List (List ℕ) → RawKey → RawKey
key_texts_set set [] key = []
key_texts_set set (name ∷ names) [] = []
key_texts_set set (name ∷ names) (text ∷ key) = text_set set name text ∷ key_texts_set set names key

-- The key of a row after these cells are set, from the cells of its key before.
abbrev pub key_set : RawTable → List NamedCell → List NamedCell → Key
key_set raw key set = key_from raw (key_texts_set set raw.key (key_texts raw key))

-- ---- readable cells

-- Whether the table has a column of this name.
abbrev pub is_column : RawTable → List ℕ → Bool
is_column raw name = list_any (bytes_eq name) (raw_names raw.columns)

-- Whether the key has a column of this name.
abbrev pub is_key_name : RawTable → List ℕ → Bool
is_key_name raw name = list_any (bytes_eq name) raw.key

-- Whether a cell is null or a text that parses as a value of the type.
abbrev pub spells_cell : PgType → Option (List ℕ) → Bool
spells_cell ty None = true
spells_cell ty (Some text) = is_some (value_of ty text)

-- Whether a cell is of a column of the table, and is null or a text of its type.
abbrev pub is_readable : RawTable → NamedCell → Bool
is_readable raw cell = is_column raw cell.column && spells_cell (type_named raw cell.column) cell.text

-- Whether each cell is readable.
abbrev pub are_each_readable : RawTable → List NamedCell → Bool
are_each_readable raw cells = list_all (is_readable raw) cells

-- Whether each cell is readable, and no two are of one column.
abbrev pub are_readable : RawTable → List NamedCell → Bool
are_readable raw cells = are_each_readable raw cells && are_distinct bytes_eq (map (λ cell. cell.column) cells)

-- Whether each column of the key has a text.
abbrev pub has_key_texts : RawTable → List NamedCell → Bool
has_key_texts raw cells = list_all (λ name. is_some (text_given cells name)) raw.key

-- Whether all cells are of key columns.
abbrev pub are_of_key : RawTable → List NamedCell → Bool
are_of_key raw cells = list_all (λ cell. is_key_name raw cell.column) cells

-- Whether no cell of a key column is null.
abbrev pub keep_key : RawTable → List NamedCell → Bool
keep_key raw cells = list_all (λ cell. is_some cell.text || not (is_key_name raw cell.column)) cells

-- Whether cells can make a row: all readable, with no null in the key.
abbrev pub is_readable_row : RawTable → List NamedCell → Bool
is_readable_row raw cells = are_readable raw cells && has_key_texts raw cells

-- Whether cells can make a key: all readable, of exactly the key's columns, and none null.
abbrev pub is_readable_key : RawTable → List NamedCell → Bool
is_readable_key raw cells = are_readable raw cells && are_of_key raw cells && has_key_texts raw cells

-- Whether cells can be set in a row: all readable, with no null in the key.
abbrev pub is_readable_set : RawTable → List NamedCell → Bool
is_readable_set raw cells = are_readable raw cells && keep_key raw cells
