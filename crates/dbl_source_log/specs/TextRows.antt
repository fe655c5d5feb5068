-- The rows of a log's tables as texts, by table and key.
use Rattle.std.specs.Prelude.{if◌then◌else◌, Option, Some, None, option_map, find, List, [], ◌∷◌, map}
use Rattle.dbl_model_table.specs.declared.table.TableName.{TableName}
use Rattle.dbl_model_table.specs.declared.table.RawTable.{RawTable}
use Rattle.dbl_model_table.specs.declared.row.Key.{Key}
use Rattle.dbl_model_table.specs.Tables.{same_name}
use Rattle.dbl_model_table.specs.Keys.{same_key}
use Rattle.dbl_source_model.specs.ModelHistory.History.{RawCell, RawChange, name_of}
use Rattle.dbl_source_model.specs.ModelHistory.History.RawChange.{Insert, Update, Delete, Clear}
use Rattle.dbl_source_log.specs.declared.logged.LogTable.{LogTable}
use Rattle.dbl_source_log.specs.Texts.{Texts, key_from, key_in, given_text, all_texts, overlaid}

-- The cells of the row at each table and key.
abbrev pub TextRows : Type 0
TextRows = TableName → Key → Option Texts

-- The state with no rows.
abbrev pub no_text_rows : TextRows
no_text_rows name key = None

-- The row after an update at the key that it leads to.
abbrev pub updated_texts : Option Texts → List RawCell → Option Texts → Option Texts
updated_texts (Some row) cells was = Some row
updated_texts None cells was = option_map (overlaid cells) was

-- The row of a table at a key after a change. An update that moves the key ends the old key's row.
abbrev pub text_row_after : RawTable → RawChange → (Key → Option Texts) → Key → Option Texts
text_row_after raw (Insert name row) rows key = if same_key (key_in raw row.cells) key then Some row.cells else rows key
text_row_after raw (Update name from old cells) rows key =
    if same_key (key_in raw (map given_text cells)) key then updated_texts (all_texts cells) cells (rows key)
    else (if same_key (key_from raw from) key then None else rows key)
text_row_after raw (Delete name from old) rows key = if same_key (key_from raw from) key then None else rows key
text_row_after raw (Clear name) rows key = None

-- The row at a key after a change of this table, unchanged if there is none.
abbrev pub text_row_in : Option LogTable → RawChange → (Key → Option Texts) → Key → Option Texts
text_row_in None change rows key = rows key
text_row_in (Some table) change rows key = text_row_after table.raw change rows key

-- The table of this name.
abbrev pub log_table_named : List LogTable → TableName → Option LogTable
log_table_named tables name = find (λ table. same_name table.raw.name name) tables

-- The rows after one change.
abbrev pub text_rows_after : List LogTable → RawChange → TextRows → TextRows
text_rows_after tables change rows name key = if same_name (name_of change) name
    then text_row_in (log_table_named tables name) change (rows name) key else rows name key

-- The rows after a list of changes.
abbrev pub text_rows_with : List LogTable → List RawChange → TextRows → TextRows
text_rows_with tables [] rows = rows
text_rows_with tables (change ∷ changes) rows = text_rows_with tables changes (text_rows_after tables change rows)
