-- The changes of a source's history that a change message is sent for.
use Rattle.std.specs.Prelude.{not, Bool, if◌then◌else◌, Option, Some, None, option_map, filter_map, List, [], ◌∷◌, ◌++◌, map}
use Rattle.dbl_pgmsg.specs.declared.messages.Message.{Message}
use Rattle.dbl_pgmsg.specs.declared.messages.Message.TheVariants as says
use Rattle.dbl_pgmsg.specs.declared.messages.OldTuple.{OldTuple}
use Rattle.dbl_pgmsg.specs.declared.messages.Tuple.{Tuple}
use Rattle.dbl_model_table.specs.declared.table.RawRow.{RawRow}
use Rattle.dbl_model_table.specs.declared.table.RawTable.{RawTable}
use Rattle.dbl_model_table.specs.Keys.{same_key}
use Rattle.dbl_source_model.specs.ModelHistory.History.{RawCell, RawKey, RawChange}
use Rattle.dbl_source_model.specs.ModelHistory.History.RawChange.{Insert, Update, Delete, Clear}
use Rattle.dbl_source_model.specs.ModelCommit.Tuples.{is_whole}
use Rattle.dbl_source_model.specs.ModelCommit.Stated.{list_of}
use Rattle.dbl_source_log.specs.declared.logged.LogTable.{LogTable}
use Rattle.dbl_source_log.specs.Relations.{table_at}
use Rattle.dbl_source_log.specs.Texts.{Texts, raw_key, key_from, key_in, sent_text, old_row_in, new_texts, given_text, settled}
use Rattle.dbl_source_log.specs.TextRows.{TextRows, text_rows_with}

-- The change of an Insert.
abbrev pub insert_of : LogTable → Tuple → RawChange
insert_of table new = Insert table.raw.name (record { cells = map sent_text new.cells })

-- The key before an update: that of the old row, or of the new row if no old one was sent.
abbrev pub raw_key_before : RawTable → Option RawRow → List RawCell → RawKey
raw_key_before raw None cells = raw_key raw (map given_text cells)
raw_key_before raw (Some row) cells = raw_key raw row.cells

-- The cells of an update; if it moves the key, each unsent one is the old row's.
abbrev pub settled_if_moved : Bool → Option Texts → List RawCell → List RawCell
settled_if_moved moved None cells = cells
settled_if_moved moved (Some row) cells = if moved then settled cells row else cells

-- The change of an update from this key.
abbrev pub update_from : LogTable → TextRows → RawKey → Option RawRow → List RawCell → RawChange
update_from table rows from old cells =
    Update table.raw.name from old
    (settled_if_moved (not (same_key (key_from table.raw from) (key_in table.raw (map given_text cells))))
    (rows table.raw.name (key_from table.raw from)) cells)

-- The change of an update with this old row, if one was sent.
abbrev pub update_with : LogTable → TextRows → Option RawRow → List RawCell → RawChange
update_with table rows old cells = update_from table rows (raw_key_before table.raw old cells) old cells

-- The change of an Update.
abbrev pub update_of : LogTable → TextRows → Option OldTuple → Tuple → RawChange
update_of table rows before new =
    update_with table rows (option_map (old_row_in table) before)
    (new_texts table (is_whole before) (option_map (old_row_in table) before) 0 table.raw.columns new.cells)

-- The change of a Delete.
abbrev pub delete_of : LogTable → OldTuple → RawChange
delete_of table before = Delete table.raw.name (raw_key table.raw (old_row_in table before).cells) (old_row_in table before)

-- The changes of a message, given the rows just before it: none if the message is no change or its table doesn't exist.
abbrev pub raw_changes : List LogTable → TextRows → Message → List RawChange
raw_changes tables rows (says.Insert oid new) = list_of (option_map (λ table. insert_of table new) (table_at tables oid))
raw_changes tables rows (says.Update oid before new) = list_of (option_map (λ table. update_of table rows before new) (table_at tables oid))
raw_changes tables rows (says.Delete oid before) = list_of (option_map (λ table. delete_of table before) (table_at tables oid))
raw_changes tables rows (says.Truncate options oids) =
    filter_map (λ oid. option_map (λ table. Clear table.raw.name) (table_at tables oid)) oids
raw_changes tables rows m = []

-- The changes of messages, one after the other.
abbrev pub changes_from : List LogTable → TextRows → List Message → List RawChange
changes_from tables rows [] = []
changes_from tables rows (m ∷ ms) =
    raw_changes tables rows m ++ changes_from tables (text_rows_with tables (raw_changes tables rows m) rows) ms

-- The rows after the changes of messages.
abbrev pub text_rows_from : List LogTable → TextRows → List Message → TextRows
text_rows_from tables rows [] = rows
text_rows_from tables rows (m ∷ ms) = text_rows_from tables (text_rows_with tables (raw_changes tables rows m) rows) ms
