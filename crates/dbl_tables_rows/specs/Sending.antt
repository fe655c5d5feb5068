-- The message that reports a change of a row. PostgreSQL's "Logical Replication Message Formats", Insert, Update, Delete and Truncate, and
-- "Publication", Replica Identity. Which values count as stored out of line is this project's choice.
use Rattle.std.specs.Prelude.{ℕ, ◌+◌, ◌&&◌, ◌||◌, nat_le, nat_lt, not, Bool, false, if◌then◌else◌, Option}
use Rattle.std.specs.Prelude.{None, Some, unwrap_or, sum, List, [], ◌∷◌, ◌++◌, length, map, bytes_eq}
use Rattle.dbl_pgmsg.specs.declared.messages.Message.{Message}
use Rattle.dbl_pgmsg.specs.declared.messages.Message.TheVariants as says
use Rattle.dbl_pgmsg.specs.declared.messages.OldTuple.{OldTuple}
use Rattle.dbl_pgmsg.specs.declared.messages.OldTuple.TheVariants as old
use Rattle.dbl_pgmsg.specs.declared.messages.Tuple.{Tuple}
use Rattle.dbl_pgmsg.specs.declared.messages.TupleCell.{TupleCell}
use Rattle.dbl_pgmsg.specs.declared.messages.TupleCell.TheVariants as cell
use Rattle.dbl_pgmsg.specs.Grammar.{spelling, message_limit}
use Rattle.dbl_value_types.specs.declared.column_type.PgType.{PgType}
use Rattle.dbl_value_types.specs.declared.column_type.PgType.TheVariants as type
use Rattle.dbl_value_types.specs.Types.{type_of}
use Rattle.dbl_model_table.specs.declared.table.RawColumn.{RawColumn}
use Rattle.dbl_model_table.specs.declared.table.RawTable.{RawTable}
use Rattle.dbl_model_table.specs.Infos.{catalogue_of}
use Rattle.dbl_model_table.specs.Keys.{same_key}
use Rattle.dbl_source_log.specs.ModelCommit.Tuples.{is_fixed}
use Rattle.dbl_source_log.specs.declared.logged.LogTable.{LogTable}
use Rattle.dbl_source_log.specs.Texts.{Texts, key_in}
use Rattle.dbl_tables_rows.specs.declared.demo_table.DemoTable.{DemoTable}
use Rattle.dbl_tables_rows.specs.Cells.{is_key_name}

-- ---- tables

-- The catalogue's description of a table.
abbrev pub raw_of : DemoTable → RawTable
raw_of table = catalogue_of table.info

-- The table as a table of the source's log.
abbrev pub log_table : DemoTable → LogTable
log_table table = record { raw = raw_of table; full = table.full }

-- The tables as those of the source's log.
abbrev pub log_tables : List DemoTable → List LogTable
log_tables tables = map log_table tables

-- ---- cells and rows as they are sent

-- The cell of a message for a text or a null.
abbrev pub sent_cell : Option (List ℕ) → TupleCell
sent_cell None = cell.Null
sent_cell (Some text) = cell.Text text

-- The tuple with all cells of a row.
abbrev pub whole_tuple : Texts → Tuple
whole_tuple row = record { cells = map sent_cell row }

-- The cells of a row's key, and null in each other column.
abbrev pub key_cells : RawTable → List RawColumn → Texts → List TupleCell
key_cells raw [] row = []
key_cells raw (column ∷ columns) [] = []
key_cells raw (column ∷ columns) (text ∷ row) =
    (if is_key_name raw column.name then sent_cell text else cell.Null) ∷ key_cells raw columns row

-- The tuple with the cells of a row's key.
abbrev pub key_tuple : RawTable → Texts → Tuple
key_tuple raw row = record { cells = key_cells raw raw.columns row }

-- The type of a column; text for a float's column, which no table has.
abbrev pub column_type : RawColumn → PgType
column_type column = unwrap_or (type_of column.oid) type.Text

-- Whether an update omits a text as stored out of line: unchanged, long enough, and in a column of no fixed size outside the key.
abbrev pub is_unsent_text : DemoTable → RawColumn → Option (List ℕ) → Option (List ℕ) → Bool
is_unsent_text table column None new = false
is_unsent_text table column (Some before) None = false
is_unsent_text table column (Some before) (Some new) =
    not (is_key_name (raw_of table) column.name) && not (is_fixed (column_type column)) && bytes_eq before new
    && nat_le table.toast (length new)

-- The cells of an update's new row, with unsent texts omitted.
abbrev pub new_cells : DemoTable → List RawColumn → Texts → Texts → List TupleCell
new_cells table [] before row = []
new_cells table (column ∷ columns) [] row = []
new_cells table (column ∷ columns) (x ∷ before) [] = []
new_cells table (column ∷ columns) (x ∷ before) (text ∷ row) =
    (if is_unsent_text table column x text then cell.Unchanged else sent_cell text) ∷ new_cells table columns before row

-- The old row of a delete: the whole row under full replica identity, else its key.
abbrev pub old_tuple : DemoTable → Texts → OldTuple
old_tuple table row = if table.full then old.Whole (whole_tuple row) else old.Key (key_tuple (raw_of table) row)

-- The old row of an update: the whole row under full replica identity, else its key if it changes.
abbrev pub optional_old : DemoTable → Bool → Texts → Option OldTuple
optional_old table moved row = if table.full || moved then Some (old_tuple table row) else None

-- Whether an update changes the key of a row.
abbrev pub moves : DemoTable → Texts → Texts → Bool
moves table before row = not (same_key (key_in (raw_of table) before) (key_in (raw_of table) row))

-- ---- messages

-- The message of an insert.
abbrev pub insert_message : ℕ → Texts → Message
insert_message oid row = says.Insert oid (whole_tuple row)

-- The message of an update of a row.
abbrev pub update_message : ℕ → DemoTable → Texts → Texts → Message
update_message oid table before row =
    says.Update oid (optional_old table (moves table before row) before)
    (record { cells = new_cells table (raw_of table).columns before row })

-- The message of a delete.
abbrev pub delete_message : ℕ → DemoTable → Texts → Message
delete_message oid table row = says.Delete oid (old_tuple table row)

-- The message of a truncate, with neither CASCADE nor RESTART IDENTITY.
abbrev pub truncate_message : List ℕ → Message
truncate_message oids = says.Truncate 0 oids

-- ---- sizes

-- The largest size of the entry of a commit, in bytes.
abbrev pub entry_limit : ℕ
entry_limit = 268435456

-- The largest number of columns of a row.
abbrev pub column_limit : ℕ
column_limit = 1600

-- The size of a commit's entry: a tag, a 64 bit number, the number of messages, and each message with its length.
abbrev pub entry_size : List Message → ℕ
entry_size messages = 13 + sum (map (λ message. 4 + length (spelling message)) messages)

-- Whether one more change is too long, or makes the commit's entry too long.
abbrev pub is_too_long : List Message → Message → Bool
is_too_long messages message = nat_lt message_limit (length (spelling message))
    || nat_lt entry_limit (entry_size (messages ++ message ∷ []))

-- Whether one more change of a row is too long, alone or in the commit's entry, or has too many columns.
abbrev pub is_too_large : DemoTable → List Message → Message → Bool
is_too_large table messages message = nat_lt column_limit (length (raw_of table).columns) || is_too_long messages message
