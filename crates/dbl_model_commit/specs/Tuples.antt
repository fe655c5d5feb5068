-- How the rows of a change of a captured table are read by its columns, and which of their errors is the first. PostgreSQL's "Logical
-- Replication Message Formats", TupleData, and "Publication", Replica Identity.
use Rattle.std.specs.Prelude.{ℕ, ◌+◌, ◌%◌, ◌==◌, ◌&&◌, ◌||◌, nat_eq, not, Bool, true, false, if◌then◌else◌}
use Rattle.std.specs.Prelude.{Option, Some, None, Result, Ok, Err, List, [], ◌∷◌, length, slice_get}
use Rattle.std.specs.List.{list_any, list_all, position_from}
use Rattle.std.specs.Str.{byte}
use Rattle.dbl_pgmsg.specs.declared.messages.RelationColumn.{RelationColumn}
use Rattle.dbl_pgmsg.specs.declared.messages.OldTuple.{OldTuple}
use Rattle.dbl_pgmsg.specs.declared.messages.OldTuple.TheVariants as old
use Rattle.dbl_pgmsg.specs.declared.messages.TupleCell.{TupleCell}
use Rattle.dbl_pgmsg.specs.declared.messages.TupleCell.TheVariants as cell
use Rattle.dbl_value_types.specs.declared.column_type.PgType.{PgType}
use Rattle.dbl_value_types.specs.declared.value.Val.{Val}
use Rattle.dbl_value_types.specs.declared.value.Val.TheVariants as val
use Rattle.dbl_value_types.specs.Values.{oid_of, value_of}
use Rattle.dbl_value_types.specs.Faults.{fault_of}
use Rattle.dbl_model_table.specs.declared.table.TableName.{TableName}
use Rattle.dbl_model_table.specs.declared.table.Column.{Column}
use Rattle.dbl_model_table.specs.declared.table.TableInfo.{TableInfo}
use Rattle.dbl_model_table.specs.declared.row.Key.{Key}
use Rattle.dbl_model_table.specs.declared.row.Row.{Row}
use Rattle.dbl_model_table.specs.declared.change.Cell.{Cell}
use Rattle.dbl_model_table.specs.declared.change.Cell.TheVariants.{Given, Unchanged}
use Rattle.dbl_model_table.specs.declared.change.Change.{Change}
use Rattle.dbl_model_table.specs.declared.change.Change.TheVariants.{Insert, Update, Delete}
use Rattle.dbl_model_commit.specs.declared.message_parts.Relation.{Relation}
use Rattle.dbl_model_commit.specs.declared.message_parts.RowChange.{RowChange}
use Rattle.dbl_model_commit.specs.declared.message_parts.RowChange.TheVariants as row
use Rattle.dbl_model_commit.specs.declared.txn_error.TxnError.{TxnError}
use Rattle.dbl_model_commit.specs.declared.txn_error.TxnError.TheVariants as errors
use Rattle.dbl_model_table.specs.Infos.{width, name_at}
use Rattle.dbl_model_table.specs.Keys.{key_of, new_key_of, same_key}

infixl 10 ◌>>=◌
-- Sequencing of results: the result for a value, or the first error.
abbrev pub ◌>>=◌ : {A B : Type 0} → Result A TxnError → (A → Result B TxnError) → Result B TxnError
(Ok x) >>= f = f x
(Err e) >>= f = Err e

-- The error if a condition is true.
abbrev pub refuse_if : Bool → TxnError → Result Unit TxnError
refuse_if true e = Err e
refuse_if false e = Ok tt

-- The value of an option, or the error if it is None.
abbrev pub some_or : {A : Type 0} → Option A → TxnError → Result A TxnError
some_or (Some x) e = Ok x
some_or None e = Err e

-- The value that a text has at its column's type, or an error.
unfoldable pub spelled_value : TableName → Column → List ℕ → Result Val TxnError
spelled_value table column text = some_or (value_of column.ty text) (errors.Value table column.name (fault_of column.ty text))

-- Whether the column at an index is a key column.
abbrev pub is_key_place : TableInfo → ℕ → Bool
is_key_place info place = list_any (nat_eq place) info.key

-- Whether a column is in the replica identity: the bit of value 1 in its flags is set.
abbrev pub has_flag : Option RelationColumn → Bool
has_flag None = false
has_flag (Some column) = column.flags % 2 == 1

-- Whether the column at an index is in the replica identity.
abbrev pub is_flagged : Relation → ℕ → Bool
is_flagged relation place = has_flag (slice_get relation.columns place)

-- Whether a type has a fixed size: bool, int8, int2, int4, date, time, timestamp, timestamptz or uuid. Its values are never stored out of
-- line, so that an unchanged cell of it is always sent.
abbrev pub is_fixed : PgType → Bool
is_fixed ty = list_any (nat_eq (oid_of ty)) (16 ∷ 20 ∷ 21 ∷ 23 ∷ 1082 ∷ 1083 ∷ 1114 ∷ 1184 ∷ 2950 ∷ [])

-- Null, or an error for a cell of the key.
abbrev pub null_cell : TableName → Bool → Result Val TxnError
null_cell table in_key = if in_key then Err (errors.NullKey table) else Ok val.Null

-- The value of a cell of an Insert or of an old row, which has to be sent.
unfoldable pub given_cell : TableName → Bool → Column → TupleCell → Result Val TxnError
given_cell table in_key column cell.Null = null_cell table in_key
given_cell table in_key column cell.Unchanged = Err (errors.UnchangedCell table column.name)
given_cell table in_key column (cell.Text text) = spelled_value table column text

-- An unsent cell of an Update: the old row's value if there is one; otherwise unsent, or an error for a cell of the key.
abbrev pub filled_cell : TableName → Bool → Option Val → Column → Result Cell TxnError
filled_cell table in_key (Some v) column = Ok (Given v)
filled_cell table in_key None column = if in_key then Err (errors.UnchangedCell table column.name) else Ok Unchanged

-- A cell of an Update's new row.
unfoldable pub new_cell : TableName → Bool → Option Val → Column → TupleCell → Result Cell TxnError
new_cell table in_key filled column cell.Null = null_cell table in_key >>= λ v. Ok (Given v)
new_cell table in_key filled column cell.Unchanged = if is_fixed column.ty then Err (errors.UnchangedCell table column.name)
    else filled_cell table in_key filled column
new_cell table in_key filled column (cell.Text text) = spelled_value table column text >>= λ v. Ok (Given v)

-- The results of reading cells column by column, from an index on.
abbrev pub each_from : {A : Type 0} → (ℕ → Column → TupleCell → Result A TxnError) → ℕ → List Column → List TupleCell
    → Result (List A) TxnError
each_from read place [] cells = Ok []
each_from read place (column ∷ columns) [] = Ok []
each_from read place (column ∷ columns) (c ∷ cells) =
    read place column c >>= λ x. each_from read (place + 1) columns cells >>= λ xs. Ok (x ∷ xs)

-- The results of reading all columns of a table, or an error if there aren't as many cells.
abbrev pub each : {A : Type 0} → (ℕ → Column → TupleCell → Result A TxnError) → TableInfo → List TupleCell → Result (List A) TxnError
each read info cells = if length cells == width info then each_from read 0 info.columns cells
    else Err (errors.ColumnCount (width info) (length cells))

-- Whether a column is read: each one of a whole row, only those of the replica identity in an old key.
abbrev pub is_read : Relation → Bool → ℕ → Bool
is_read relation whole place = whole || is_flagged relation place

-- The value of a cell of a whole row or an old key, Null if its column isn't read.
abbrev pub row_cell : TableInfo → Relation → Bool → ℕ → Column → TupleCell → Result Val TxnError
row_cell info relation whole place column c = if is_read relation whole place then given_cell info.name (is_key_place info place) column c
    else Ok val.Null

-- The row of a tuple, whole or an old key.
unfoldable pub row_of : TableInfo → Relation → Bool → List TupleCell → Result Row TxnError
row_of info relation whole cells = each (row_cell info relation whole) info cells >>= λ values. Ok (record { cells = values })

-- The old row of an old key or a whole old row.
abbrev pub old_row : TableInfo → Relation → OldTuple → Result Row TxnError
old_row info relation (old.Key tuple) = row_of info relation false tuple.cells
old_row info relation (old.Whole tuple) = row_of info relation true tuple.cells

-- The old row, if one was sent.
abbrev pub old_row_if_sent : TableInfo → Relation → Option OldTuple → Result (Option Row) TxnError
old_row_if_sent info relation None = Ok None
old_row_if_sent info relation (Some before) = old_row info relation before >>= λ r. Ok (Some r)

-- Whether a whole old row was sent.
abbrev pub is_whole : Option OldTuple → Bool
is_whole None = false
is_whole (Some (old.Key tuple)) = false
is_whole (Some (old.Whole tuple)) = true

-- The old row's value for an unsent cell at an index, if the column was read.
abbrev pub filling : Relation → Bool → Option Row → ℕ → Option Val
filling relation whole None place = None
filling relation whole (Some r) place = if is_read relation whole place then slice_get r.cells place else None

-- A cell of an Update's new row at an index.
abbrev pub next_cell : TableInfo → Relation → Bool → Option Row → ℕ → Column → TupleCell → Result Cell TxnError
next_cell info relation whole before place column c =
    new_cell info.name (is_key_place info place) (filling relation whole before place) column c

-- The cells of an Update's new row.
unfoldable pub new_cells : TableInfo → Relation → Bool → Option Row → List TupleCell → Result (List Cell) TxnError
new_cells info relation whole before cells = each (next_cell info relation whole before) info cells

-- Whether a cell is unsent.
abbrev pub is_unsent : Cell → Bool
is_unsent (Given v) = false
is_unsent Unchanged = true

-- The error of an unsent cell, by the column at its index.
abbrev pub unsent_fault : TableName → List Column → Option ℕ → Result Unit TxnError
unsent_fault table columns None = Ok tt
unsent_fault table columns (Some place) = Err (errors.MovedUnchanged table (name_at columns place))

-- The error of the first column whose cell is unsent.
abbrev pub none_unsent : TableName → List Column → List Cell → Result Unit TxnError
none_unsent table columns cells = unsent_fault table columns (position_from is_unsent 0 cells)

-- The key before an Update: that of the old row, or of the new row if no old one was sent.
unfoldable pub key_before : TableInfo → Option Row → List Cell → Key
key_before info None cells = new_key_of info cells
key_before info (Some r) cells = key_of info r.cells

-- The error of an unsent cell in an Update that moves the key.
unfoldable pub all_sent_if_moved : TableInfo → Key → List Cell → Result Unit TxnError
all_sent_if_moved info key cells = if same_key key (new_key_of info cells) then Ok tt else none_unsent info.name info.columns cells

-- Whether every column of the key is in the replica identity.
unfoldable pub key_in_identity : TableInfo → Relation → Bool
key_in_identity info relation = list_all (is_flagged relation) info.key

-- Whether the replica identity is full: an Update sends the whole old row.
abbrev pub is_full : Relation → Bool
is_full relation = relation.identity == byte "f"

-- The change of the captured table at this index that a row change states, or its first error. The lines are in the order of the errors.
unfoldable pub change_of : ℕ → TableInfo → Relation → RowChange → Result Change TxnError
change_of table info relation (row.Insert tuple) = do
  new ← row_of info relation true tuple.cells
  Ok (Insert table new)
change_of table info relation (row.Update before tuple) = do
  _ ← refuse_if (not (key_in_identity info relation)) (errors.KeyNotInIdentity info.name)
  _ ← refuse_if (is_full relation && not (is_whole before)) (errors.MissingOld info.name)
  was ← old_row_if_sent info relation before
  cells ← new_cells info relation (is_whole before) was tuple.cells
  _ ← all_sent_if_moved info (key_before info was cells) cells
  Ok (Update table (key_before info was cells) was cells)
change_of table info relation (row.Delete before) = do
  _ ← refuse_if (not (key_in_identity info relation)) (errors.KeyNotInIdentity info.name)
  was ← old_row info relation before
  Ok (Delete table (key_of info was.cells) was)
