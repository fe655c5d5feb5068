-- The commits that the messages of a log state, and the first error among them. Lists of messages have the newest first. PostgreSQL's
-- "Logical Streaming Replication Protocol" and "Logical Replication Message Formats".
use Rattle.std.specs.Prelude.{ℕ, ◌==◌, ◌&&◌, ◌||◌, nat_lt, not, Bool, true, false, if◌then◌else◌, bytes_eq, Option}
use Rattle.std.specs.Prelude.{Some, None, is_some, option_map, Result, Ok, Err, List, [], ◌∷◌, ◌++◌, length, slice_get}
use Rattle.std.specs.List.{list_any, list_all, zip}
use Rattle.dbl_base.specs.declared.lsn.Lsn.{Lsn}
use Rattle.dbl_pgmsg.specs.declared.messages.Message.{Message}
use Rattle.dbl_pgmsg.specs.declared.messages.Message.TheVariants as says
use Rattle.dbl_pgmsg.specs.declared.messages.RelationColumn.{RelationColumn}
use Rattle.dbl_value_types.specs.Values.{oid_of}
use Rattle.dbl_model_table.specs.declared.table.TableName.{TableName}
use Rattle.dbl_model_table.specs.declared.table.Column.{Column}
use Rattle.dbl_model_table.specs.declared.table.TableInfo.{TableInfo}
use Rattle.dbl_model_table.specs.declared.change.Change.{Change}
use Rattle.dbl_model_table.specs.declared.change.Change.TheVariants.{Clear}
use Rattle.dbl_model_table.specs.declared.change.Commit.{Commit}
use Rattle.dbl_model_commit.specs.declared.message_parts.Relation.{Relation}
use Rattle.dbl_model_commit.specs.declared.message_parts.RowChange.{RowChange}
use Rattle.dbl_model_commit.specs.declared.message_parts.RowChange.TheVariants as row
use Rattle.dbl_model_commit.specs.declared.message_parts.Target.{Target}
use Rattle.dbl_model_commit.specs.declared.message_parts.Target.TheVariants.{Watermark, Captured, Passed}
use Rattle.dbl_model_commit.specs.declared.txn_error.TxnError.{TxnError}
use Rattle.dbl_model_commit.specs.declared.txn_error.TxnError.TheVariants as errors
pub use Rattle.dbl_model_table.specs.Heads.{body_of}
use Rattle.dbl_model_table.specs.Tables.{is_watermark}
use Rattle.dbl_model_table.specs.Infos.{number_of}
use Rattle.dbl_model_commit.specs.Past.{table_named, described, relation_of, Head, begin_of, last_lsn, mark_in, open_mark}
use Rattle.dbl_model_commit.specs.Tuples.{◌>>=◌, refuse_if, some_or, change_of}

-- The kind of a table that has this index among the captured ones, or none.
abbrev pub captured_at : Option ℕ → Target
captured_at (Some table) = Captured table
captured_at None = Passed

-- The kind of the table with this name.
abbrev pub target : List TableInfo → TableName → Target
target infos name = if is_watermark name then Watermark else captured_at (number_of infos name)

-- Whether a list is empty.
abbrev pub is_empty : {A : Type 0} → List A → Bool
is_empty [] = true
is_empty (x ∷ xs) = false

-- Whether a list has an item.
abbrev pub has_some : {A : Type 0} → List A → Bool
has_some xs = not (is_empty xs)

-- The change that a row change of a captured table states; none if the table is not captured.
abbrev pub in_table : ℕ → Option TableInfo → Relation → RowChange → Result (List Change) TxnError
in_table table None relation change = Ok []
in_table table (Some info) relation change = change_of table info relation change >>= λ c. Ok (c ∷ [])

-- The changes that a row change states in a transaction, given its watermark so far and whether it changed a captured table. A watermark's
-- transaction has one Update, and no change of a captured table.
unfoldable pub row_stated : List TableInfo → Option (List ℕ) → Bool → Relation → RowChange → Target → Result (List Change) TxnError
row_stated infos mark changed relation change Passed = Ok []
row_stated infos mark changed relation change Watermark =
    if is_some (mark_in change) && not (is_some mark) && not changed then Ok [] else Err errors.BadMark
row_stated infos mark changed relation change (Captured table) = do
  _ ← refuse_if (is_some mark) errors.BadMark
  in_table table (slice_get infos table) relation change

-- The kinds of the tables of a Truncate, in its order, or the first unknown OID as an error.
abbrev pub targets_at : List TableInfo → List ℕ → List Message → Result (List Target) TxnError
targets_at infos [] ms = Ok []
targets_at infos (oid ∷ oids) ms = do
  relation ← some_or (relation_of oid ms) (errors.UnknownRelation oid)
  targets ← targets_at infos oids ms
  Ok (target infos relation.name ∷ targets)

-- Whether a table is the watermark table.
abbrev pub is_the_watermark : Target → Bool
is_the_watermark Watermark = true
is_the_watermark Passed = false
is_the_watermark (Captured table) = false

-- One Clear for each captured table of a list.
abbrev pub clears : List Target → List Change
clears [] = []
clears (Captured table ∷ targets) = Clear table ∷ clears targets
clears (Watermark ∷ targets) = clears targets
clears (Passed ∷ targets) = clears targets

-- The changes that a Truncate of these tables states, or an error if it truncates the watermark table or is in a watermark's transaction.
unfoldable pub truncate_stated : Bool → List Target → Result (List Change) TxnError
truncate_stated marked targets = do
  _ ← refuse_if (list_any is_the_watermark targets || marked && has_some (clears targets)) errors.BadMark
  Ok (clears targets)

-- The changes that a Truncate states, or its error; an unknown OID is the first error.
abbrev pub truncated_tables : List TableInfo → List ℕ → List Message → Bool → Result (List Change) TxnError
truncated_tables infos oids ms marked = do
  targets ← targets_at infos oids ms
  truncate_stated marked targets

-- The changes that a change of the table with this OID states, read by the last Relation before it.
abbrev pub stated_row : List TableInfo → ℕ → RowChange → List Message → Option (List ℕ) → Bool → Result (List Change) TxnError
stated_row infos oid change ms mark changed = do
  relation ← some_or (relation_of oid ms) (errors.UnknownRelation oid)
  row_stated infos mark changed relation change (target infos relation.name)

-- The changes that a message states in the open transaction after these messages, or its error.
abbrev pub stated_in : List TableInfo → Message → List Message → Option (List ℕ) → Bool → Result (List Change) TxnError
stated_in infos (says.Insert oid new) ms mark changed = stated_row infos oid (row.Insert new) ms mark changed
stated_in infos (says.Update oid before new) ms mark changed = stated_row infos oid (row.Update before new) ms mark changed
stated_in infos (says.Delete oid before) ms mark changed = stated_row infos oid (row.Delete before) ms mark changed
stated_in infos (says.Truncate options oids) ms mark changed = truncated_tables infos oids ms (is_some mark)
stated_in infos m ms mark changed = Ok []

-- The items of a result, none if it is an error.
abbrev pub ok_or_none : {A : Type 0} → Result (List A) TxnError → List A
ok_or_none (Ok xs) = xs
ok_or_none (Err e) = []

-- The changes that the open transaction states so far; if none is open they are part of no commit.
abbrev pub open_changes : List TableInfo → List Message → List Change
open_changes infos [] = []
open_changes infos (says.Begin lsn time xid ∷ ms) = []
open_changes infos (m ∷ ms) = open_changes infos ms ++ ok_or_none (stated_in infos m ms (open_mark ms) (has_some (open_changes infos ms)))

-- The changes that a message states after these messages, or its error.
abbrev pub stated : List TableInfo → Message → List Message → Result (List Change) TxnError
stated infos m ms = stated_in infos m ms (open_mark ms) (has_some (open_changes infos ms))

-- The commit with the LSNs of its Commit, and the time and transaction number of its Begin.
abbrev pub commit_of : Lsn → Lsn → Option (List ℕ) → List Change → Head → Commit
commit_of lsn end_lsn mark changes
    begun = record { lsn = lsn; end_lsn = end_lsn; time = begun.time; xid = begun.xid; body = body_of mark changes }

-- The commit with these changes that a message ends after these messages.
abbrev pub ended_with : Message → List Message → List Change → Option Commit
ended_with (says.Commit flags lsn end_lsn time) ms changes = option_map (commit_of lsn end_lsn (open_mark ms) changes) (begin_of ms)
ended_with m ms changes = None

-- The commit that a message ends after these messages, if it ends one.
abbrev pub ended_commit : List TableInfo → Message → List Message → Option Commit
ended_commit infos m ms = ended_with m ms (open_changes infos ms)

-- The list of an optional item.
abbrev pub list_of : {A : Type 0} → Option A → List A
list_of None = []
list_of (Some x) = x ∷ []

-- The commits that the messages state, the oldest first.
abbrev pub commits_of : List TableInfo → List Message → List Commit
commits_of infos [] = []
commits_of infos (m ∷ ms) = commits_of infos ms ++ list_of (ended_commit infos m ms)

-- The error of a message that is not allowed at its position: outside a transaction, or a Begin inside one. A Relation, a Type and a
-- Message are allowed anywhere.
abbrev pub place_fault : Message → Bool → Option TxnError
place_fault (says.Begin lsn time xid) inside = if inside then Some errors.NestedBegin else None
place_fault (says.Relation oid namespace name identity columns) inside = None
place_fault (says.TypeName oid namespace name) inside = None
place_fault (says.Logical flags lsn prefix content) inside = None
place_fault m inside = if inside then None else Some errors.OutsideTransaction

-- The error of a Commit whose LSN isn't its Begin's.
abbrev pub mismatch : Option Head → Lsn → Option TxnError
mismatch None lsn = None
mismatch (Some begun) lsn = if begun.lsn.0 == lsn.0 then None else Some (errors.CommitMismatch begun.lsn lsn)

-- Whether two columns have the same name and type.
abbrev pub same_column : Column × RelationColumn → Bool
same_column pair = bytes_eq pair.0.name pair.1.name && oid_of pair.0.ty == pair.1.oid

-- Whether columns are the same in number, names and types. A type's modifier may differ.
abbrev pub same_columns : List Column → List RelationColumn → Bool
same_columns columns given = length columns == length given && list_all same_column (zip columns given)

-- The error of a Relation whose columns aren't those of the captured table.
abbrev pub columns_fault : Option TableInfo → Relation → Option TxnError
columns_fault None relation = None
columns_fault (Some info) relation = if same_columns info.columns relation.columns then None else Some (errors.SchemaChanged relation.name)

-- The error of a Relation of a captured table with other columns.
abbrev pub schema_fault : List TableInfo → Relation → Target → Option TxnError
schema_fault infos relation (Captured table) = columns_fault (slice_get infos table) relation
schema_fault infos relation Watermark = None
schema_fault infos relation Passed = None

-- The error of a result, if it is one.
abbrev pub err_of : {A : Type 0} → Result A TxnError → Option TxnError
err_of (Ok x) = None
err_of (Err e) = Some e

-- The error of a message that is allowed at its position.
abbrev pub own_fault : List TableInfo → Lsn → Message → List Message → Option TxnError
own_fault infos after (says.Begin lsn time xid) ms = if nat_lt (last_lsn after ms).0 lsn.0 then None
    else Some (errors.LsnOrder (last_lsn after ms) lsn)
own_fault infos after (says.Commit flags lsn end_lsn time) ms = mismatch (begin_of ms) lsn
own_fault infos after (says.Relation oid namespace name identity columns) ms =
    schema_fault infos (described namespace name identity columns) (target infos (table_named namespace name))
own_fault infos after m ms = err_of (stated infos m ms)

-- The first of two optional errors.
abbrev pub first_of : Option TxnError → Option TxnError → Option TxnError
first_of (Some e) other = Some e
first_of None other = other

-- The error of a message after messages without an error. Reading began after the LSN `after`.
abbrev pub transaction_fault : List TableInfo → Lsn → Message → List Message → Option TxnError
transaction_fault infos after m ms = first_of (place_fault m (is_some (begin_of ms))) (own_fault infos after m ms)
