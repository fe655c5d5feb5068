-- What a message of the log finds among the messages before it: PostgreSQL's "Logical Replication Message Formats" and "Logical Streaming
-- Replication Protocol". Lists of messages have the newest first.
use Rattle.std.specs.Prelude.{◌≢◌, ℕ, ◌==◌, if◌then◌else◌, Option, Some, None, List, [], ◌∷◌, codes}
use Rattle.dbl_base.specs.declared.lsn.Lsn.{Lsn}
use Rattle.dbl_pgmsg.specs.declared.messages.Message.{Message}
use Rattle.dbl_pgmsg.specs.declared.messages.Message.TheVariants as says
use Rattle.dbl_pgmsg.specs.declared.messages.RelationColumn.{RelationColumn}
use Rattle.dbl_pgmsg.specs.declared.messages.TupleCell.{TupleCell}
use Rattle.dbl_pgmsg.specs.declared.messages.TupleCell.TheVariants as cell
pub use Rattle.dbl_model_table.specs.declared.change.Head.{Head}
use Rattle.dbl_model_table.specs.declared.table.TableName.{TableName}
use Rattle.dbl_model_commit.specs.declared.message_parts.Relation.{Relation}
use Rattle.dbl_model_commit.specs.declared.message_parts.RowChange.{RowChange}
use Rattle.dbl_model_commit.specs.declared.message_parts.RowChange.TheVariants as row
use Rattle.dbl_model_table.specs.Tables.{is_watermark}

-- The schema that a Relation names: an empty namespace is `pg_catalog`.
abbrev pub schema_of : List ℕ → List ℕ
schema_of [] = codes "pg_catalog"
schema_of (c ∷ cs) = c ∷ cs

-- The name of the table that a Relation describes.
abbrev pub table_named : List ℕ → List ℕ → TableName
table_named namespace name = record { schema = schema_of namespace; name = name }

-- The table that a Relation describes.
abbrev pub described : List ℕ → List ℕ → ℕ → List RelationColumn → Relation
described namespace name identity columns = record { name = table_named namespace name; identity = identity; columns = columns }

-- The table that the last Relation with this OID describes.
abbrev pub relation_of : ℕ → List Message → Option Relation
relation_of oid [] = None
relation_of oid (says.Relation given namespace name identity columns ∷ ms) = if given == oid
    then Some (described namespace name identity columns) else relation_of oid ms
relation_of oid (m ∷ ms) = relation_of oid ms

-- The Begin of the open transaction, None if no transaction is open.
abbrev pub begin_of : List Message → Option Head
begin_of [] = None
begin_of (says.Begin lsn time xid ∷ ms) = Some (record { lsn = lsn; time = time; xid = xid })
begin_of (says.Commit flags lsn end_lsn time ∷ ms) = None
begin_of (m ∷ ms) = begin_of ms

-- The LSN of the last Commit, and before the first one the LSN that reading began after.
abbrev pub last_lsn : Lsn → List Message → Lsn
last_lsn after [] = after
last_lsn after (says.Commit flags lsn end_lsn time ∷ ms) = lsn
last_lsn after (m ∷ ms) = last_lsn after ms

-- The watermark in a row of the watermark table, which has two cells, the second a text.
abbrev pub second_text : List TupleCell → Option (List ℕ)
second_text (first ∷ cell.Text value ∷ []) = Some value
second_text cells = None

-- The watermark that a row change writes: that of an Update's new row.
abbrev pub mark_in : RowChange → Option (List ℕ)
mark_in (row.Update before new) = second_text new.cells
mark_in (row.Insert new) = None
mark_in (row.Delete before) = None

-- The watermark of a transaction after one more change of the table with this Relation.
abbrev pub mark_by : Option Relation → RowChange → Option (List ℕ) → Option (List ℕ)
mark_by None change mark = mark
mark_by (Some relation) change mark = if is_watermark relation.name then mark_in change else mark

-- The watermark of the open transaction.
abbrev pub open_mark : List Message → Option (List ℕ)
open_mark [] = None
open_mark (says.Begin lsn time xid ∷ ms) = None
open_mark (says.Insert oid new ∷ ms) = mark_by (relation_of oid ms) (row.Insert new) (open_mark ms)
open_mark (says.Update oid before new ∷ ms) = mark_by (relation_of oid ms) (row.Update before new) (open_mark ms)
open_mark (says.Delete oid before ∷ ms) = mark_by (relation_of oid ms) (row.Delete before) (open_mark ms)
open_mark (m ∷ ms) = open_mark ms

-- Whether no Relation among the messages describes a table of this name.
abbrev pub HasNoRelation : TableName → List Message → Type 0
HasNoRelation table [] = Unit {0}
HasNoRelation table (says.Relation oid namespace name identity columns ∷ ms) = (table_named namespace name ≢ table) × HasNoRelation table ms
HasNoRelation table (m ∷ ms) = HasNoRelation table ms
