-- Messages read with each captured table in the columns of its last Relation. Lists of messages have the newest first. PostgreSQL's
-- "Logical Replication Message Formats", Relation.
use Rattle.std.specs.Prelude.{◌≡◌, ℕ, Option, Some, None, List, [], ◌∷◌, ◌++◌, slice_get, slice_set}
use Rattle.dbl_base.specs.declared.lsn.Lsn.{Lsn}
use Rattle.dbl_pgmsg.specs.declared.messages.Message.{Message}
use Rattle.dbl_pgmsg.specs.declared.messages.Message.TheVariants as says
use Rattle.dbl_pgmsg.specs.declared.messages.RelationColumn.{RelationColumn}
use Rattle.dbl_model_table.specs.declared.table.TableInfo.{TableInfo}
use Rattle.dbl_model_table.specs.declared.change.Commit.{Commit}
use Rattle.dbl_model_commit.specs.declared.message_parts.Target.{Target}
use Rattle.dbl_model_commit.specs.declared.message_parts.Target.TheVariants.{Watermark, Captured, Passed}
use Rattle.dbl_model_commit.specs.declared.txn_error.TxnError.{TxnError}
use Rattle.dbl_model_commit.specs.Past.{table_named, described}
use Rattle.dbl_model_commit.specs.Stated.{target, targets_at, ok_or_none, list_of, ended_commit, schema_fault, first_of, transaction_fault}
use Rattle.dbl_model_commit.specs.Shapes.{shaped_by, shape_fault}

-- The captured tables, the one at an index in a Relation's columns.
abbrev pub reshape_at : List TableInfo → ℕ → List RelationColumn → Option TableInfo → List TableInfo
reshape_at infos table columns None = infos
reshape_at infos table columns (Some info) = slice_set infos table (shaped_by columns info)

-- The captured tables, that of a Relation in its columns, by the kind of the table.
abbrev pub reshape_target : List TableInfo → List RelationColumn → Target → List TableInfo
reshape_target infos columns (Captured table) = reshape_at infos table columns (slice_get infos table)
reshape_target infos columns Watermark = infos
reshape_target infos columns Passed = infos

-- The captured tables after one more message: that of a Relation has its columns from there on.
abbrev pub shapes_after : Message → List TableInfo → List TableInfo
shapes_after (says.Relation oid namespace name identity columns) infos =
    reshape_target infos columns (target infos (table_named namespace name))
shapes_after m infos = infos

-- The captured tables after these messages, each in the columns of its last Relation; one without a Relation is as it was described.
abbrev pub shapes : List TableInfo → List Message → List TableInfo
shapes infos [] = infos
shapes infos (m ∷ ms) = shapes_after m (shapes infos ms)

-- The error of a message after messages without an error: of a Relation whose table can't be read in its columns from here on, or of a
-- message that is read in the columns of the last Relations. Reading began after the LSN `after`.
abbrev pub message_fault : List TableInfo → Lsn → Message → List Message → Option TxnError
message_fault infos after m ms = first_of (shape_fault (shapes infos ms) m ms) (transaction_fault (shapes infos (m ∷ ms)) after m ms)

-- Whether none of the messages has an error after those before it.
abbrev pub AreReadable : List TableInfo → Lsn → List Message → Type 0
AreReadable infos after [] = Unit {0}
AreReadable infos after (m ∷ ms) = (message_fault infos after m ms ≡ None) × AreReadable infos after ms

-- The commits that the messages state, the oldest first, each read in the columns that its tables have at its Commit.
abbrev pub shaped_commits : List TableInfo → List Message → List Commit
shaped_commits infos [] = []
shaped_commits infos (m ∷ ms) = shaped_commits infos ms ++ list_of (ended_commit (shapes infos (m ∷ ms)) m ms)

-- The tables whose rows a message changes after these messages, each by its last Relation.
abbrev pub changed_targets : List TableInfo → Message → List Message → List Target
changed_targets infos (says.Insert oid new) ms = ok_or_none (targets_at infos (oid ∷ []) ms)
changed_targets infos (says.Update oid before new) ms = ok_or_none (targets_at infos (oid ∷ []) ms)
changed_targets infos (says.Delete oid before) ms = ok_or_none (targets_at infos (oid ∷ []) ms)
changed_targets infos (says.Truncate options oids) ms = ok_or_none (targets_at infos oids ms)
changed_targets infos m ms = []

-- Whether a captured table is the same in both lists, so also in its columns.
abbrev pub HasSameColumns : (now other : List TableInfo) → Target → Type 0
HasSameColumns now other (Captured table) = slice_get other table ≡ slice_get now table
HasSameColumns now other Watermark = Unit {0}
HasSameColumns now other Passed = Unit {0}

-- Whether a message, if it is a Relation of a captured table, has the columns in which the table was described.
abbrev pub HasOwnColumns : List TableInfo → Message → Type 0
HasOwnColumns infos (says.Relation oid namespace name identity columns) =
    schema_fault infos (described namespace name identity columns) (target infos (table_named namespace name)) ≡ None
HasOwnColumns infos m = Unit {0}
