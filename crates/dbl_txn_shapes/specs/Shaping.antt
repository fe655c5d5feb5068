-- The state of an assembler that reads each captured table in the columns of its last Relation. Lists of messages have the newest first.
use Rattle.std.specs.Prelude.{◌≡◌, ◌⊎◌, ◌&&◌, ◌||◌, not, ℕ, Bool, true, false, if◌then◌else◌, Option, Some, None, Result, Ok, Err}
use Rattle.std.specs.Prelude.{List, [], ◌∷◌, slice_get}
use Rattle.dbl_base.specs.declared.lsn.Lsn.{Lsn}
use Rattle.dbl_pgmsg.specs.declared.messages.Message.{Message}
use Rattle.dbl_pgmsg.specs.declared.messages.Message.TheVariants as says
use Rattle.dbl_pgmsg.specs.declared.messages.RelationColumn.{RelationColumn}
use Rattle.dbl_model_table.specs.declared.table.TableInfo.{TableInfo}
use Rattle.dbl_model_table.specs.declared.change.Change.{Change}
use Rattle.dbl_model_table.specs.declared.change.Commit.{Commit}
use Rattle.dbl_model_table.specs.Infos.{IsInfoOf}
use Rattle.dbl_model_commit.specs.declared.message_parts.Target.{Target}
use Rattle.dbl_model_commit.specs.declared.message_parts.Target.TheVariants.{Watermark, Captured, Passed}
use Rattle.dbl_model_commit.specs.declared.piece.Piece.{Piece}
use Rattle.dbl_model_commit.specs.declared.txn_error.TxnError.{TxnError}
use Rattle.dbl_model_commit.specs.declared.txn_error.TxnError.TheVariants as errors
use Rattle.dbl_model_commit.specs.Past.{table_named}
use Rattle.dbl_model_commit.specs.Stated.{same_columns, target, open_changes, ended_commit, first_of, transaction_fault}
use Rattle.dbl_model_commit.specs.Pieces.{changes_so_far, IsPieceOf}
use Rattle.dbl_model_commit.specs.Shapes.{entry_in, are_unfit, shape_fault, IsOpenStated}
use Rattle.dbl_txn.specs.Stands.{Stands}
use Rattle.dbl_txn_shapes.specs.declared.reader.Read.{Read}
use Rattle.dbl_txn_shapes.specs.declared.reader.Read.TheVariants.{Nothing, Shaped, Ended}
use Rattle.dbl_txn_shapes.specs.declared.reader.ShapedPiece.{ShapedPiece}
use Rattle.dbl_txn_shapes.specs.declared.reader.ShapedPiece.TheVariants as pieces
use Rattle.dbl_txn_shapes.specs.declared.reader.ShapingAssembler.{ShapingAssembler}
use Rattle.dbl_model_commit.specs.Shaped.{shapes_after}
use Rattle.dbl_txn_shapes.specs.Oids.{KnowsOids}

-- ---- the table that a message gives other columns

-- The captured table at an index, if a Relation's columns aren't its columns so far.
abbrev pub given_other : List RelationColumn → ℕ → Option TableInfo → Option ℕ
given_other columns table None = None
given_other columns table (Some info) = if same_columns info.columns columns then None else Some table

-- The same by the kind of the Relation's table.
abbrev pub target_altered : List TableInfo → List RelationColumn → Target → Option ℕ
target_altered infos columns (Captured table) = given_other columns table (slice_get infos table)
target_altered infos columns Watermark = None
target_altered infos columns Passed = None

-- The index of the captured table that a message gives other columns than those of the table's last Relation.
abbrev pub altered_table : List TableInfo → Message → Option ℕ
altered_table infos (says.Relation oid namespace name identity columns) =
    target_altered infos columns (target infos (table_named namespace name))
altered_table infos m = None

-- ---- the assembler

-- The state of the assembler after these messages, for reading after this LSN, when the captured tables are these in the columns of their
-- last Relations, and when it buffers these changes of the open transaction. Each message of the open transaction states its changes.
pub record StandsInColumns (infos : List TableInfo) (after : Lsn) (ms : List Message) (held : List Change) (a : ShapingAssembler)
    : Type 0 where
  pub stands : Stands infos after ms held a.assembler
  pub stated : IsOpenStated infos ms
  pub oids : KnowsOids infos ms a.oids.items

-- The same when it buffers all changes of the open transaction.
abbrev pub StandsShaped : List TableInfo → Lsn → List Message → ShapingAssembler → Type 0
StandsShaped infos after ms a = StandsInColumns infos after ms (open_changes infos ms) a

-- The same when it buffers none.
abbrev pub StandsShapedInPieces : List TableInfo → Lsn → List Message → ShapingAssembler → Type 0
StandsShapedInPieces infos after ms a = StandsInColumns infos after ms [] a

-- The error of the next message: a Relation's columns are refused, or the message has an error where its table has the Relation's columns.
abbrev pub reading_fault : List TableInfo → Lsn → Message → List Message → Option TxnError
reading_fault infos after m ms = first_of (shape_fault infos m ms) (transaction_fault (shapes_after m infos) after m ms)

-- Whether this is what a message adds: the commit that it ends, the table that it gives other columns, or neither.
abbrev pub IsRead : List TableInfo → Message → List Message → Read → Type 0
IsRead infos m ms Nothing = (altered_table infos m ≡ None) × (ended_commit (shapes_after m infos) m ms ≡ None)
IsRead infos m ms (Shaped table) = (altered_table infos m ≡ Some table) × (ended_commit (shapes_after m infos) m ms ≡ None)
IsRead infos m ms (Ended commit) = ended_commit (shapes_after m infos) m ms ≡ Some commit

-- A message was processed: it has no error, this is what it adds, and the assembler's state includes it.
pub record TakenShaped (infos : List TableInfo) (after : Lsn) (m : Message) (ms : List Message) (a : ShapingAssembler) (read : Read)
    : Type 0 where
  pub clean : reading_fault infos after m ms ≡ None
  pub is : IsRead infos m ms read
  pub stands : StandsShaped (shapes_after m infos) after (m ∷ ms) a

-- The effect of processing one more message: an error is the message's, unless memory ran out.
abbrev pub TakesShaped : List TableInfo → Lsn → Message → List Message → ShapingAssembler → Result Read TxnError → Type 0
TakesShaped infos after m ms a (Ok read) = TakenShaped infos after m ms a read
TakesShaped infos after m ms a (Err e) = (e ≡ errors.Memory) ⊎ (reading_fault infos after m ms ≡ Some e)

-- ---- in pieces

-- Whether this is what a message adds: the table that it gives other columns, or its piece of the open transaction.
abbrev pub IsShapedPiece : List TableInfo → Message → List Message → ShapedPiece → Type 0
IsShapedPiece infos m ms (pieces.Shaped table) = altered_table infos m ≡ Some table
IsShapedPiece infos m ms (pieces.Piece piece) = (altered_table infos m ≡ None) × IsPieceOf (shapes_after m infos) m ms piece

-- A message was processed in pieces: it has no error, this is what it adds, and the assembler's state includes it.
pub record TakenShapedPiece (infos : List TableInfo) (after : Lsn) (m : Message) (ms : List Message) (a : ShapingAssembler)
    (piece : ShapedPiece) : Type 0 where
  pub clean : reading_fault infos after m ms ≡ None
  pub is : IsShapedPiece infos m ms piece
  pub stands : StandsShapedInPieces (shapes_after m infos) after (m ∷ ms) a

-- The effect of processing one more message in pieces: an error is the message's, unless memory ran out.
abbrev pub TakesShapedPiece : List TableInfo → Lsn → Message → List Message → ShapingAssembler → Result ShapedPiece TxnError → Type 0
TakesShapedPiece infos after m ms a (Ok piece) = TakenShapedPiece infos after m ms a piece
TakesShapedPiece infos after m ms a (Err e) = (e ≡ errors.Memory) ⊎ (reading_fault infos after m ms ≡ Some e)

-- ---- for private clauses

-- What a message adds, by the table that it gives other columns and the commit that it ends.
abbrev pub read_of : Option ℕ → Option Commit → Read
read_of shaped (Some commit) = Ended commit
read_of (Some table) None = Shaped table
read_of None None = Nothing

-- What a message adds in pieces, by the table that it gives other columns and its piece of the open transaction.
abbrev pub piece_of : Option ℕ → Piece → ShapedPiece
piece_of (Some table) piece = pieces.Shaped table
piece_of None piece = pieces.Piece piece

-- Why a captured table can't be read in a Relation's columns, if other columns of it are refused for the messages before.
abbrev pub shape_cause : Bool → TableInfo → List RelationColumn → Option TxnError
shape_cause refused info columns = if not (same_columns info.columns columns) && (are_unfit info columns || refused)
    then Some (errors.SchemaChanged info.name) else None

-- The captured table in a Relation's columns; none if it has them.
abbrev pub IsShaped : TableInfo → List RelationColumn → Option TableInfo → Type 0
IsShaped info columns None = same_columns info.columns columns ≡ true
IsShaped info columns (Some shaped) = (same_columns info.columns columns ≡ false) × IsInfoOf (entry_in info columns) shaped

-- The assembler's tables are in the columns in which the next message is read.
pub record IsReady (infos : List TableInfo) (after : Lsn) (m : Message) (ms : List Message) (held : List Change) (a : ShapingAssembler)
    (altered : Option ℕ) : Type 0 where
  pub clean : shape_fault infos m ms ≡ None
  pub stands : Stands (shapes_after m infos) after ms held a.assembler
  pub so_far : changes_so_far (shapes_after m infos) ms ≡ changes_so_far infos ms
  pub stated : IsOpenStated (shapes_after m infos) ms
  pub oids : KnowsOids (shapes_after m infos) (m ∷ ms) a.oids.items
  pub which : altered ≡ altered_table infos m

-- The effect of preparing for the next message, by the result.
abbrev pub Readies : List TableInfo → Lsn → Message → List Message → List Change → ShapingAssembler → Result (Option ℕ) TxnError → Type 0
Readies infos after m ms held a (Ok altered) = IsReady infos after m ms held a altered
Readies infos after m ms held a (Err e) = (e ≡ errors.Memory) ⊎ (shape_fault infos m ms ≡ Some e)
