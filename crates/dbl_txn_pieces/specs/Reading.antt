-- The state of a reader after the messages that it has read, the newest first.
use Rattle.std.specs.Prelude.{◌≡◌, ◌⊎◌, ℕ, Bool, List, ◌∷◌, Option, None, Some, Result, Ok, Err, option_map, nat_eq}
use Rattle.std.specs.HashMap.{get}
use Rattle.dbl_base.specs.declared.lsn.Lsn.{Lsn}
use Rattle.dbl_pgmsg.specs.declared.messages.Message.{Message}
use Rattle.dbl_pgmsg.specs.declared.messages.Message.TheVariants as says
use Rattle.dbl_model_table.specs.declared.change.Change.{Change}
use Rattle.dbl_model_table.specs.declared.table.TableInfo.{TableInfo}
use Rattle.dbl_model_commit.specs.declared.message_parts.RowChange.{RowChange}
use Rattle.dbl_model_commit.specs.declared.message_parts.RowChange.TheVariants as row
use Rattle.dbl_model_commit.specs.declared.piece.Piece.{Piece}
use Rattle.dbl_model_commit.specs.declared.txn_error.TxnError.{TxnError}
use Rattle.dbl_model_commit.specs.declared.txn_error.TxnError.TheVariants as errors
use Rattle.dbl_model_commit.specs.Past.{relation_of, Head, begin_of, last_lsn, open_mark}
use Rattle.dbl_model_commit.specs.Stated.{has_some, open_changes, stated, transaction_fault}
use Rattle.dbl_model_commit.specs.Pieces.{IsPieceOf}
use Rattle.dbl_txn_changes.specs.declared.known.Known.{Known}
use Rattle.dbl_txn_changes.specs.KnownTables.{known_in}
use Rattle.dbl_txn_pieces.specs.declared.reader.Block.{Block}
use Rattle.dbl_txn_pieces.specs.declared.reader.PieceReader.{PieceReader}

-- An Insert, an Update or a Delete of the table with this OID.
abbrev pub message_of : ℕ → RowChange → Message
message_of oid (row.Insert new) = says.Insert oid new
message_of oid (row.Update before new) = says.Update oid before new
message_of oid (row.Delete before) = says.Delete oid before

-- The open transaction.
pub record IsBlock (mark : Option (List ℕ)) (changed : Bool) (head : Head) (block : Block) : Type 0 where
  pub head_is : block.head ≡ head
  pub mark_is : block.mark ≡ mark
  pub changed_is : block.changed ≡ changed

-- A transaction is open if and only if one has begun.
abbrev pub IsOpen : Option (List ℕ) → Bool → Option Head → Option Block → Type 0
IsOpen mark changed None None = Unit {0}
IsOpen mark changed None (Some block) = ⊥
IsOpen mark changed (Some head) None = ⊥
IsOpen mark changed (Some head) (Some block) = IsBlock mark changed head block

-- The state of the reader of these tables, for reading after this LSN, after these messages.
pub record HasReadMessages (infos : List TableInfo) (after : Lsn) (ms : List Message) (r : PieceReader) : Type 0 where
  pub tables : r.infos.items ≡ infos
  pub last : r.last ≡ last_lsn after ms
  pub relations : (oid : ℕ) → get nat_eq r.relations oid ≡ option_map (known_in infos) (relation_of oid ms)
  pub block : IsOpen (open_mark ms) (has_some (open_changes infos ms)) (begin_of ms) r.block

-- The map has the last Relation of each OID.
pub record Recalls (infos : List TableInfo) (ms : List Message) (look : ℕ → Option Known) : Type 0 where
  pub each : (oid : ℕ) → look oid ≡ option_map (known_in infos) (relation_of oid ms)

-- A message was read: it has no error, this is its piece, and the reader's state includes it.
pub record ReadPiece (infos : List TableInfo) (after : Lsn) (m : Message) (ms : List Message) (r : PieceReader) (piece : Piece)
    : Type 0 where
  pub clean : transaction_fault infos after m ms ≡ None
  pub is : IsPieceOf infos m ms piece
  pub reads : HasReadMessages infos after (m ∷ ms) r

-- The effect of reading one more message: an error is the message's, unless memory ran out.
abbrev pub ReadsPiece : List TableInfo → Lsn → Message → List Message → PieceReader → Result Piece TxnError → Type 0
ReadsPiece infos after m ms r (Ok piece) = ReadPiece infos after m ms r piece
ReadsPiece infos after m ms r (Err e) = (e ≡ errors.Memory) ⊎ (transaction_fault infos after m ms ≡ Some e)

-- For private clauses: a message that states these changes was read.
pub record StatedChanges (infos : List TableInfo) (after : Lsn) (m : Message) (ms : List Message) (r : PieceReader)
    (changes : List Change) : Type 0 where
  pub clean : transaction_fault infos after m ms ≡ None
  pub some : stated infos m ms ≡ Ok changes
  pub reads : HasReadMessages infos after (m ∷ ms) r

-- For private clauses: the effect of reading such a message, by the result.
abbrev pub StatesChanges : List TableInfo → Lsn → Message → List Message → PieceReader → Result (List Change) TxnError → Type 0
StatesChanges infos after m ms r (Ok changes) = StatedChanges infos after m ms r changes
StatesChanges infos after m ms r (Err e) = (e ≡ errors.Memory) ⊎ (transaction_fault infos after m ms ≡ Some e)
