-- The state of an assembler after the messages that it has processed, the newest first.
use Rattle.std.specs.Prelude.{◌≡◌, ◌⊎◌, ℕ, Bool, false, List, [], ◌∷◌, Option, None, Some, Result, Ok, Err, slice_get, unwrap_or}
use Rattle.dbl_base.specs.declared.lsn.Lsn.{Lsn}
use Rattle.dbl_pgmsg.specs.declared.messages.Message.{Message}
use Rattle.dbl_model_table.specs.declared.change.Change.{Change}
use Rattle.dbl_model_table.specs.declared.change.Commit.{Commit}
use Rattle.dbl_model_table.specs.declared.table.TableInfo.{TableInfo}
use Rattle.dbl_model_commit.specs.declared.piece.Piece.{Piece}
use Rattle.dbl_model_commit.specs.declared.txn_error.TxnError.{TxnError}
use Rattle.dbl_model_commit.specs.declared.txn_error.TxnError.TheVariants as errors
use Rattle.dbl_model_commit.specs.Past.{begin_of}
use Rattle.dbl_model_commit.specs.Stated.{open_changes, ended_commit, transaction_fault}
use Rattle.dbl_model_commit.specs.Pieces.{if_open, changes_so_far, IsPieceOf}
use Rattle.dbl_model_commit.specs.Shapes.{changes_table}
use Rattle.dbl_txn_pieces.specs.Reading.{HasReadMessages}
use Rattle.dbl_txn.specs.declared.assembler.Assembler.{Assembler}

-- The flag at an index; those after the last aren't set.
abbrev pub flag_at : List Bool → ℕ → Bool
flag_at flags table = unwrap_or (slice_get flags table) false

-- The flag at each captured table's index says whether one of these changes is of the table.
abbrev pub AreFlagged : List Change → List Bool → Type 0
AreFlagged changes flags = (table : ℕ) → flag_at flags table ≡ changes_table table changes

-- The state of the assembler of these tables, for reading after this LSN, after these messages, when it buffers these changes of the open
-- transaction. Between transactions it buffers none. It flags the tables that the open transaction has changed, buffered or not.
pub record Stands (infos : List TableInfo) (after : Lsn) (ms : List Message) (held : List Change) (a : Assembler) : Type 0 where
  pub reads : HasReadMessages infos after ms a.reader
  pub buffers : a.buffered.items ≡ if_open (begin_of ms) held
  pub flags : AreFlagged (changes_so_far infos ms) a.changed.items

-- The assembler buffers all changes of the open transaction.
abbrev pub StandsWhole : List TableInfo → Lsn → List Message → Assembler → Type 0
StandsWhole infos after ms a = Stands infos after ms (open_changes infos ms) a

-- The assembler buffers no change of the open transaction.
abbrev pub StandsInPieces : List TableInfo → Lsn → List Message → Assembler → Type 0
StandsInPieces infos after ms a = Stands infos after ms [] a

-- A message was processed: it has no fault, the commit returned is the one that it ends, and the assembler's state includes it.
pub record Taken (infos : List TableInfo) (after : Lsn) (m : Message) (ms : List Message) (a : Assembler) (o : Option Commit) : Type 0 where
  pub clean : transaction_fault infos after m ms ≡ None
  pub commit : o ≡ ended_commit infos m ms
  pub stands : StandsWhole infos after (m ∷ ms) a

-- The effect of processing one more message: an error is the message's fault, unless memory ran out.
abbrev pub Takes : List TableInfo → Lsn → Message → List Message → Assembler → Result (Option Commit) TxnError → Type 0
Takes infos after m ms a (Ok o) = Taken infos after m ms a o
Takes infos after m ms a (Err e) = (e ≡ errors.Memory) ⊎ (transaction_fault infos after m ms ≡ Some e)

-- A message was processed: it has no fault, this is its piece of the transaction, and the assembler's state includes it.
pub record TakenPiece (infos : List TableInfo) (after : Lsn) (m : Message) (ms : List Message) (a : Assembler) (piece : Piece)
    : Type 0 where
  pub clean : transaction_fault infos after m ms ≡ None
  pub is : IsPieceOf infos m ms piece
  pub stands : StandsInPieces infos after (m ∷ ms) a

-- The effect of processing one more message in pieces: an error is the message's, unless memory ran out.
abbrev pub TakesPiece : List TableInfo → Lsn → Message → List Message → Assembler → Result Piece TxnError → Type 0
TakesPiece infos after m ms a (Ok piece) = TakenPiece infos after m ms a piece
TakesPiece infos after m ms a (Err e) = (e ≡ errors.Memory) ⊎ (transaction_fault infos after m ms ≡ Some e)

-- Between transactions an assembler may go on with either call.
abbrev pub EitherCallMayBegin : Type 0
EitherCallMayBegin = (infos : List TableInfo) (after : Lsn) (ms : List Message) (a : Assembler) → begin_of ms ≡ None
    → (StandsWhole infos after ms a → StandsInPieces infos after ms a) × (StandsInPieces infos after ms a → StandsWhole infos after ms a)
