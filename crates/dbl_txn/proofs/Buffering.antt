-- The changes of the open transaction that an assembler buffers.
use Rattle.std.proofs.Common.{◌≡◌, ◌∙◌, List, [], ◌∷◌, ◌++◌, refl, sym, ap}
use Rattle.std.specs.Prelude.{ℕ, Bool, false, Option, Some, None, Result, Ok, Err, IfOk, slice_get, slice_set}
use Rattle.dbl_base.specs.declared.lsn.Lsn.{Lsn}
use Rattle.dbl_pgmsg.specs.declared.messages.Message.{Message}
use Rattle.dbl_model_table.specs.declared.table.TableInfo.{TableInfo}
use Rattle.dbl_model_table.specs.declared.change.Change.{Change}
use Rattle.dbl_model_table.specs.declared.change.Commit.{Commit}
use Rattle.dbl_model_commit.specs.declared.piece.Piece.{Piece}
use Rattle.dbl_model_commit.specs.declared.txn_error.TxnError.{TxnError}
use Rattle.dbl_model_commit.specs.Past.{Head, begin_of, HasNoRelation}
use Rattle.dbl_model_commit.specs.Stated.{open_changes}
use Rattle.dbl_model_commit.specs.Pieces.{if_open, changes_so_far, with_piece, ended_by}
use Rattle.dbl_model_commit.specs.Shapes.{changes_table, IsOpenStated}
use Rattle.dbl_model_commit.proofs.Learning.{changes_learnt}
use Rattle.dbl_model_commit.proofs.PieceLemmas.{piece_joins}
use Rattle.dbl_model_commit.proofs.Reshaping.{may_be_reshaped}
use Rattle.dbl_txn_pieces.specs.Reading.{HasReadMessages, ReadPiece, ReadsPiece}
use Rattle.dbl_txn.specs.declared.assembler.Assembler.{Assembler}
use Rattle.dbl_txn.specs.Stands.{flag_at, AreFlagged, Stands, StandsWhole, StandsInPieces, Taken, TakenPiece, TakesPiece, EitherCallMayBegin}

-- no change is buffered, whether a transaction is open or not
pub none_buffered : (o : Option Head) → if_open o [] ≡ []
none_buffered None = refl
none_buffered (Some head) = refl

-- the flags after a piece are those of the changes after its message
flagged_now : (infos : List TableInfo) (after : Lsn) (m : Message) (ms : List Message) (b : Assembler) (piece : Piece) → ReadPiece infos after m ms b.reader piece
    → AreFlagged (with_piece (changes_so_far infos ms) piece) b.changed.items → AreFlagged (changes_so_far infos (m ∷ ms)) b.changed.items
flagged_now infos after m ms b piece read flags table =
    flags table ∙ ap (changes_table table) (piece_joins infos after m ms piece read.clean read.is).changes

-- a piece was taken and nothing buffered
pub piece_taken : (infos : List TableInfo) (after : Lsn) (m : Message) (ms : List Message) (a b : Assembler) (piece : Piece) → StandsInPieces infos after ms a
    → b.buffered ≡ a.buffered → AreFlagged (with_piece (changes_so_far infos ms) piece) b.changed.items
    → ReadPiece infos after m ms b.reader piece → TakenPiece infos after m ms b piece
piece_taken infos after m ms a b piece s same flags read = record {
  clean = read.clean;
  is = read.is;
  stands = record {
    reads = read.reads;
    buffers = ap (λ v. v.items) same ∙ s.buffers ∙ none_buffered (begin_of ms) ∙ sym (none_buffered (begin_of (m ∷ ms)));
    flags = flagged_now infos after m ms b piece read flags;
  };
}

-- the effect of a piece, by the result
pub pieces_taken : (infos : List TableInfo) (after : Lsn) (m : Message) (ms : List Message) (a b : Assembler) (r : Result Piece TxnError)
    → StandsInPieces infos after ms a → b.buffered ≡ a.buffered
    → IfOk r (λ piece. AreFlagged (with_piece (changes_so_far infos ms) piece) b.changed.items)
    → ReadsPiece infos after m ms b.reader r → TakesPiece infos after m ms b r
pieces_taken infos after m ms a b (Ok piece) s same flags read = piece_taken infos after m ms a b piece s same flags read
pieces_taken infos after m ms a b (Err e) s same flags fails = fails

-- a message was taken, and what its piece adds is buffered
pub whole_taken : (infos : List TableInfo) (after : Lsn) (m : Message) (ms : List Message) (a b : Assembler) (piece : Piece) (o : Option Commit)
    → StandsWhole infos after ms a
    → ReadPiece infos after m ms b.reader piece → AreFlagged (with_piece (changes_so_far infos ms) piece) b.changed.items
    → b.buffered.items ≡ with_piece a.buffered.items piece → o ≡ ended_by a.buffered.items piece
    → Taken infos after m ms b o
whole_taken infos after m ms a b piece o s read flags buffers ends =
    let joins = piece_joins infos after m ms piece read.clean read.is in record {
      clean = read.clean;
      commit = ends ∙ ap (λ (l : List Change). ended_by l piece) s.buffers ∙ joins.commit;
      stands = record {
        reads = read.reads;
        buffers = buffers ∙ ap (λ (l : List Change). with_piece l piece) s.buffers ∙ joins.changes;
        flags = flagged_now infos after m ms b piece read flags;
      };
    }

-- the flags with one more table
pub flags_learnt : (infos : List TableInfo) (info : TableInfo) (after : Lsn) (ms : List Message) (held : List Change) (a b : Assembler) → Stands infos after ms held a
    → HasNoRelation info.name ms → b.changed ≡ a.changed → AreFlagged (changes_so_far (infos ++ info ∷ []) ms) b.changed.items
flags_learnt infos info after ms held a b s none same table =
    ap (λ v. flag_at v.items table) same ∙ s.flags table
    ∙ ap (λ (l : List Change). changes_table table (if_open (begin_of ms) l)) (sym (changes_learnt infos info ms none))

-- one more table was learnt
pub whole_learnt : (infos : List TableInfo) (info : TableInfo) (after : Lsn) (ms : List Message) (a b : Assembler) → StandsWhole infos after ms a
    → HasNoRelation info.name ms → b.buffered.items ≡ a.buffered.items → b.changed ≡ a.changed
    → HasReadMessages (infos ++ info ∷ []) after ms b.reader → StandsWhole (infos ++ info ∷ []) after ms b
whole_learnt infos info after ms a b s none same flags reads = record {
  reads = reads;
  buffers = same ∙ s.buffers ∙ ap (if_open (begin_of ms)) (sym (changes_learnt infos info ms none));
  flags = flags_learnt infos info after ms (open_changes infos ms) a b s none flags;
}

others_buffered : (o : Option Head) (held other : List Change) → o ≡ None → if_open o held ≡ if_open o other
others_buffered None held other none = refl
others_buffered (Some head) held other none = cc

other_stands : (infos : List TableInfo) (after : Lsn) (ms : List Message) (held other : List Change) (a : Assembler) → begin_of ms ≡ None
    → Stands infos after ms held a → Stands infos after ms other a
other_stands infos after ms held other a none s = record {
  reads = s.reads;
  buffers = s.buffers ∙ others_buffered (begin_of ms) held other none;
  flags = s.flags;
}

pub both_stand : EitherCallMayBegin
both_stand infos after ms a none = (
  other_stands infos after ms (open_changes infos ms) [] a none,
  other_stands infos after ms [] (open_changes infos ms) a none,
)

-- a table got other columns
pub reshaped : (infos : List TableInfo) (table : ℕ) (old new : TableInfo) (after : Lsn) (ms : List Message) (held : List Change) (a b : Assembler) → Stands infos after ms held a
    → slice_get infos table ≡ Some old → new.name ≡ old.name → IsOpenStated infos ms → changes_table table (changes_so_far infos ms) ≡ false
    → b.buffered.items ≡ a.buffered.items → b.changed.items ≡ a.changed.items → HasReadMessages (slice_set infos table new) after ms b.reader
    → Stands (slice_set infos table new) after ms held b
reshaped infos table old new after ms held a b s at name all none same flags reads =
    let stays = (may_be_reshaped infos ms table old new at name all none).0 in record {
      reads = reads;
      buffers = same ∙ s.buffers;
      flags = λ other. ap (λ (l : List Bool). flag_at l other) flags ∙ s.flags other ∙ ap (changes_table other) (sym stays);
    }

-- the changes that it buffers are those in the tables' other columns too
pub whole_still : (infos next : List TableInfo) (after : Lsn) (ms : List Message) (a : Assembler) → changes_so_far next ms ≡ changes_so_far infos ms
    → Stands next after ms (open_changes infos ms) a → StandsWhole next after ms a
whole_still infos next after ms a same s = record { reads = s.reads; buffers = s.buffers ∙ sym same; flags = s.flags }
