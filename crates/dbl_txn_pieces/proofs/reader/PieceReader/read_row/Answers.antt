use Rattle.std.proofs.Common.{subst, sym}
use Rattle.dbl_model_commit.specs.declared.piece.Piece.{Piece}
use Rattle.dbl_txn_pieces.specs.Reading.{message_of, ReadPiece}
use Rattle.dbl_txn_pieces.proofs.Steps.{row_read}
use Rattle.dbl_txn_pieces.proofs.reader.PieceReader.read_row.Goals as goal

pub returns : goal.returns
returns c = λ infos after ms s. (
    subst (λ (p : Piece). ReadPiece infos after (message_of c.args.oid c.args.change) ms c.row.new.self p) (sym c.piece_of.ensures)
    (row_read infos after ms c.row.new.self c.args.oid c.args.change c.in_ok-stated.stated (c.in_ok-stated.ensures infos after ms s)))
