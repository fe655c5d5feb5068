use Rattle.std.proofs.Common.{subst, sym}
use Rattle.std.proofs.lemmas.Result.{err_from_is_err_and}
use Rattle.dbl_pgmsg.specs.declared.messages.Message.TheVariants as says
use Rattle.dbl_model_commit.specs.declared.piece.Piece.{Piece}
use Rattle.dbl_txn_pieces.specs.Reading.{ReadPiece}
use Rattle.dbl_txn_pieces.proofs.Steps.{truncate_read}
use Rattle.dbl_txn_pieces.proofs.reader.PieceReader.read_truncate.Goals as goal

pub returns-in_err-stated : goal.returns-in_err-stated
returns-in_err-stated c = λ infos after ms options s. (
    let p = err_from_is_err_and c.from_residual.result c.from_residual.ensures.1 in
    rw (p.1, p.2) (c.in_err-stated.ensures infos after ms options s))

pub returns : goal.returns
returns c = λ infos after ms options s. (
    subst (λ (p : Piece). ReadPiece infos after (says.Truncate options c.args.oids.now.items) ms c.truncate.new.self p) (sym c.piece_of.ensures)
    (truncate_read infos after ms c.truncate.new.self options c.args.oids.now.items c.in_ok-stated.stated (c.in_ok-stated.ensures infos after ms options s)))
