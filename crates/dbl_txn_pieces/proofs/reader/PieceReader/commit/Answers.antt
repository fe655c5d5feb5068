use Rattle.std.proofs.Common.{sym, ◌∙◌}
use Rattle.dbl_txn_pieces.proofs.Steps.{committed}
use Rattle.dbl_txn_pieces.proofs.reader.PieceReader.commit.Goals as goal

pub returns : goal.returns
returns c = λ infos after ms flags time s. (
    rw c.take.ensures.after (committed infos after ms c.args.self.now c.in-Some.block flags c.args.lsn c.args.end_lsn time s
    (sym c.take.ensures.value ∙ c.in-Some.is) c.if-block-lsn.false))
