use Rattle.std.proofs.Common.{refl}
use Rattle.dbl_txn_pieces.specs.declared.reader.PieceReader.{PieceReader}
use Rattle.dbl_txn_pieces.proofs.Steps.{reads_learnt}
use Rattle.dbl_txn_pieces.proofs.reader.PieceReader.learn.Goals as goal

pub returns-clause-learnt : goal.returns-clause-learnt
returns-clause-learnt c = λ infos after ms s none. (
    let now : PieceReader = record
    { infos = c.push.new.self; last = c.args.self.now.last; relations = c.args.self.now.relations; block = c.args.self.now.block } in
    reads_learnt infos c.args.info after ms c.args.self.now now s none c.in_ok-push.ensures.items refl refl refl)
