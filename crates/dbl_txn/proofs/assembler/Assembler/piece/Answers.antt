use Rattle.dbl_model_commit.specs.Pieces.{changes_so_far}
use Rattle.dbl_txn.proofs.Buffering.{pieces_taken}
use Rattle.dbl_txn.proofs.assembler.Assembler.piece.Goals as goal

pub returns : goal.returns
returns c = λ infos after ms s. (
    pieces_taken infos after c.args.message ms c.args.self.now c.read.new.self c.read.result s c.read.ensures.buffered
    (c.read.ensures.flags (changes_so_far infos ms) s.flags) (c.read.ensures.reads infos after ms s.reads))
