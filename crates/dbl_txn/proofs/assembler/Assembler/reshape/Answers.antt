use Rattle.std.proofs.Common.{refl}
use Rattle.dbl_txn.specs.declared.assembler.Assembler.{Assembler}
use Rattle.dbl_txn.proofs.Buffering.{reshaped}
use Rattle.dbl_txn.proofs.assembler.Assembler.reshape.Goals as goal

pub returns : goal.returns
returns c = λ infos after ms held old s at name all none. (
    let now : Assembler = record c.args.self.now { reader = c.reshape.new.self } in
    reshaped infos c.args.table old c.args.info after ms held c.args.self.now now s at name all none refl refl
    (c.reshape.ensures infos after ms old s.reads at name all none))
