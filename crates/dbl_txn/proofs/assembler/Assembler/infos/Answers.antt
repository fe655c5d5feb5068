use Rattle.dbl_txn.proofs.assembler.Assembler.infos.Goals as goal

pub returns : goal.returns
returns c = λ infos after ms held s. c.infos.ensures infos after ms s.reads
