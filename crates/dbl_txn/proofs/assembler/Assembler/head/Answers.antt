use Rattle.dbl_txn.proofs.assembler.Assembler.head.Goals as goal

pub returns : goal.returns
returns c = λ infos after ms held s. c.head.ensures infos after ms s.reads
