use Rattle.std.proofs.Common.{◌∙◌}
use Rattle.dbl_txn.proofs.assembler.Assembler.has_changed.Goals as goal

pub returns : goal.returns
returns c = λ infos after ms held s. c.is_flagged.ensures ∙ s.flags c.args.table
