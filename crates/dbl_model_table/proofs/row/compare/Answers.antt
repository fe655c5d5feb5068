use Rattle.std.proofs.Common.{◌∙◌}
use Rattle.dbl_model_table.proofs.DerivedOrder.{derived_order}
use Rattle.dbl_model_table.proofs.row.compare.Goals as goal

pub returns : goal.returns
returns c = c.cmp.ensures ∙ derived_order c.args.a.now c.args.b.now
