use Rattle.dbl_value_types.proofs.Ordered.{values_are_ordered}
use Rattle.dbl_value.proofs.laws.values_are_ordered.Goals as goal

pub returns : goal.returns
returns c = values_are_ordered
