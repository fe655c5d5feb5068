use Rattle.dbl_source_model.proofs.ShapedLemmas.{read_in_force}
use Rattle.dbl_source_model.proofs.laws.own_columns_are_read_right.Goals as goal

pub returns : goal.returns
returns c = read_in_force
