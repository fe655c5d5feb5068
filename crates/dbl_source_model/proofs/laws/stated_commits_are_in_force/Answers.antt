use Rattle.dbl_source_model.proofs.StatedColumns.{stated_in_force}
use Rattle.dbl_source_model.proofs.laws.stated_commits_are_in_force.Goals as goal

pub returns : goal.returns
returns c = stated_in_force
