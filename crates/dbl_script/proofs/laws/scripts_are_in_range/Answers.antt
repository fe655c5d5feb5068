use Rattle.dbl_script.proofs.RangeLemmas.{scripts_in_range}
use Rattle.dbl_script.proofs.laws.scripts_are_in_range.Goals as goal

pub returns : goal.returns
returns c = scripts_in_range
