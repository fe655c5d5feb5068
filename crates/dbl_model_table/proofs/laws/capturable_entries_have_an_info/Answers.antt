use Rattle.dbl_model_table.proofs.Capturable.{capturable}
use Rattle.dbl_model_table.proofs.laws.capturable_entries_have_an_info.Goals as goal

pub returns : goal.returns
returns c = capturable
