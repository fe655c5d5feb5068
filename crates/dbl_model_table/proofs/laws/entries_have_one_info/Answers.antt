use Rattle.dbl_model_table.proofs.InfoLemmas.{one_info}
use Rattle.dbl_model_table.proofs.laws.entries_have_one_info.Goals as goal

pub returns : goal.returns
returns c = one_info
