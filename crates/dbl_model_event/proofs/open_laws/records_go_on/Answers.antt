use Rattle.dbl_model_event.proofs.OpenLemmas.{records_go_on}
use Rattle.dbl_model_event.proofs.open_laws.records_go_on.Goals as goal

pub returns : goal.returns
returns c = records_go_on
