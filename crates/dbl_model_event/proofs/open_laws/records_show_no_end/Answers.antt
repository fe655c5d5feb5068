use Rattle.dbl_model_event.proofs.OpenLemmas.{records_show_no_end}
use Rattle.dbl_model_event.proofs.open_laws.records_show_no_end.Goals as goal

pub returns : goal.returns
returns c = records_show_no_end
