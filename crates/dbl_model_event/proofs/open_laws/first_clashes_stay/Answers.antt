use Rattle.dbl_model_event.proofs.OpenLemmas.{first_clashes_stay}
use Rattle.dbl_model_event.proofs.open_laws.first_clashes_stay.Goals as goal

pub returns : goal.returns
returns c = first_clashes_stay
