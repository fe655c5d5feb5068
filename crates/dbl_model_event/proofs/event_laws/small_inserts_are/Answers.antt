use Rattle.dbl_model_event.proofs.EventLemmas.{small_inserts_are}
use Rattle.dbl_model_event.proofs.event_laws.small_inserts_are.Goals as goal

pub returns : goal.returns
returns c = small_inserts_are
