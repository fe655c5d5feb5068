use Rattle.dbl_model_event.proofs.EventLemmas.{commits_are_numbered}
use Rattle.dbl_model_event.proofs.event_laws.commits_are_numbered.Goals as goal

pub returns : goal.returns
returns c = commits_are_numbered
