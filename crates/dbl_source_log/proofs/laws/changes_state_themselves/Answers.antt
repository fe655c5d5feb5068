use Rattle.dbl_source_log.proofs.ThemselvesLemmas.{themselves}
use Rattle.dbl_source_log.proofs.laws.changes_state_themselves.Goals as goal

pub returns : goal.returns
returns c = themselves
