use Rattle.dbl_consume_laws.proofs.Prints.{pairs_name_events}
use Rattle.dbl_consume_laws.proofs.record_laws.pairs_name_events.Goals as goal

pub returns : goal.returns
returns c = pairs_name_events
