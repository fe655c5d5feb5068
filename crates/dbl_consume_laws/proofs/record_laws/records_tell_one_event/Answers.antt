use Rattle.dbl_consume_laws.proofs.Prints.{records_tell_one_event}
use Rattle.dbl_consume_laws.proofs.record_laws.records_tell_one_event.Goals as goal

pub returns : goal.returns
returns c = records_tell_one_event
