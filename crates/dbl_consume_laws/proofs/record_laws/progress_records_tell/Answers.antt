use Rattle.dbl_consume_laws.proofs.Prints.{progress_records_tell}
use Rattle.dbl_consume_laws.proofs.record_laws.progress_records_tell.Goals as goal

pub returns : goal.returns
returns c = progress_records_tell
