use Rattle.dbl_consume_laws.proofs.Prints.{progress_is_read_once}
use Rattle.dbl_consume_laws.proofs.record_laws.progress_is_read_once.Goals as goal

pub returns : goal.returns
returns c = progress_is_read_once
