use Rattle.dbl_capture_laws.proofs.Musts.{newest_messages_halt}
use Rattle.dbl_capture_laws.proofs.halt_laws.newest_messages_halt.Goals as goal

pub returns : goal.returns
returns c = newest_messages_halt
