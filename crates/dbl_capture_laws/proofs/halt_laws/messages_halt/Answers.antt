use Rattle.dbl_capture_laws.proofs.Causes.{messages_halt}
use Rattle.dbl_capture_laws.proofs.halt_laws.messages_halt.Goals as goal

pub returns : goal.returns
returns c = messages_halt
