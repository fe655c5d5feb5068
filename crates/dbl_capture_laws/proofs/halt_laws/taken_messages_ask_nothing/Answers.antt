use Rattle.dbl_capture_laws.proofs.Musts.{taken_messages_ask_nothing}
use Rattle.dbl_capture_laws.proofs.halt_laws.taken_messages_ask_nothing.Goals as goal

pub returns : goal.returns
returns c = taken_messages_ask_nothing
