use Rattle.dbl_capture_laws.proofs.Puts.{messages_gain_nothing}
use Rattle.dbl_capture_laws.proofs.put_laws.messages_gain_nothing.Goals as goal

pub returns : goal.returns
returns c = messages_gain_nothing
