use Rattle.dbl_capture_laws.proofs.Carried.{messages_let_it_rest}
use Rattle.dbl_capture_laws.proofs.carried_laws.messages_let_it_rest.Goals as goal

pub returns : goal.returns
returns c = messages_let_it_rest
