use Rattle.dbl_capture_laws.proofs.Carried.{sessions_begin_at_rest}
use Rattle.dbl_capture_laws.proofs.carried_laws.sessions_begin_at_rest.Goals as goal

pub returns : goal.returns
returns c = sessions_begin_at_rest
