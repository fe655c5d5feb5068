use Rattle.dbl_capture_laws.proofs.Unread.{sessions_halt_unread}
use Rattle.dbl_capture_laws.proofs.halt_laws.sessions_halt_unread.Goals as goal

pub returns : goal.returns
returns c = sessions_halt_unread
