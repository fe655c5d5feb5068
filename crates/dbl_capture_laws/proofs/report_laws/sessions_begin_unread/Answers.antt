use Rattle.dbl_capture_laws.proofs.Reported.{sessions_begin_unread}
use Rattle.dbl_capture_laws.proofs.report_laws.sessions_begin_unread.Goals as goal

pub returns : goal.returns
returns c = sessions_begin_unread
