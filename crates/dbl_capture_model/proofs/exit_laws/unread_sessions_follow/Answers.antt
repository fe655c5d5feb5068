use Rattle.dbl_capture_model.proofs.Beginning.{unread_sessions_follow}
use Rattle.dbl_capture_model.proofs.exit_laws.unread_sessions_follow.Goals as goal

pub returns : goal.returns
returns c = unread_sessions_follow
