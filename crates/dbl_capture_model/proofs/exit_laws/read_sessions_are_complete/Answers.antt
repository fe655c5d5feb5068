use Rattle.dbl_capture_model.proofs.Completing.{read_sessions_are_complete}
use Rattle.dbl_capture_model.proofs.exit_laws.read_sessions_are_complete.Goals as goal

pub returns : goal.returns
returns c = read_sessions_are_complete
