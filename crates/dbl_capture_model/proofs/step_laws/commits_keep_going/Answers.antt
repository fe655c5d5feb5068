use Rattle.dbl_capture_model.proofs.Commits.{commits_keep_going}
use Rattle.dbl_capture_model.proofs.step_laws.commits_keep_going.Goals as goal

pub returns : goal.returns
returns c = commits_keep_going
