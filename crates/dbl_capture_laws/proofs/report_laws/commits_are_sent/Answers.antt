use Rattle.dbl_capture_laws.proofs.Gained.{commits_are_sent}
use Rattle.dbl_capture_laws.proofs.report_laws.commits_are_sent.Goals as goal

pub returns : goal.returns
returns c = commits_are_sent
