use Rattle.dbl_capture_laws.proofs.Puts.{commits_gain}
use Rattle.dbl_capture_laws.proofs.put_laws.commits_gain.Goals as goal

pub returns : goal.returns
returns c = commits_gain
