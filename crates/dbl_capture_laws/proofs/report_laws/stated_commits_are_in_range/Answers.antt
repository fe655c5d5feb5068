use Rattle.dbl_capture_laws.proofs.Ranged.{stated_commits_are_in_range}
use Rattle.dbl_capture_laws.proofs.report_laws.stated_commits_are_in_range.Goals as goal

pub returns : goal.returns
returns c = stated_commits_are_in_range
