use Rattle.dbl_capture_laws.proofs.Reported.{ends_stand_at_last}
use Rattle.dbl_capture_laws.proofs.report_laws.ends_stand_at_last.Goals as goal

pub returns : goal.returns
returns c = ends_stand_at_last
