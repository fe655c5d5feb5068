use Rattle.dbl_capture_laws.proofs.Reported.{stood_are_followed}
use Rattle.dbl_capture_laws.proofs.report_laws.stood_are_followed.Goals as goal

pub returns : goal.returns
returns c = stood_are_followed
