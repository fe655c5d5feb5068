use Rattle.dbl_capture_laws.proofs.Reported.{stops_are_followed}
use Rattle.dbl_capture_laws.proofs.report_laws.stops_are_followed.Goals as goal

pub returns : goal.returns
returns c = stops_are_followed
