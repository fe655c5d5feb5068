use Rattle.dbl_capture_laws.proofs.Reported.{sources_stand_after}
use Rattle.dbl_capture_laws.proofs.report_laws.sources_stand_after.Goals as goal

pub returns : goal.returns
returns c = sources_stand_after
