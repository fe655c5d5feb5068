use Rattle.dbl_capture_laws.proofs.Reported.{sources_settle}
use Rattle.dbl_capture_laws.proofs.report_laws.sources_settle.Goals as goal

pub returns : goal.returns
returns c = sources_settle
