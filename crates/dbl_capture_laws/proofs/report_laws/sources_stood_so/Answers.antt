use Rattle.dbl_capture_laws.proofs.Reported.{sources_stood_so}
use Rattle.dbl_capture_laws.proofs.report_laws.sources_stood_so.Goals as goal

pub returns : goal.returns
returns c = sources_stood_so
