use Rattle.dbl_capture_laws.proofs.Reported.{halts_between}
use Rattle.dbl_capture_laws.proofs.report_laws.halts_between.Goals as goal

pub returns : goal.returns
returns c = halts_between
