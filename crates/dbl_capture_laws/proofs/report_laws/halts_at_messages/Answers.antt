use Rattle.dbl_capture_laws.proofs.Reported.{halts_at_messages}
use Rattle.dbl_capture_laws.proofs.report_laws.halts_at_messages.Goals as goal

pub returns : goal.returns
returns c = halts_at_messages
