use Rattle.dbl_capture_laws.proofs.Reported.{messages_are_taken}
use Rattle.dbl_capture_laws.proofs.report_laws.messages_are_taken.Goals as goal

pub returns : goal.returns
returns c = messages_are_taken
