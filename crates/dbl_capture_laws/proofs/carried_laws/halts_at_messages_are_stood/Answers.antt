use Rattle.dbl_capture_laws.proofs.Ended.{halts_at_messages_are_stood}
use Rattle.dbl_capture_laws.proofs.carried_laws.halts_at_messages_are_stood.Goals as goal

pub returns : goal.returns
returns c = halts_at_messages_are_stood
