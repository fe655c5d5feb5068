use Rattle.dbl_capture_laws.proofs.Ended.{halts_between_are_told}
use Rattle.dbl_capture_laws.proofs.carried_laws.halts_between_are_told.Goals as goal

pub returns : goal.returns
returns c = halts_between_are_told
