use Rattle.dbl_capture_laws.proofs.Owned.{long_records_are_own}
use Rattle.dbl_capture_laws.proofs.owned_laws.long_records_are_own.Goals as goal

pub returns : goal.returns
returns c = long_records_are_own
