use Rattle.dbl_capture_laws.proofs.Owned.{open_long_records_are_own}
use Rattle.dbl_capture_laws.proofs.owned_laws.open_long_records_are_own.Goals as goal

pub returns : goal.returns
returns c = open_long_records_are_own
