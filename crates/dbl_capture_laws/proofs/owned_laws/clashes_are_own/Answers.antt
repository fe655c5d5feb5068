use Rattle.dbl_capture_laws.proofs.Owned.{clashes_are_own}
use Rattle.dbl_capture_laws.proofs.owned_laws.clashes_are_own.Goals as goal

pub returns : goal.returns
returns c = clashes_are_own
