use Rattle.dbl_capture_laws.proofs.Owned.{open_clashes_are_own}
use Rattle.dbl_capture_laws.proofs.owned_laws.open_clashes_are_own.Goals as goal

pub returns : goal.returns
returns c = open_clashes_are_own
