use Rattle.dbl_capture_laws.proofs.Owned.{first_long_offsets_are_own}
use Rattle.dbl_capture_laws.proofs.owned_laws.first_long_offsets_are_own.Goals as goal

pub returns : goal.returns
returns c = first_long_offsets_are_own
