use Rattle.dbl_capture_laws.proofs.Owned.{first_offsets_are_long}
use Rattle.dbl_capture_laws.proofs.owned_laws.first_offsets_are_long.Goals as goal

pub returns : goal.returns
returns c = first_offsets_are_long
