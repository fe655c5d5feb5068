use Rattle.dbl_capture_model.proofs.Beginning.{first_offsets_follow}
use Rattle.dbl_capture_model.proofs.exit_laws.first_offsets_follow.Goals as goal

pub returns : goal.returns
returns c = first_offsets_follow
