use Rattle.dbl_capture_model.proofs.Parting.{parts_may_be_left}
use Rattle.dbl_capture_model.proofs.exit_laws.parts_may_be_left.Goals as goal

pub returns : goal.returns
returns c = parts_may_be_left
