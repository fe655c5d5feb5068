use Rattle.dbl_capture_model.proofs.Parting.{read_histories_are_closed}
use Rattle.dbl_capture_model.proofs.exit_laws.read_histories_are_closed.Goals as goal

pub returns : goal.returns
returns c = read_histories_are_closed
