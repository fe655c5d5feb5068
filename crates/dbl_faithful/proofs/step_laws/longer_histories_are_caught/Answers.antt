use Rattle.dbl_faithful.proofs.Caught.{longer_histories_are_caught}
use Rattle.dbl_faithful.proofs.step_laws.longer_histories_are_caught.Goals as goal

pub returns : goal.returns
returns c = longer_histories_are_caught
