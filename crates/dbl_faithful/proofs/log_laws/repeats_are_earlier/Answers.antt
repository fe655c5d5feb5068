use Rattle.dbl_faithful.proofs.Exact.{repeats_are_earlier}
use Rattle.dbl_faithful.proofs.log_laws.repeats_are_earlier.Goals as goal

pub returns : goal.returns
returns c = repeats_are_earlier
