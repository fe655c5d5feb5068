use Rattle.dbl_stream2.proofs.FitLemmas.{part_fits}
use Rattle.dbl_stream2.proofs.laws.flat_messages_fit.Goals as goal

pub returns : goal.returns
returns c = part_fits
