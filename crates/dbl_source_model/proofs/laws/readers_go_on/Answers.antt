use Rattle.dbl_source_model.proofs.ReadLemmas.{goes_on}
use Rattle.dbl_source_model.proofs.laws.readers_go_on.Goals as goal

pub returns : goal.returns
returns c = goes_on
