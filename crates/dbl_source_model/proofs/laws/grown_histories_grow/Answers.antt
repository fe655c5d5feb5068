use Rattle.dbl_source_model.proofs.GrowthLemmas.{grows_on}
use Rattle.dbl_source_model.proofs.laws.grown_histories_grow.Goals as goal

pub returns : goal.returns
returns c = grows_on
