use Rattle.dbl_source_scripted.proofs.GrownLemmas.{have_returned}
use Rattle.dbl_source_scripted.proofs.laws.selects_have_returned.Goals as goal

pub returns : goal.returns
returns c = have_returned
