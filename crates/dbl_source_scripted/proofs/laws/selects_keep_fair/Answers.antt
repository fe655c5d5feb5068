use Rattle.dbl_source_scripted.proofs.GrownLemmas.{selects_fair}
use Rattle.dbl_source_scripted.proofs.laws.selects_keep_fair.Goals as goal

pub returns : goal.returns
returns c = selects_fair
