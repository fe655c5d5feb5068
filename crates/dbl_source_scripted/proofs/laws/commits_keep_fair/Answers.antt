use Rattle.dbl_source_scripted.proofs.GrownLemmas.{commits_fair}
use Rattle.dbl_source_scripted.proofs.laws.commits_keep_fair.Goals as goal

pub returns : goal.returns
returns c = commits_fair
