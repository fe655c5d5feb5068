use Rattle.dbl_source_scripted.proofs.MemoryLemmas.{first_fair}
use Rattle.dbl_source_scripted.proofs.laws.first_commits_are_fair.Goals as goal

pub returns : goal.returns
returns c = first_fair
