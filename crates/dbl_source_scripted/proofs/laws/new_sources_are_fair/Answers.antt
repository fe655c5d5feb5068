use Rattle.dbl_source_scripted.proofs.NewLemmas.{new_fair}
use Rattle.dbl_source_scripted.proofs.laws.new_sources_are_fair.Goals as goal

pub returns : goal.returns
returns c = new_fair
