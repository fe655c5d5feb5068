use Rattle.dbl_source_scripted.proofs.MarkLemmas.{marks_fair}
use Rattle.dbl_source_scripted.proofs.laws.marks_keep_fair.Goals as goal

pub returns : goal.returns
returns c = marks_fair
