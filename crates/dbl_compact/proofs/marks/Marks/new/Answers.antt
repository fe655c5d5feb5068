use Rattle.dbl_compact.proofs.MarkLemmas.{none_marked}
use Rattle.dbl_compact.proofs.marks.Marks.new.Goals as goal

pub returns : goal.returns
returns c = none_marked c.new.result.items c.new.ensures.items
