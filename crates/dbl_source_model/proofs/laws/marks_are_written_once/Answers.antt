use Rattle.dbl_source_model.proofs.GrowthLemmas.{one_mark_more}
use Rattle.dbl_source_model.proofs.laws.marks_are_written_once.Goals as goal

pub returns : goal.returns
returns c = one_mark_more
