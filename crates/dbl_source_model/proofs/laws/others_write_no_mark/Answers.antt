use Rattle.dbl_source_model.proofs.GrowthLemmas.{no_mark_more}
use Rattle.dbl_source_model.proofs.laws.others_write_no_mark.Goals as goal

pub returns : goal.returns
returns c = no_mark_more
