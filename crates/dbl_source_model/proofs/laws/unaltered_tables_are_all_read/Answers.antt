use Rattle.dbl_source_model.proofs.ShapedLemmas.{all_plainly}
use Rattle.dbl_source_model.proofs.laws.unaltered_tables_are_all_read.Goals as goal

pub returns : goal.returns
returns c = all_plainly
