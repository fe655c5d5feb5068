use Rattle.dbl_source_model.proofs.ShapedLemmas.{read_plainly}
use Rattle.dbl_source_model.proofs.laws.unaltered_tables_are_read_plainly.Goals as goal

pub returns : goal.returns
returns c = read_plainly
