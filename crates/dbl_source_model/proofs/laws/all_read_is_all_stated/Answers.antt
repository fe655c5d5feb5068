use Rattle.dbl_source_model.proofs.ShapedLemmas.{all_stated}
use Rattle.dbl_source_model.proofs.laws.all_read_is_all_stated.Goals as goal

pub returns : goal.returns
returns c = all_stated
