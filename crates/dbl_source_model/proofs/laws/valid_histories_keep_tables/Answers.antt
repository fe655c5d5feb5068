use Rattle.dbl_source_model.proofs.PlainLemmas.{valid_keeps}
use Rattle.dbl_source_model.proofs.laws.valid_histories_keep_tables.Goals as goal

pub returns : goal.returns
returns c = valid_keeps
