use Rattle.dbl_source_log.proofs.LogLemmas.{others_grow}
use Rattle.dbl_source_log.proofs.laws.logs_that_grow_have_histories_that_grow.Goals as goal

pub returns : goal.returns
returns c = others_grow
