use Rattle.dbl_compact_ended.proofs.EndedLemmas.{none_ended}
use Rattle.dbl_compact.proofs.compactor.Compactor.make.Goals as goal

pub returns-clause-read : goal.returns-clause-read
returns-clause-read c = none_ended c.new.result c.new.ensures.empty
