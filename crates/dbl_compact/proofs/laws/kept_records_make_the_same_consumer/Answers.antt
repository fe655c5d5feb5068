use Rattle.dbl_compact.proofs.KeptLemmas.{same_consumer}
use Rattle.dbl_compact.proofs.laws.kept_records_make_the_same_consumer.Goals as goal

pub returns : goal.returns
returns c = same_consumer
