use Rattle.dbl_compact.proofs.KeptLemmas.{kept_twice}
use Rattle.dbl_compact.proofs.laws.kept_records_are_kept.Goals as goal

pub returns : goal.returns
returns c = kept_twice
