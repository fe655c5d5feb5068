use Rattle.dbl_source_model.proofs.ReadLemmas.{parts_at}
use Rattle.dbl_source_model.proofs.laws.histories_part_at_an_lsn.Goals as goal

pub returns : goal.returns
returns c = parts_at
