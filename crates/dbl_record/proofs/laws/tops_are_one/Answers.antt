use Rattle.dbl_record.proofs.PlaceLemmas.{tops_are_one}
use Rattle.dbl_record.proofs.laws.tops_are_one.Goals as goal

pub returns : goal.returns
returns c = tops_are_one
