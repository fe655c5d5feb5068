use Rattle.dbl_record.proofs.PlaceLemmas.{tops_stand}
use Rattle.dbl_record.proofs.laws.tops_stand.Goals as goal

pub returns : goal.returns
returns c = tops_stand
