use Rattle.dbl_faithful.proofs.Faithful.{faithful_records_stand}
use Rattle.dbl_faithful.proofs.faithful_laws.faithful_records_stand.Goals as goal

pub returns : goal.returns
returns c = faithful_records_stand
