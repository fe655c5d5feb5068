use Rattle.dbl_faithful.proofs.Offsets.{confirms_stay_faithful}
use Rattle.dbl_faithful.proofs.kept_laws.confirms_stay_faithful.Goals as goal

pub returns : goal.returns
returns c = confirms_stay_faithful
