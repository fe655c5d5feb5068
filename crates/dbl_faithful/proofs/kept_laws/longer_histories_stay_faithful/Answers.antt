use Rattle.dbl_faithful.proofs.Longer.{longer_histories_stay_faithful}
use Rattle.dbl_faithful.proofs.kept_laws.longer_histories_stay_faithful.Goals as goal

pub returns : goal.returns
returns c = longer_histories_stay_faithful
