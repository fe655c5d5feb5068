use Rattle.dbl_faithful.proofs.Onward.{stores_stay_onward}
use Rattle.dbl_faithful.proofs.onward_laws.stores_stay_onward.Goals as goal

pub returns : goal.returns
returns c = stores_stay_onward
