use Rattle.dbl_faithful.proofs.Offsets.{later_sessions_stay_faithful}
use Rattle.dbl_faithful.proofs.kept_laws.later_sessions_stay_faithful.Goals as goal

pub returns : goal.returns
returns c = later_sessions_stay_faithful
