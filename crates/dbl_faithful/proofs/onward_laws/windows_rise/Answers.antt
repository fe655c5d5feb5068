use Rattle.dbl_faithful.proofs.Onward.{windows_rise}
use Rattle.dbl_faithful.proofs.onward_laws.windows_rise.Goals as goal

pub returns : goal.returns
returns c = windows_rise
