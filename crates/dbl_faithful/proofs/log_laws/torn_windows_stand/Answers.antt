use Rattle.dbl_faithful.proofs.TornExample.{torn_windows_stand}
use Rattle.dbl_faithful.proofs.log_laws.torn_windows_stand.Goals as goal

pub returns : goal.returns
returns c = torn_windows_stand
