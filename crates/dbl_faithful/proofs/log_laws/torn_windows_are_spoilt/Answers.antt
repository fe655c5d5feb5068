use Rattle.dbl_faithful.proofs.TornWindows.{torn_windows_are_spoilt}
use Rattle.dbl_faithful.proofs.log_laws.torn_windows_are_spoilt.Goals as goal

pub returns : goal.returns
returns c = torn_windows_are_spoilt
