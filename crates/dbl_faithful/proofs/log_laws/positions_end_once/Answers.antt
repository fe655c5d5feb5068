use Rattle.dbl_faithful.proofs.Positions.{positions_end_once}
use Rattle.dbl_faithful.proofs.log_laws.positions_end_once.Goals as goal

pub returns : goal.returns
returns c = positions_end_once
