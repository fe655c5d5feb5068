use Rattle.dbl_consume_laws.proofs.Moments.{records_reach}
use Rattle.dbl_consume_laws.proofs.moment_laws.records_reach_their_top.Goals as goal

pub returns : goal.returns
returns c = records_reach
