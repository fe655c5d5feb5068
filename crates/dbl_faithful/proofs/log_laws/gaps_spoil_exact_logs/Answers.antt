use Rattle.dbl_faithful.proofs.Exact.{gaps_spoil_exact_logs}
use Rattle.dbl_faithful.proofs.log_laws.gaps_spoil_exact_logs.Goals as goal

pub returns : goal.returns
returns c = gaps_spoil_exact_logs
