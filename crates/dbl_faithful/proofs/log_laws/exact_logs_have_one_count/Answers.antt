use Rattle.dbl_faithful.proofs.Exact.{exact_logs_have_one_count}
use Rattle.dbl_faithful.proofs.log_laws.exact_logs_have_one_count.Goals as goal

pub returns : goal.returns
returns c = exact_logs_have_one_count
