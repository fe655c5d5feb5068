use Rattle.dbl_capture_laws.proofs.Honest.{honest_transactions_fail}
use Rattle.dbl_capture_laws.proofs.honest_laws.honest_transactions_fail.Goals as goal

pub returns : goal.returns
returns c = honest_transactions_fail
