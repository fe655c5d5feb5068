use Rattle.dbl_capture_laws.proofs.Honest.{spelled_bytes_never_halt}
use Rattle.dbl_capture_laws.proofs.honest_laws.spelled_bytes_never_halt.Goals as goal

pub returns : goal.returns
returns c = spelled_bytes_never_halt
