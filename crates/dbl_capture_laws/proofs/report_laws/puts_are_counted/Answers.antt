use Rattle.dbl_capture_laws.proofs.Gained.{puts_are_counted}
use Rattle.dbl_capture_laws.proofs.report_laws.puts_are_counted.Goals as goal

pub returns : goal.returns
returns c = puts_are_counted
