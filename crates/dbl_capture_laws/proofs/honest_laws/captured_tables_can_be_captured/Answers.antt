use Rattle.dbl_capture_laws.proofs.Honest.{captured_tables_can_be_captured}
use Rattle.dbl_capture_laws.proofs.honest_laws.captured_tables_can_be_captured.Goals as goal

pub returns : goal.returns
returns c = captured_tables_can_be_captured
