use Rattle.dbl_capture_model.proofs.Counting.{few_marks_are_written}
use Rattle.dbl_capture_model.proofs.exit_laws.few_marks_are_written.Goals as goal

pub returns : goal.returns
returns c = few_marks_are_written
