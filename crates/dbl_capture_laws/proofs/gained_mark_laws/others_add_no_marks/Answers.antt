use Rattle.dbl_capture_laws.proofs.StepMarks.{others_add_no_marks}
use Rattle.dbl_capture_laws.proofs.gained_mark_laws.others_add_no_marks.Goals as goal

pub returns : goal.returns
returns c = others_add_no_marks
