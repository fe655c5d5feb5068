use Rattle.dbl_capture_laws.proofs.StepMarks.{others_leave_few_marks}
use Rattle.dbl_capture_laws.proofs.gained_mark_laws.others_leave_few_marks.Goals as goal

pub returns : goal.returns
returns c = others_leave_few_marks
