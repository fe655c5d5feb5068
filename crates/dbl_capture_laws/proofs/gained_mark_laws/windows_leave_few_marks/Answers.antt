use Rattle.dbl_capture_laws.proofs.StepMarks.{windows_leave_few_marks}
use Rattle.dbl_capture_laws.proofs.gained_mark_laws.windows_leave_few_marks.Goals as goal

pub returns : goal.returns
returns c = windows_leave_few_marks
