use Rattle.dbl_capture_laws.proofs.StepMarks.{ends_leave_exact_marks}
use Rattle.dbl_capture_laws.proofs.gained_mark_laws.ends_leave_exact_marks.Goals as goal

pub returns : goal.returns
returns c = ends_leave_exact_marks
