use Rattle.dblog_promise.proofs.Marks.{old_marks_do_nothing}
use Rattle.dblog_promise.proofs.session_laws.old_marks_do_nothing.Goals as goal

pub returns : goal.returns
returns c = old_marks_do_nothing
