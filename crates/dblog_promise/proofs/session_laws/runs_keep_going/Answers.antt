use Rattle.dblog_promise.proofs.Going.{runs_keep_going}
use Rattle.dblog_promise.proofs.session_laws.runs_keep_going.Goals as goal

pub returns : goal.returns
returns c = runs_keep_going
