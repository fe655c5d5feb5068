use Rattle.dblog_promise.proofs.KeptLaws.{sessions_go_on}
use Rattle.dblog_promise.proofs.promise_laws.sessions_go_on.Goals as goal

pub returns : goal.returns
returns c = sessions_go_on
