use Rattle.dblog_promise.proofs.Sample.{three_sessions_stand}
use Rattle.dblog_promise.proofs.restart_laws.three_sessions_stand.Goals as goal

pub returns : goal.returns
returns c = three_sessions_stand
