use Rattle.dblog_promise.proofs.Chains.{restarts_go_on}
use Rattle.dblog_promise.proofs.restart_laws.restarts_go_on.Goals as goal

pub returns : goal.returns
returns c = restarts_go_on
