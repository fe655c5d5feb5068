use Rattle.dblog_promise.proofs.Chains.{restarts_stay_faithful}
use Rattle.dblog_promise.proofs.restart_laws.restarts_stay_faithful.Goals as goal

pub returns : goal.returns
returns c = restarts_stay_faithful
