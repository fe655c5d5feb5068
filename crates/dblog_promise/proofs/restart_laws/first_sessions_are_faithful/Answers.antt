use Rattle.dblog_promise.proofs.Chains.{first_sessions_are_faithful}
use Rattle.dblog_promise.proofs.restart_laws.first_sessions_are_faithful.Goals as goal

pub returns : goal.returns
returns c = first_sessions_are_faithful
