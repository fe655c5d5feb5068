use Rattle.dblog_promise.proofs.Chains.{rules_keep_promises}
use Rattle.dblog_promise.proofs.restart_laws.rules_keep_promises.Goals as goal

pub returns : goal.returns
returns c = rules_keep_promises
