use Rattle.dblog_promise.proofs.AppliedLaws.{complete_runs_are_applied}
use Rattle.dblog_promise.proofs.promise_laws.complete_runs_are_applied.Goals as goal

pub returns : goal.returns
returns c = complete_runs_are_applied
