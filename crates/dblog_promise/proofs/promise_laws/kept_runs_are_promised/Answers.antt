use Rattle.dblog_promise.proofs.KeptLaws.{kept_runs_are_promised}
use Rattle.dblog_promise.proofs.promise_laws.kept_runs_are_promised.Goals as goal

pub returns : goal.returns
returns c = kept_runs_are_promised
