use Rattle.dblog_promise.proofs.KeptLaws.{runs_are_promised}
use Rattle.dblog_promise.proofs.promise_laws.runs_are_promised.Goals as goal

pub returns : goal.returns
returns c = runs_are_promised
