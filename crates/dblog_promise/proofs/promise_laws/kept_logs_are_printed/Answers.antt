use Rattle.dblog_promise.proofs.TakenLaws.{kept_logs_are_printed}
use Rattle.dblog_promise.proofs.promise_laws.kept_logs_are_printed.Goals as goal

pub returns : goal.returns
returns c = kept_logs_are_printed
