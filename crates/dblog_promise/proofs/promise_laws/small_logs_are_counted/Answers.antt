use Rattle.dblog_promise.proofs.CountLaws.{small_logs_are_counted}
use Rattle.dblog_promise.proofs.promise_laws.small_logs_are_counted.Goals as goal

pub returns : goal.returns
returns c = small_logs_are_counted
