use Rattle.dblog_promise.proofs.Repeats.{repeats_are_counted}
use Rattle.dblog_promise.proofs.session_laws.repeats_are_counted.Goals as goal

pub returns : goal.returns
returns c = repeats_are_counted
