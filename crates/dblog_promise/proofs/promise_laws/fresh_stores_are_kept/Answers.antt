use Rattle.dblog_promise.proofs.FreshLaws.{fresh_stores_are_kept}
use Rattle.dblog_promise.proofs.promise_laws.fresh_stores_are_kept.Goals as goal

pub returns : goal.returns
returns c = fresh_stores_are_kept
