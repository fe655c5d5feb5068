use Rattle.dblog_promise.proofs.KeptLaws.{what_stays_goes_on}
use Rattle.dblog_promise.proofs.promise_laws.what_stays_goes_on.Goals as goal

pub returns : goal.returns
returns c = what_stays_goes_on
