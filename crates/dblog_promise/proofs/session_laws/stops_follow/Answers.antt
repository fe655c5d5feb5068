use Rattle.dblog_promise.proofs.Leaving.{stops_follow}
use Rattle.dblog_promise.proofs.session_laws.stops_follow.Goals as goal

pub returns : goal.returns
returns c = stops_follow
