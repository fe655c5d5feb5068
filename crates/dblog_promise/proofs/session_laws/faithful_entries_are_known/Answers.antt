use Rattle.dblog_promise.proofs.Going.{faithful_entries_are_known}
use Rattle.dblog_promise.proofs.session_laws.faithful_entries_are_known.Goals as goal

pub returns : goal.returns
returns c = faithful_entries_are_known
