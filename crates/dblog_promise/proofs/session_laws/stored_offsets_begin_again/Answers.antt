use Rattle.dblog_promise.proofs.Going.{stored_offsets_begin_again}
use Rattle.dblog_promise.proofs.session_laws.stored_offsets_begin_again.Goals as goal

pub returns : goal.returns
returns c = stored_offsets_begin_again
