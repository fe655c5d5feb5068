use Rattle.dblog_promise.proofs.Telling.{logs_tell_the_source}
use Rattle.dblog_promise.proofs.restart_laws.logs_tell_the_source.Goals as goal

pub returns : goal.returns
returns c = logs_tell_the_source
