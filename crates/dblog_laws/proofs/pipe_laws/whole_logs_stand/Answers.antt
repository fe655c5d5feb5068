use Rattle.dblog_laws.proofs.Example.{whole_logs_stand}
use Rattle.dblog_laws.proofs.pipe_laws.whole_logs_stand.Goals as goal

pub returns : goal.returns
returns c = whole_logs_stand
