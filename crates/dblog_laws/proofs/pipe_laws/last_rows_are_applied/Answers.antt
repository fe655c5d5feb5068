use Rattle.dblog_laws.proofs.Pipe.{last_rows_applied}
use Rattle.dblog_laws.proofs.pipe_laws.last_rows_are_applied.Goals as goal

pub returns : goal.returns
returns c = last_rows_applied
