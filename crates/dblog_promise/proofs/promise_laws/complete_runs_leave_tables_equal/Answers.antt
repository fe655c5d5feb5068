use Rattle.dblog_promise.proofs.WholeLaws.{complete_runs_leave_tables_equal}
use Rattle.dblog_promise.proofs.promise_laws.complete_runs_leave_tables_equal.Goals as goal

pub returns : goal.returns
returns g c = complete_runs_leave_tables_equal g.D.Disk
