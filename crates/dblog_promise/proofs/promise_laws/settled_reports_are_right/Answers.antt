use Rattle.dblog_promise.proofs.ReportLaws.{settled_reports_are_right}
use Rattle.dblog_promise.proofs.promise_laws.settled_reports_are_right.Goals as goal

pub returns : goal.returns
returns g c = settled_reports_are_right g.D.Disk
