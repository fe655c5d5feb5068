use Rattle.dblog_promise.proofs.TableLaws.{workloads_have_tables}
use Rattle.dblog_promise.proofs.promise_laws.workloads_have_tables.Goals as goal

pub returns : goal.returns
returns c = workloads_have_tables
