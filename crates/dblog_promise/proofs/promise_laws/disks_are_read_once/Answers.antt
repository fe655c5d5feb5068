use Rattle.dblog_promise.proofs.KeptLaws.{disks_are_read_once}
use Rattle.dblog_promise.proofs.promise_laws.disks_are_read_once.Goals as goal

pub returns : goal.returns
returns c = disks_are_read_once
