use Rattle.std.proofs.Common.{sym, ap}
use Rattle.dblog_replay.specs.Log.{end_fault}
use Rattle.dblog_replay.proofs.log.unfinished_fault.Goals as goal

pub returns-then-inside : goal.returns-then-inside
returns-then-inside c = ap end_fault (sym c.if-inside.true)
