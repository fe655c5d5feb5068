use Rattle.std.proofs.Common.{length}
use Rattle.dblog_replay.proofs.ApplyLemmas.{IsApplying}
use Rattle.dblog_replay.proofs.apply.consume.Given as goal

abbrev pub invariant-lines : goal.invariant-lines
invariant-lines l = IsApplying l.fn.placeholder l.fn.text l.rest l.held l.number

abbrev pub decreases-lines : goal.decreases-lines
decreases-lines l = length l.rest
