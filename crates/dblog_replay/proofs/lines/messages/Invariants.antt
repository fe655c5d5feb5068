use Rattle.std.proofs.Common.{length}
use Rattle.dblog_replay.proofs.LineLemmas.{IsTaking}
use Rattle.dblog_replay.proofs.lines.messages.Given as goal

abbrev pub invariant-lines : goal.invariant-lines
invariant-lines l = IsTaking l.fn.text l.rest l.found.items l.number

abbrev pub decreases-lines : goal.decreases-lines
decreases-lines l = length l.rest
