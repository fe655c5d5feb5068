use Rattle.std.proofs.Common.{◌≡◌}
use Rattle.cases_sessions.proofs.script.add_alterations.Given as goal

abbrev pub invariant-loop-item : goal.invariant-loop-item
invariant-loop-item l = l.source.live ≡ l.initial.source.live
