use Rattle.std.proofs.Common.{IsTrue}
use Rattle.cases_sessions.proofs.demo.run_groups.Given as goal

abbrev pub invariant-loop-group : goal.invariant-loop-group
invariant-loop-group l = record {
  live : IsTrue l.source.live;
}
