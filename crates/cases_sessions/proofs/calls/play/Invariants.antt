use Rattle.std.proofs.Common.{◌≡◌, true, IsTrue}
use Rattle.cases_sessions.proofs.calls.play.Given as goal

abbrev pub invariant-loop-item : goal.invariant-loop-item
invariant-loop-item g l = record {
  live : IsTrue (g.S.Source.is_live l.source);
  reading : l.reading ≡ true → IsTrue (g.S.Source.is_reading l.source);
}
