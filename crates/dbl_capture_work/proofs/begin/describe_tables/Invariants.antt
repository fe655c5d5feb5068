use Rattle.std.proofs.Common.{◌≡◌, ◌≤◌, [], length, take, map, IsTrue}
use Rattle.dbl_model_table.specs.declared.table.TableInfo.{TableInfo}
use Rattle.dbl_source_model.specs.Calls.{Moved}
use Rattle.dbl_source_model.specs.Leaves.{Leaves, LeavesSome}
use Rattle.dbl_source_model.specs.Standings.{SourceState, HasState}
use Rattle.dbl_source_model.specs.Trace.{IsTakenBy}
use Rattle.dbl_capture_work.specs.Begins.{AreCounted, AreInfosAt, MayRest}
use Rattle.dbl_capture_work.proofs.begin.describe_tables.Given as goal

abbrev pub invariant-tables : goal.invariant-tables
invariant-tables g l = record {
  described : (s : SourceState) → g.S.Source.stands l.fn.src s → HasState g.S.Source.stands l.src (λ t. Moved s t × AreInfosAt t.history (length s.history.commits) l.infos.items l.versions.items);
  counted : AreCounted l.infos.items l.versions.items;
  named : map (λ (info : TableInfo). info.name) l.infos.items ≡ take l.name-index l.names.items;
  left : Leaves g.S.Source.stands g.S.Source.may_leave l.fn.src l.src MayRest;
  some : LeavesSome g.S.Source.stands g.S.Source.may_leave l.fn.src l.src;
  taken : IsTakenBy [] (g.S.Source.told l.fn.src) (g.S.Source.told l.src);
  is_live : IsTrue (g.S.Source.is_live l.src);
  was_honest : g.S.Source.honest l.src → g.S.Source.honest l.fn.src;
  comes : g.S.Source.comes_of l.fn.src l.src;
  later : g.S.Source.faults l.fn.src ≤ g.S.Source.faults l.src;
}
