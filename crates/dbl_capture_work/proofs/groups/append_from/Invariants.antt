use Rattle.std.proofs.Common.{◌≡◌, ◌≤◌, ◌++◌, IsTrue}
use Rattle.std.specs.Vec.Iter.{into_iter_items}
use Rattle.dbl_capture_work.specs.Groups.{HasLastsAtItsEnd, IsGathered}
use Rattle.dbl_capture_work.proofs.Putting.{IsPut}
use Rattle.dbl_capture_work.proofs.groups.append_from.Given as goal

abbrev pub invariant-records : goal.invariant-records
invariant-records g l = record {
  is_gathered : IsGathered l.gathered;
  put : IsPut g.K.Sink.holds l.snapshot (l.fn.gathered.items.items ++ into_iter_items l.fn.rest) l.gathered.items.items (into_iter_items l.item-iterator)
      l.fn.sink l.sink l.fn.report l.report;
  counts : HasLastsAtItsEnd (l.fn.gathered.items.items ++ into_iter_items l.fn.rest) → l.report.chunks ≡ l.fn.report.chunks;
  is_live : IsTrue (g.K.Sink.is_live l.sink);
  comes : g.K.Sink.comes_of l.fn.sink l.sink;
  later : g.K.Sink.faults l.fn.sink ≤ g.K.Sink.faults l.sink;
}
