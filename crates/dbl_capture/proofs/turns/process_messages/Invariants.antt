use Rattle.std.proofs.Common.{◌≡◌, ◌≤◌, ◌<◌, Bool, IsTrue, List, Option, Some}
use Rattle.dbl_record.specs.declared.record.Record.{Record}
use Rattle.dbl_source.specs.SourceModel.Standings.{SourceState}
use Rattle.dbl_source.specs.SourceModel.Trace.{Trace}
use Rattle.dbl_offset.specs.Stores.{ExtendsOffsets, HoldsOffset, IsLive, disk_of}
use Rattle.dbl_capture_work.specs.CaptureModel.Entries.{SessionStart}
use Rattle.dbl_capture_work.specs.Works.{HasReadyWork}
use Rattle.dbl_capture_laws.specs.Ends.{HasOwnStored, IsAtPosition}
use Rattle.dbl_capture_laws.specs.Sessions.{InSession}
use Rattle.dbl_capture_laws.specs.Carried.{Beginning}
use Rattle.dbl_capture_laws.specs.Sources.{IsUnderWay}
use Rattle.dbl_capture_laws.specs.Caused.{IsQuiet}
use Rattle.dbl_capture_laws.specs.Awaited.{Awaits}
use Rattle.dbl_capture_laws.specs.Sinks.{IsPutting}
use Rattle.dbl_capture.proofs.turns.process_messages.Given as goal
use Rattle.dbl_capture_laws.specs.Found.{HasConfirmed}

abbrev pub invariant-turns : goal.invariant-turns
invariant-turns g l = record {
  kept : (tell : Bool) (entry : SessionStart) → InSession tell g.S.Source g.K.Sink g.D.Disk entry l.fn.work l.fn.src l.fn.sink l.fn.store → g.S.Source.honest l.src →
      InSession tell g.S.Source g.K.Sink g.D.Disk entry l.work l.src l.sink l.store;
  under_way : (at : Option SourceState) (found : Option Trace) (b : Beginning) → IsUnderWay g.S.Source at found b l.fn.store.offset l.fn.work l.fn.report l.fn.src →
      IsUnderWay g.S.Source at found b l.store.offset l.work l.report l.src;
  awaits : (at : Option SourceState) (found : Option Trace) (b : Beginning) → IsUnderWay g.S.Source at found b l.fn.store.offset l.fn.work l.fn.report l.fn.src → (s : SourceState) → at ≡ Some s →
      Awaits g.S.Source.stands l.fn.work l.fn.src → g.S.Source.honest l.src → Awaits g.S.Source.stands l.work l.src;
  putting : (groups : List (List Record)) (at : Option SourceState) (found : Option Trace) (b : Beginning) → IsPutting g.S.Source g.K.Sink groups at found b l.fn.store.offset l.fn.work l.fn.report l.fn.src l.fn.sink →
      IsPutting g.S.Source g.K.Sink groups at found b l.store.offset l.work l.report l.src l.sink;
  confirmed : (first : SourceState) (found : Option Trace) (b : Beginning) → IsUnderWay g.S.Source (Some first) found b l.fn.store.offset l.fn.work l.fn.report l.fn.src →
      ((s : SourceState) → g.S.Source.stands l.fn.src s → HasConfirmed b.held l.fn.store.offset s) → (t : SourceState) → g.S.Source.stands l.src t → HasConfirmed b.held l.store.offset t;
  quiet : 1 ≤ l._count → IsQuiet (g.S.Source.told l.src);
  ready : HasReadyWork l.work;
  offset_is : l.work.offset ≡ record l.fn.work.offset { lsn = l.work.offset.lsn; end_lsn = l.work.offset.end_lsn };
  stored : HasOwnStored l.fn.work.offset l.fn.store.offset → HasOwnStored l.fn.work.offset l.store.offset;
  position : IsAtPosition l.fn.store.offset l.fn.report → IsAtPosition l.store.offset l.report;
  held : HoldsOffset g.D.Disk l.fn.store l.fn.store.offset → HoldsOffset g.D.Disk l.store l.store.offset;
  now_is : l.work.now_ms ≡ l.fn.work.now_ms;
  since : l.work.since < l.work.every;
  number : l.work.number ≤ l._count;
  messages : l.report.messages ≡ l._count;
  commits : l.report.commits ≤ l.report.messages;
  source_live : IsTrue (g.S.Source.is_live l.src);
  reading : IsTrue (g.S.Source.is_reading l.src);
  sink_live : IsTrue (g.K.Sink.is_live l.sink);
  store_live : IsLive l.store;
  honest : g.S.Source.honest l.src → g.S.Source.honest l.fn.src;
  source_comes : g.S.Source.comes_of l.fn.src l.src;
  sink_comes : g.K.Sink.comes_of l.fn.sink l.sink;
  store_comes : ExtendsOffsets g.D.Disk l.fn.store l.store;
  source_later : g.S.Source.faults l.fn.src ≤ g.S.Source.faults l.src;
  sink_later : g.K.Sink.faults l.fn.sink ≤ g.K.Sink.faults l.sink;
  store_later : g.D.Disk.faults (disk_of l.fn.store) ≤ g.D.Disk.faults (disk_of l.store);
}
