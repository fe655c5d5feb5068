-- A session in progress over a source and a sink, by the source's trace and state and the sink's contents.
use Rattle.std.specs.Prelude.{◌≡◌, ℤ, Option, Some, Err, List}
use Rattle.dbl_record.specs.declared.record.Record.{Record}
use Rattle.dbl_topic.specs.Model.{SinkModel}
use Rattle.dbl_model_table.specs.declared.config.Config.{Config}
use Rattle.dbl_capture_work.specs.Source.Model.{SourceModel}
use Rattle.dbl_capture_work.specs.SourceModel.Standings.{SourceState, HasState}
use Rattle.dbl_capture_work.specs.SourceModel.Trace.{Trace}
use Rattle.dbl_capture_work.specs.Offset.declared.offset.Offset.{Offset}
use Rattle.dbl_capture_work.specs.declared.halt.Halt.{Halt}
use Rattle.dbl_capture_work.specs.declared.halt.Halt.TheVariants as halt
use Rattle.dbl_capture_work.specs.declared.report.Ending.{Ending}
use Rattle.dbl_capture_work.specs.declared.report.Report.{Report}
use Rattle.dbl_capture_work.specs.declared.work.SessionState.{SessionState}
use Rattle.dbl_capture_work.specs.Works.{rest_in}
use Rattle.dbl_capture_laws.specs.Gained.{Gains, ReportsGroups}
use Rattle.dbl_capture_laws.specs.Tallied.{HasPassed, IsTallied, IsTalliedAfter}
use Rattle.dbl_capture_laws.specs.Failing.{FailsNext}
use Rattle.dbl_capture_laws.specs.Carried.{Beginning}
use Rattle.dbl_capture_laws.specs.Sources.{HasCommitted, IsUnderWay}
use Rattle.dbl_capture_laws.specs.Puts.{HasPut}

-- The invariant between two messages: the sink has gained the records of the commits that the messages read so far state, and those of the
-- open transaction that were appended.
pub record IsPutting {S K : Type 0} (source_model : SourceModel S) (sink_model : SinkModel K) (groups : List (List Record))
    (at : Option SourceState) (found : Option Trace) (b : Beginning) (stored : Option Offset)
    (work : SessionState) (report : Report) (src : S) (sink : K) : Type 0 where
  pub way : IsUnderWay source_model at found b stored work report src
  pub put : HasPut sink_model.holds groups b.first.lsn way.messages (rest_in way.ahead) way.ahead.put report sink

-- The invariant after a commit: the sink has gained the records of all commits that were followed.
pub record HasPutCommit {S K : Type 0} (source_model : SourceModel S) (sink_model : SinkModel K) (groups : List (List Record))
    (at : Option SourceState) (found : Option Trace) (b : Beginning) (stored : Option Offset)
    (work : SessionState) (report : Report) (src : S) (sink : K) : Type 0 where
  pub way : HasCommitted source_model at found b stored work report src
  pub put : HasPut sink_model.holds groups b.first.lsn way.messages (rest_in way.ahead) way.ahead.put report sink

-- The session stopped: what is left of the sink, and what the report counts of it, with the commits unless an append failed; then the sink
-- has at least the commits that the stored offset passed, and the batch that failed is the next one.
pub record HasHaltedPut {S K : Type 0} (source_model : SourceModel S) (sink_model : SinkModel K)
    (groups : List (List Record)) (at : Option SourceState) (config : Config) (now : ℤ) (held stored : Option Offset)
    (report : Report) (src : S) (sink : K) (h : Halt) : Type 0 where
  pub grouped : (left : List (List Record)) → sink_model.may_leave sink left → Gains config now held stored groups left
  pub counted : ReportsGroups {A = Ending} sink_model.holds sink_model.may_leave groups (Err h) sink report
  pub tallied : (h ≡ halt.Sink → ⊥) → IsTallied sink_model.holds groups config now held stored report (source_model.told src) sink (Err h)
  pub tallied_stood : (h ≡ halt.Sink → ⊥) → (s t : SourceState) → at ≡ Some s → source_model.stands src t
      → IsTalliedAfter sink_model.holds groups config now held stored report t sink (Err h)
  pub passed : h ≡ halt.Sink → (s t : SourceState) → at ≡ Some s → source_model.stands src t → (left : List (List Record))
      → sink_model.may_leave sink left → HasPassed groups left config now held stored t
  pub failed : h ≡ halt.Sink → (s : SourceState) → at ≡ Some s
      → HasState source_model.stands src (FailsNext sink_model groups config now held stored sink)
