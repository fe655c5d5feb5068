-- A session in progress over a source, by the source's trace and state.
use Rattle.std.specs.Prelude.{◌≡◌, ℤ, ◌≤◌, true, false, Bool, Option, Some, None, List}
use Rattle.dbl_pgmsg.specs.declared.messages.Message.{Message}
use Rattle.dbl_model_table.specs.declared.config.Config.{Config}
use Rattle.dbl_capture_work.specs.Source.Model.{SourceModel}
use Rattle.dbl_capture_work.specs.SourceModel.Standings.{SourceState, HasState}
use Rattle.dbl_capture_work.specs.SourceModel.Trace.{Trace}
use Rattle.dbl_capture_work.specs.Offset.declared.offset.Offset.{Offset}
use Rattle.dbl_capture_work.specs.declared.halt.Halt.{Halt}
use Rattle.dbl_capture_work.specs.declared.report.Report.{Report}
use Rattle.dbl_capture_work.specs.declared.work.SessionState.{SessionState}
use Rattle.dbl_capture_work.specs.Works.{HasOpen, next_offset_of, rest_in}
use Rattle.dbl_capture_laws.specs.Carried.{HasReadSinceStart, Beginning, HasHaltedStood, HasHaltedTold, IsReadUpTo, IsResting, StandsAt}

-- The invariant between two messages, also within a transaction: those read so far are in the source's trace, and in its state if that was
-- known at first.
pub record IsUnderWay {S : Type 0} (source_model : SourceModel S) (at : Option SourceState) (found : Option Trace) (b : Beginning)
    (stored : Option Offset) (work : SessionState) (report : Report) (src : S) : Type 0 where
  pub messages : List Message
  pub ahead : HasOpen messages work
  pub is : IsResting b messages stored (rest_in ahead) report
  pub tells : HasReadSinceStart found (source_model.told src) messages
  pub stood : (s : SourceState) → at ≡ Some s → HasState source_model.stands src (StandsAt b messages)

-- The invariant after a commit, which may have closed a window.
pub record HasCommitted {S : Type 0} (source_model : SourceModel S) (at : Option SourceState) (found : Option Trace) (b : Beginning)
    (stored : Option Offset) (work : SessionState) (report : Report) (src : S) : Type 0 where
  pub messages : List Message
  pub ahead : HasOpen messages work
  pub is : IsReadUpTo b messages stored (rest_in ahead) report
  pub tells : HasReadSinceStart found (source_model.told src) messages
  pub stood : (s : SourceState) → at ≡ Some s → HasState source_model.stands src (StandsAt b messages)

-- The invariant after the next message, or none, by whether the offset is due.
abbrev pub GoesOn : {S : Type 0} → SourceModel S → Option SourceState → Option Trace → Beginning → Option Offset → SessionState → Report
    → S → Option Bool → Type 0
GoesOn source_model at found b stored work report src (Some true) = HasCommitted source_model at found b stored work report src
GoesOn source_model at found b stored work report src (Some false) = IsUnderWay source_model at found b stored work report src
GoesOn source_model at found b stored work report src None = IsUnderWay source_model at found b stored work report src

-- The next offset is stored and confirmed.
pub record HasSettledAll {S : Type 0} (source_model : SourceModel S) (at : Option SourceState) (found : Option Trace) (b : Beginning)
    (stored : Option Offset) (work : SessionState) (report : Report) (src : S) : Type 0 where
  pub messages : List Message
  pub stored_is : stored ≡ Some (next_offset_of work)
  pub ahead : HasOpen messages work
  pub is : IsResting b messages stored (rest_in ahead) report
  pub tells : HasReadSinceStart found (source_model.told src) messages
  pub stood : (s : SourceState) → at ≡ Some s
      → HasState source_model.stands src (λ t. StandsAt b messages t × (work.offset.lsn.0 ≤ t.confirmed.0))

-- The session stopped: its report and its error agree with the source's trace and with its state.
pub record HasHalted {S : Type 0} (source_model : SourceModel S) (at : Option SourceState) (found : Option Trace)
    (config : Config) (now : ℤ) (held stored : Option Offset) (report : Report) (src : S) (h : Halt) : Type 0 where
  pub tells : HasHaltedTold config now held stored found (source_model.told src) report h
  pub stood : (s t : SourceState) → at ≡ Some s → source_model.stands src t → HasHaltedStood config now held stored report s t h
