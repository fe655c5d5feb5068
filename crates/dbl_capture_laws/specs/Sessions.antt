-- A session between two of its calls, over any source, sink and store, and what these may leave when it ends.
use Rattle.std.specs.Prelude.{◌≡◌, ◌⊎◌, Bool, IsTrue, Option, Some, None, List, ◌++◌, map}
use Rattle.dbl_model_table.specs.declared.config.Config.{Config}
use Rattle.dbl_model_table.specs.declared.table.TableInfo.{TableInfo}
use Rattle.dbl_record.specs.declared.record.Record.{Record}
use Rattle.dbl_record.specs.Cuts.{cut}
use Rattle.dbl_topic.specs.Model.{SinkModel}
use Rattle.dbl_capture_work.specs.Source.Model.{SourceModel}
use Rattle.dbl_capture_work.specs.Disk.Model.{DiskModel}
use Rattle.dbl_capture_work.specs.ModelHistory.Fit.{AreInfosOf}
use Rattle.dbl_capture_work.specs.ModelHistory.History.{History}
use Rattle.dbl_capture_work.specs.Offset.declared.offset.Offset.{Offset}
use Rattle.dbl_capture_work.specs.OffsetStore.Stores.{StoreOn, HoldsOffset, LeavesOffset, disk_of}
use Rattle.dbl_capture_work.specs.SourceModel.Growth.{marks_in}
use Rattle.dbl_capture_work.specs.SourceModel.Standings.{SourceState, CrashState}
use Rattle.dbl_capture_work.specs.CaptureModel.Entries.{SessionStart, WasFaithful}
use Rattle.dbl_capture_work.specs.CaptureModel.Stages.{Stage}
use Rattle.dbl_capture_work.specs.CaptureModel.Going.{IsGoing}
use Rattle.dbl_capture_work.specs.CaptureModel.Outcomes.{FollowsSession, HasFewMarks}
use Rattle.dbl_capture_work.specs.declared.work.SessionState.{SessionState}
use Rattle.dbl_capture_work.specs.Works.{HasOpen, IsWork, rest_in}

-- The source's state at a stage of the session.
abbrev pub state_at_stage : Stage → SourceState
state_at_stage stage = record {
  history = stage.history;
  confirmed = stage.confirmed;
  reading = Some (record { after = stage.first.lsn; messages = stage.messages });
}

-- The session's state agrees with the stage.
pub record IsWorkOf (entry : SessionStart) (stage : Stage) (work : SessionState) : Type 0 where
  pub is : IsWork stage.first.lsn stage.messages work
  pub offset_is : work.offset ≡ record stage.first { lsn = stage.lsn; end_lsn = stage.end_lsn }
  pub follower_is : work.follower ≡ stage.following
  pub now_is : work.now_ms ≡ entry.now
  pub chunk_is : work.chunk ≡ entry.config.chunk
  pub every_is : work.every ≡ entry.config.every
  pub since_is : work.since ≡ stage.since
  pub number_is : work.number ≡ stage.number

-- The invariant of a session: its stage agrees with the source's state, and with the contents of sink and store if these are known. Within
-- a transaction the stage is that of the session before the transaction, but for the messages read since; the sink has besides what was
-- appended of the transaction.
pub record InSession {S K D : Type 0} (tell : Bool) (source_model : SourceModel S) (sink_model : SinkModel K)
    (model : DiskModel D) (entry : SessionStart) (work : SessionState) (src : S) (sink : K) (store : StoreOn D) : Type 0 where
  pub stage : Stage
  pub ahead : HasOpen stage.messages work
  pub source_is : source_model.stands src (state_at_stage stage)
  pub sink_is : IsTrue tell → sink_model.holds sink (stage.groups ++ cut ahead.put)
  pub store_is : IsTrue tell → HoldsOffset model store (Some stage.stored)
  pub work_is : IsWorkOf entry stage (rest_in ahead)
  pub going : IsGoing entry stage

-- ---- what is captured

-- The tables that a session captures: those of the offset that it found, or else the configured ones.
abbrev pub Captures : Config → History → Option Offset → List TableInfo → Type 0
Captures config history None infos = (map (λ info. info.name) infos ≡ config.tables) × AreInfosOf history infos
Captures config history (Some offset) infos = infos ≡ offset.infos

-- The session captures these tables.
abbrev pub IsCapturing : SessionStart → List TableInfo → Type 0
IsCapturing entry infos = Captures entry.config entry.history entry.offset infos

-- ---- what is left

-- No more watermarks were added than the captured tables and their rows allow.
pub record HasAddedFew (entry : SessionStart) (left : CrashState) : Type 0 where
  pub infos : List TableInfo
  pub captured : IsCapturing entry infos
  pub few : HasFewMarks infos entry.config.chunk entry.history left.history

-- No watermark was added, or few.
abbrev pub AddsFewOrNoMarks : SessionStart → CrashState → Type 0
AddsFewOrNoMarks entry left = (marks_in left.history.commits ≡ marks_in entry.history.commits) ⊎ HasAddedFew entry left

-- What the source may leave has few watermarks added; and if sink and store are known and were faithful, what the three may leave keeps the
-- session's guarantees. At least one outcome exists.
pub record LeavesBy {S K D : Type 0} (tell : Bool) (source_model : SourceModel S) (sink_model : SinkModel K)
    (model : DiskModel D) (entry : SessionStart) (src : S) (sink : K) (store : StoreOn D) : Type 0 where
  pub follows : IsTrue tell → WasFaithful entry → LeavesOffset model (disk_of store) (λ offset.
      (left : CrashState) (groups : List (List Record)) → source_model.may_leave src left → sink_model.may_leave sink groups
      → FollowsSession entry left groups offset)
  pub few : (left : CrashState) → source_model.may_leave src left → AddsFewOrNoMarks entry left
  pub some_source : (left : CrashState) × source_model.may_leave src left
  pub some_sink : IsTrue tell → (groups : List (List Record)) × sink_model.may_leave sink groups

-- What the three may leave keeps the session's guarantees, if the stores were faithful; at least one outcome exists.
pub record LeavesGoing {S K D : Type 0} (may_source : S → CrashState → Type 0) (may_sink : K → List (List Record) → Type 0)
    (model : DiskModel D) (entry : SessionStart) (src : S) (sink : K) (store : StoreOn D) : Type 0 where
  pub follows : WasFaithful entry → LeavesOffset model (disk_of store) (λ offset.
      (left : CrashState) (groups : List (List Record)) → may_source src left → may_sink sink groups
      → FollowsSession entry left groups offset)
  pub some_source : (left : CrashState) × may_source src left
  pub some_sink : (groups : List (List Record)) × may_sink sink groups
