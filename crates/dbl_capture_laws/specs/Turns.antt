-- What reading and processing the next message returns.
use Rattle.std.specs.Prelude.{◌≡◌, ◌≢◌, ◌⊎◌, ◌+◌, ◌<◌, ◌≤◌, Bool, true, false, Option, Some, None, Result, Ok, Err, List, ◌++◌}
use Rattle.dbl_model_table.specs.declared.change.Commit.{Commit}
use Rattle.dbl_topic.specs.Model.{SinkModel}
use Rattle.dbl_capture_work.specs.Source.Model.{SourceModel}
use Rattle.dbl_capture_work.specs.Disk.Model.{DiskModel}
use Rattle.dbl_capture_work.specs.ModelCommit.Past.{begin_of}
use Rattle.dbl_capture_work.specs.SourceModel.Stated.{to_state}
use Rattle.dbl_capture_work.specs.OffsetStore.Stores.{StoreOn}
use Rattle.dbl_capture_work.specs.CaptureModel.Entries.{SessionStart}
use Rattle.dbl_capture_work.specs.CaptureModel.Stages.{read_at, next_offset}
use Rattle.dbl_capture_work.specs.declared.halt.Halt.{Halt}
use Rattle.dbl_capture_work.specs.declared.report.Report.{Report}
use Rattle.dbl_capture_work.specs.declared.work.SessionState.{SessionState}
use Rattle.dbl_capture_work.specs.Follow.declared.window.Window.TheVariants.{Absent}
use Rattle.dbl_capture_laws.specs.Sessions.{InSession}

-- ---- the next message

-- The report is unchanged, or counts one message more, which may have ended a commit.
abbrev pub IsCountedNext : Result (Option Bool) Halt → Report → Report → Type 0
IsCountedNext (Ok None) before after = after ≡ before
IsCountedNext (Ok (Some due)) before after = (after.messages ≡ before.messages + 1) × (after.commits ≤ before.commits + 1)
    × (after.position ≡ before.position)
IsCountedNext (Err h) before after =
    (before.messages ≤ after.messages) × (after.messages ≤ before.messages + 1) × (after.commits ≡ before.commits)
    × (after.position ≡ before.position)

-- What reading and following leave unchanged in the session's state.
pub record IsNextOf (old new : SessionState) : Type 0 where
  pub offset_is : new.offset ≡ record old.offset { lsn = new.offset.lsn; end_lsn = new.offset.end_lsn }
  pub number_is : new.number ≡ old.number
  pub every_is : new.every ≡ old.every
  pub now_is : new.now_ms ≡ old.now_ms

-- A window waited for its watermarks, and none does now.
abbrev pub HasClosed : SessionState → SessionState → Type 0
HasClosed old new = (old.follower.window ≢ Absent) × (new.follower.window ≡ Absent)

-- The offset is due if and only if a window was closed, or `every` commits were followed since the last store; never were more.
abbrev pub IsDue : SessionState → SessionState → Option Bool → Type 0
IsDue old new None = new ≡ old
IsDue old new (Some due) =
    ((due ≡ false) × (new.since < new.every) × (HasClosed old new → ⊥))
    ⊎ ((due ≡ true) × (new.since ≤ new.every) × (HasClosed old new ⊎ (new.every ≤ new.since)))

-- ---- the end

-- All commits that existed when the session began were read, and perhaps others, and no transaction is open.
pub record HasReadAllAt {S K D : Type 0} (tell : Bool) (source_model : SourceModel S) (sink_model : SinkModel K)
    (model : DiskModel D) (entry : SessionStart) (work : SessionState) (src : S) (sink : K) (store : StoreOn D) : Type 0 where
  pub is : InSession tell source_model sink_model model entry work src sink store
  pub closed : begin_of is.stage.messages ≡ None
  pub more : List Commit
  pub all : read_at is.stage ≡ to_state is.stage.first.infos is.stage.first.lsn entry.history ++ more

-- ---- stored and confirmed

-- The session has stored the next offset, and confirmed it.
pub record IsSettled {S K D : Type 0} (tell : Bool) (source_model : SourceModel S) (sink_model : SinkModel K)
    (model : DiskModel D) (entry : SessionStart) (work : SessionState) (src : S) (sink : K) (store : StoreOn D) : Type 0 where
  pub is : InSession tell source_model sink_model model entry work src sink store
  pub stored_is : is.stage.stored ≡ next_offset is.stage
  pub confirmed : is.stage.lsn.0 ≤ is.stage.confirmed.0

-- The session has stored and confirmed the next offset, and read all commits that existed when it began.
pub record IsSettledWhole {S K D : Type 0} (tell : Bool) (source_model : SourceModel S) (sink_model : SinkModel K)
    (model : DiskModel D) (entry : SessionStart) (work : SessionState) (src : S) (sink : K) (store : StoreOn D) : Type 0 where
  pub settled : IsSettled tell source_model sink_model model entry work src sink store
  pub closed : begin_of settled.is.stage.messages ≡ None
  pub more : List Commit
  pub all : read_at settled.is.stage ≡ to_state settled.is.stage.first.infos settled.is.stage.first.lsn entry.history ++ more
