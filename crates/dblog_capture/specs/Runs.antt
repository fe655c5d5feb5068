-- A run of `capture` or `resume`: how its session ended, what that says of the disks, and its output.
use Rattle.std.specs.Prelude.{◌≡◌, ℕ, ℤ, IfOk, IfErr, MatchResult, Option, Some, List}
use Rattle.dbl_lines.specs.declared.status.Status.{Status}
use Rattle.dbl_lines.specs.declared.status.Status.TheVariants.{Done, SourceFailed, TopicsFailed, OffsetsFailed}
use Rattle.dbl_base.specs.Streams.{FaultCounted}
use Rattle.dbl_disk.specs.Model.{DiskModel}
use Rattle.dblog_init.specs.declared.disks.Disks.{Disks}
use Rattle.dblog_connect.specs.Promise.Bounds.{IsBounded, IsStoreBounded}
use Rattle.dblog_connect.specs.Promise.Headline.{GuaranteesAfterCrash}
use Rattle.dblog_connect.specs.Promise.Kept.{AreKept}
use Rattle.dblog_connect.specs.declared.asked.Asked.{Asked}
use Rattle.dblog_connect.specs.Asked.{asks_in, budget_of}
use Rattle.dblog_connect.specs.Disks.{AreKeptDisks, IsTrueAfterCrash}
use Rattle.dblog_connect.specs.Ends.{AddsFew, AreSteady, ConnectEnd, EndsBefore, GainsRecords, HasBegun}
use Rattle.dblog_connect.specs.Ends.{HasRun, IsKeptError, IsReported, IsSpent, IsWrongSource}
use Rattle.dblog_connect.specs.Errors.{IsConnectError, IsConnectRefusal}
use Rattle.dblog_connect.specs.Refusals.{ExceedsMaximum, IsRefusedNext}
use Rattle.dblog_capture_text.specs.Ends.{IsNormalStatus, SaysSession}

-- The answer for disks with these contents, by what a crash might leave before the run and may leave after it.
pub record AnswersCapture (asked : Asked) (now : ℤ) (wals logs new_wals new_logs new_stores : List ℕ → Type 0) (w t f : List ℕ)
    (end : ConnectEnd) : Type 0 where
  -- Why the session ended.
  pub told : MatchResult end (HasRun asked now new_wals new_logs new_stores w t f) (EndsBefore asked now new_wals new_logs new_stores w t f)
  -- Which record was refused, if one was.
  pub refuses : IfErr end (IsRefusedNext asked now new_wals w t f)
  -- What the topic log gained, and how few watermarks the source's log did.
  pub gains : (begun : HasBegun asked w t f) → GainsRecords asked now logs new_logs w t f begun
  pub marks : AddsFew asked wals new_wals w t f

-- The answer for crash-consistent disks: its report is right, and some errors never come.
pub record AnswersKept (asked : Asked) (now : ℤ) (new_wals new_logs new_stores : List ℕ → Type 0) (w t f : List ℕ)
    (end : ConnectEnd) : Type 0 where
  pub report : IfOk end (IsReported asked now new_wals new_logs new_stores w t f)
  pub never : IfErr end (IsKeptError asked now new_wals new_logs new_stores w t f)

-- Nothing was written: a crash leaves nothing of the disks that it couldn't leave before.
pub record WroteNothing (wals logs stores new_wals new_logs new_stores : List ℕ → Type 0) : Type 0 where
  pub wal : (crashed : List ℕ) → new_wals crashed → wals crashed
  pub topics : (crashed : List ℕ) → new_logs crashed → logs crashed
  pub offsets : (crashed : List ℕ) → new_stores crashed → stores crashed

-- The session had this result, which was written, by the contents of the disks and what a crash may leave before and after.
pub record RunsSession (asked : Asked) (now : ℤ) (told_wal told_topics told_offsets : Option (List ℕ))
    (wals logs stores new_wals new_logs new_stores : List ℕ → Type 0)
    (status : Status) (before after : Option (List ℕ)) : Type 0 where
  pub end : ConnectEnd
  pub says : SaysSession end status before after
  pub answers : (w t f : List ℕ) → told_wal ≡ Some w → told_topics ≡ Some t → told_offsets ≡ Some f
      → AnswersCapture asked now wals logs new_wals new_logs new_stores w t f end
  pub kept : AreKept told_wal told_topics told_offsets wals logs stores → (w t f : List ℕ) → told_wal ≡ Some w → told_topics ≡ Some t
      → told_offsets ≡ Some f
      → AnswersKept asked now new_wals new_logs new_stores w t f end
  -- If the source's disk has known contents: why it has no valid log.
  pub wal_wrong : (w : List ℕ) → told_wal ≡ Some w → IfErr end (IsWrongSource w)
  -- If the disks have contents with which the session can't begin, nothing was written.
  pub refused : IfErr end (λ e. IsConnectRefusal e → WroteNothing wals logs stores new_wals new_logs new_stores)
  pub spent : IfOk end (IsSpent (budget_of asked))
  pub kinds : IfErr end IsConnectError
  -- A record is refused only if its value is longer than the arguments allow.
  pub exceeds : IfErr end (ExceedsMaximum asked)

-- The session over these disks had this result, which was written.
abbrev pub RunsSessionOn : {W T F : Type 0} → DiskModel W → DiskModel T → DiskModel F → Asked → ℤ → Disks W T F → Disks W T F
    → Status → Option (List ℕ) → Option (List ℕ) → Type 0
RunsSessionOn wal_model topics_model offsets_model asked now old new status before after =
    RunsSession asked now (wal_model.seen old.wal) (topics_model.seen old.topics) (offsets_model.seen old.offsets)
    (wal_model.may_leave old.wal) (topics_model.may_leave old.topics) (offsets_model.may_leave old.offsets)
    (wal_model.may_leave new.wal) (topics_model.may_leave new.topics) (offsets_model.may_leave new.offsets) status before after

-- A run of a session, what it leaves of crash-consistent disks, and their sizes and counts of faults.
pub record RunsConnected {W T F : Type 0} (wal_model : DiskModel W) (topics_model : DiskModel T) (offsets_model : DiskModel F)
    (asked : Asked) (now : ℤ) (old new : Disks W T F) (status : Status) (before after : Option (List ℕ)) : Type 0 where
  pub headline : AreKeptDisks wal_model topics_model offsets_model old → IsTrueAfterCrash wal_model topics_model offsets_model new
      (GuaranteesAfterCrash (status ≡ Done) (asks_in asked) (wal_model.may_leave old.wal) (topics_model.may_leave old.topics)
      (offsets_model.may_leave old.offsets))
  pub kept : AreKeptDisks wal_model topics_model offsets_model old → AreKeptDisks wal_model topics_model offsets_model new
  pub runs : RunsSessionOn wal_model topics_model offsets_model asked now old new status before after
  pub wal_failed : status ≡ SourceFailed → FaultCounted (wal_model.faults old.wal) (wal_model.faults new.wal)
  pub topics_failed : status ≡ TopicsFailed → FaultCounted (topics_model.faults old.topics) (topics_model.faults new.topics)
  pub offsets_failed : status ≡ OffsetsFailed → FaultCounted (offsets_model.faults old.offsets) (offsets_model.faults new.offsets)
  -- If the session ended normally, no call of a disk failed.
  pub steady : IsNormalStatus status → AreSteady wal_model topics_model offsets_model old new
  pub wal_bounded : IsBounded (wal_model.seen old.wal) (wal_model.seen new.wal)
  pub topics_bounded : IsBounded (topics_model.seen old.topics) (topics_model.seen new.topics)
  pub offsets_bounded : IsStoreBounded (offsets_model.seen old.offsets) (offsets_model.seen new.offsets)
