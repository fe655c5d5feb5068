-- How a session ends.
use Rattle.std.specs.Prelude.{◌≡◌, ◌⊎◌, ℕ, ◌+◌, ◌≤◌, Bool, true, false, not, position, Option, Some, None, Result, Err, List}
use Rattle.std.specs.List.{AllByRecursion}
use Rattle.dbl_record.specs.declared.record.Record.{Record}
use Rattle.dbl_capture_work.specs.Disk.Model.{DiskModel}
use Rattle.dbl_capture_work.specs.ModelHistory.declared.cursor.Cursor.{Cursor}
use Rattle.dbl_capture_work.specs.SourceModel.Standings.{CrashState}
use Rattle.dbl_capture_work.specs.Offset.declared.offset.Offset.{Offset}
use Rattle.dbl_capture_work.specs.OffsetStore.Stores.{HoldsOffset, StoreOn, LeavesOffset, disk_of}
use Rattle.dbl_capture_work.specs.Follow.declared.window.Window.{Window}
use Rattle.dbl_capture_work.specs.Follow.declared.window.Window.TheVariants.{Absent, Armed, Open}
use Rattle.dbl_capture_work.specs.CaptureModel.Entries.{SessionStart, WasFaithful}
use Rattle.dbl_capture_work.specs.CaptureModel.Outcomes.{IsComplete}
use Rattle.dbl_capture_work.specs.CaptureModel.Stages.{IsOfSession}
use Rattle.dbl_capture_work.specs.declared.halt.Halt.{Halt}
use Rattle.dbl_capture_work.specs.declared.halt.Halt.TheVariants as halt
use Rattle.dbl_capture_work.specs.declared.report.Report.{Report}
use Rattle.dbl_capture_work.specs.declared.work.SessionState.{SessionState}
use Rattle.dbl_capture_work.specs.Works.{HasReadyWork, next_offset_of}

-- ---- the next window

-- The first table that isn't read to its end, and none while a window waits.
abbrev pub table_to_read : Window → SessionState → Option ℕ
table_to_read Absent work = position (λ cursor. not cursor.done) work.follower.cursors
table_to_read (Armed chunk) work = None
table_to_read (Open chunk) work = None

-- The table is the one whose window is to be read next, or none.
abbrev pub IsTableToRead : SessionState → Option ℕ → Type 0
IsTableToRead work table = table ≡ table_to_read work.follower.window work

-- No window is to be read, because one waits or every table is finished.
abbrev pub HasNoneNext : SessionState → Type 0
HasNoneNext work = table_to_read work.follower.window work ≡ None

-- The session may have read a window, and no other is to be read.
pub record IsArmedNext (old new : SessionState) : Type 0 where
  pub ready : HasReadyWork new
  pub offset_is : new.offset ≡ old.offset
  pub every_is : new.every ≡ old.every
  pub now_is : new.now_ms ≡ old.now_ms
  pub since_is : new.since ≡ old.since
  pub number : new.number ≤ old.number + 1
  pub none_next : HasNoneNext new

-- Every table is read to its end.
abbrev pub AreAllDone : List Cursor → Type 0
AreAllDone cursors = AllByRecursion (λ cursor. cursor.done ≡ true) cursors

-- ---- the store

-- An offset of this session is stored.
pub record HasOwnStored (first : Offset) (stored : Option Offset) : Type 0 where
  pub offset : Offset
  pub is : stored ≡ Some offset
  pub of : IsOfSession first offset

-- The store's cached offset agrees with its disk after the call if it did before, unless the disk failed.
abbrev pub CacheMatchesDisk : {A D : Type 0} → DiskModel D → StoreOn D → StoreOn D → Result A Halt → Type 0
CacheMatchesDisk model old new result = HoldsOffset model old old.offset → (result ≡ Err halt.Offsets → ⊥)
    → HoldsOffset model new new.offset

-- ---- the report

-- The position of a report is that of the last store that was acknowledged, also after an error of the confirm that follows it.
abbrev pub IsReportAt : Bool → Option Offset → Option Offset → SessionState → Report → Report → Type 0
IsReportAt true held stored work before after = (stored ≡ Some (next_offset_of work))
    × (after ≡ record before { position = work.offset.lsn.0 })
IsReportAt false held stored work before after =
    ((stored ≡ held) × (after ≡ before))
    ⊎ ((stored ≡ Some (next_offset_of work)) × (after ≡ record before { position = work.offset.lsn.0 }))

-- The position of the report is the LSN of the stored offset.
abbrev pub IsAtPosition : Option Offset → Report → Type 0
IsAtPosition None report = ⊥
IsAtPosition (Some offset) report = report.position ≡ offset.lsn.0

-- ---- complete

-- What is left has an offset and is complete.
abbrev pub IsCompleteWith : SessionStart → CrashState → List (List Record) → Option Offset → Type 0
IsCompleteWith entry left groups None = ⊥
IsCompleteWith entry left groups (Some offset) = IsComplete entry left groups offset

-- Everything that source, sink and store may leave is complete, if the stores were faithful.
abbrev pub LeavesComplete : {S K D : Type 0} → (S → CrashState → Type 0) → (K → List (List Record) → Type 0) → DiskModel D
    → SessionStart → S → K → StoreOn D → Type 0
LeavesComplete may_source may_sink model entry src sink store =
    WasFaithful entry → LeavesOffset model (disk_of store) (λ offset.
    (left : CrashState) (groups : List (List Record)) → may_source src left → may_sink sink groups
    → IsCompleteWith entry left groups offset)
