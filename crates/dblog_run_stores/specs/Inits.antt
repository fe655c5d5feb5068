-- What the command `init` returns, writes, and leaves of the disks.
use Rattle.std.specs.Prelude.{◌≡◌, ◌≢◌, ◌⊎◌, ℕ, ◌≤◌, max, Option, Some, Ok, Err, List, [], ◌∷◌, length}
use Rattle.dbl_base.specs.Streams.{FaultCounted}
use Rattle.dbl_disk.specs.Model.{DiskModel}
use Rattle.dbl_journal.specs.Growth.{growth_room}
use Rattle.dbl_journal.specs.Stored.{IsSteady}
use Rattle.dblog_init.specs.declared.disks.Disks.{Disks}
use Rattle.dblog_init.specs.declared.error.InitError.{InitError}
use Rattle.dblog_init.specs.declared.error.InitError.TheVariants as init
use Rattle.dblog_init.specs.declared.error.Store.{Store}
use Rattle.dblog_init.specs.declared.error.Store.TheVariants as store
use Rattle.dblog_init.specs.Answers as inits
use Rattle.dblog_capture_text.specs.InitErrors.{SaysInit, init_line, init_status}
use Rattle.dbl_lines.specs.declared.status.Status.{Status}
use Rattle.dbl_lines.specs.declared.status.Status.TheVariants.{Done, Unsupported, SourceFailed, TopicsFailed}
use Rattle.dbl_lines.specs.declared.status.Status.TheVariants.{OffsetsFailed, StdinFailed, InvalidInput, InvalidStore}
use Rattle.dblog_capture_text.specs.Ends.{store_status}
use Rattle.dblog_streams.specs.Answers.{RunAnswer, done}
use Rattle.dbl_lines.specs.Says.{IsCutShort}

-- The answer of an `init` with this error: the line of the error.
abbrev pub init_fault : InitError → RunAnswer
init_fault e = record { status = init_status e; lines = init_line e ∷ []; one_by_one = [] }

-- The answer of an `init` with this result: nothing, or the line of its error.
abbrev pub init_answer : inits.InitEnd → RunAnswer
init_answer (Ok made) = done []
init_answer (Err e) = init_fault e

-- The answer of `init` for the contents of the three disks and of the input.
abbrev pub AnswersInit : inits.InitInput → RunAnswer → Type 0
AnswersInit given answer = (end : inits.InitEnd) × inits.Answers given end × (answer ≡ init_answer end)

-- The statuses of `init`, for every behaviour of the streams and the disks.
abbrev pub IsInitStatus : Status → Type 0
IsInitStatus status =
    (status ≡ Done) ⊎ ((status ≡ Unsupported) ⊎ ((status ≡ SourceFailed) ⊎ ((status ≡ TopicsFailed) ⊎ ((status ≡ OffsetsFailed)
    ⊎ ((status ≡ StdinFailed) ⊎ ((status ≡ InvalidInput) ⊎ ((status ≡ InvalidStore) ⊎ IsCutShort status)))))))

-- The statuses of an answer about the contents of the input.
abbrev pub IsInitAnswer : Status → Type 0
IsInitAnswer status = (status ≡ Done) ⊎ ((status ≡ Unsupported) ⊎ (status ≡ InvalidInput))

-- The statuses of an `init` that ended before a byte of any disk was written.
abbrev pub IsUnmade : Status → Type 0
IsUnmade status = (status ≡ Unsupported) ⊎ ((status ≡ StdinFailed) ⊎ ((status ≡ InvalidInput) ⊎ (status ≡ InvalidStore)))

-- The statuses of an `init` that ended before a byte of this store's disk was written.
abbrev pub IsUnwritten : Store → Status → Type 0
IsUnwritten store.Wal status = IsUnmade status
IsUnwritten store.Topics status = (status ≡ SourceFailed) ⊎ IsUnmade status
IsUnwritten store.Offsets status = (status ≡ TopicsFailed) ⊎ ((status ≡ SourceFailed) ⊎ IsUnmade status)

-- What an `init` with this status leaves of a disk: bounded contents, the same and not synced if none were to be written yet, and a failure
-- by its status only if its count of faults rose.
pub record IsInitLeft
    {D : Type 0}
    (model : DiskModel D)
    (made : Store)
    (status : Status)
    (old new : D) : Type 0 where
  pub later : model.faults old ≤ model.faults new
  pub cause : status ≡ store_status made → FaultCounted (model.faults old) (model.faults new)
  pub steady : status ≢ store_status made → ¬ IsCutShort status → IsSteady model old new
  pub short : (before after : List ℕ) → model.seen old ≡ Some before → model.seen new ≡ Some after
      → length after ≤ max (length before) growth_room
  pub same : IsUnwritten made status → model.seen new ≡ model.seen old
  pub crash : IsUnwritten made status → (crashed : List ℕ) → model.may_leave new crashed → model.may_leave old crashed
  pub unsynced : IsUnwritten made status → (crashed : List ℕ) → model.may_leave old crashed → model.may_leave new crashed

-- The disk was neither written nor synced: its contents are the same, and a crash leaves exactly what it could leave before.
pub record IsDiskUntouched {D : Type 0} (model : DiskModel D) (old new : D) : Type 0 where
  pub same : model.seen new ≡ model.seen old
  pub crash : (crashed : List ℕ) → model.may_leave new crashed → model.may_leave old crashed
  pub unsynced : (crashed : List ℕ) → model.may_leave old crashed → model.may_leave new crashed

-- Each of the disks was neither written nor synced.
abbrev pub AreUntouched : {W T F : Type 0} → DiskModel W → DiskModel T → DiskModel F → Disks W T F → Disks W T F → Type 0
AreUntouched wal_model topics_model offsets_model old new =
    IsDiskUntouched wal_model old.wal new.wal
    × (IsDiskUntouched topics_model old.topics new.topics × IsDiskUntouched offsets_model old.offsets new.offsets)

-- For private clauses: the status after an `init` with this result.
abbrev pub FinishesInit : inits.InitEnd → Status → Option (List ℕ) → Option (List ℕ) → Type 0
FinishesInit (Ok made) status before after = (status ≡ Done) × (after ≡ before)
FinishesInit (Err e) status before after = SaysInit e status before after

-- The end of a run in which the disk of the source's log failed: that failure's line was to be written.
pub record FailsSource (was now : ℕ) (status : Status) (before after : Option (List ℕ)) : Type 0 where
  pub rose : FaultCounted was now
  pub says : SaysInit (init.Failed store.Wal) status before after
