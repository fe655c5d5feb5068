-- What `gen --run` returns and leaves: an `init` of a generated workload, and then a first capture of its tables.
use Rattle.std.specs.Prelude.{◌≡◌, ◌≢◌, ◌⊎◌, ℕ, ℤ, ◌≤◌, max, Option, Some, None, Err, List, [], codes, length}
use Rattle.dbl_lines.specs.declared.status.Status.{Status}
use Rattle.dbl_lines.specs.declared.status.Status.TheVariants.{Done, SourceFailed, TopicsFailed}
use Rattle.dbl_lines.specs.declared.status.Status.TheVariants.{OffsetsFailed, InvalidInput}
use Rattle.dbl_base.specs.Streams.{FaultCounted}
use Rattle.dbl_disk.specs.Model.{DiskModel}
use Rattle.dbl_disk.specs.Disks.{IsOnly}
use Rattle.dbl_journal.specs.Growth.{growth_room}
use Rattle.dbl_model_table.specs.Identities.{default_placeholder}
use Rattle.dbl_cli_commands.specs.declared.commands.CaptureOptions.{CaptureOptions}
use Rattle.dbl_offset_content.specs.declared.offset.Offset.{Offset}
use Rattle.dbl_offset.specs.Stores.{IsStore}
use Rattle.dblog_init.specs.DemoLaws.Made.{IsFreshWal}
use Rattle.dblog_init.specs.declared.disks.Disks.{Disks}
use Rattle.dblog_init.specs.declared.error.InitError.{InitError}
use Rattle.dblog_init.specs.declared.error.InitError.TheVariants.{Failed, InputFailed}
use Rattle.dblog_init.specs.declared.error.Store.TheVariants.{Wal, Topics, Offsets}
use Rattle.dblog_init.specs.Answers as inits
use Rattle.dblog_init.specs.Disks.{AreAtMostMeasured, EndsBeforeWriting, EndsTorn, HasStoredBytes, HoldSomeBytes}
use Rattle.dblog_init.specs.Fresh.{IsEmptyLog, IsEmptyStore}
use Rattle.dblog_connect.specs.Promise.Bounds.{StaysShort}
use Rattle.dblog_connect.specs.Promise.Headline.{GuaranteesAfterCrash}
use Rattle.dblog_connect.specs.declared.asked.Asked.{Asked}
use Rattle.dblog_connect.specs.declared.asked.Asked.TheVariants.{First}
use Rattle.dblog_connect.specs.Asked.{asks_in}
use Rattle.dblog_connect.specs.Disks.{IsTrueAfterCrash}
use Rattle.dblog_connect.specs.Ends.{AreSteady, OnlyRead}
use Rattle.dblog_capture_text.specs.Ends.{IsNormalStatus, IsSessionStatus}
use Rattle.dblog_capture.specs.Runs.{RunsSessionOn}
use Rattle.dblog_capture_text.specs.InitErrors.{SaysInit}

-- ---- the requested session

-- The options of `capture` without arguments.
abbrev pub plain_capture : CaptureOptions
plain_capture = record {
  prefix = codes "demo";
  db = codes "demo";
  placeholder = default_placeholder;
  chunk = 1000;
  every = 100;
  messages = 999999999;
  max_value = None;
  tables = [];
}

-- The session that `capture` without arguments requests.
abbrev pub plainly : Asked
plainly = First plain_capture

-- ---- the `init` part

-- The disk is empty, and a crash leaves it empty.
pub record IsEmptyDisk {D : Type 0} (model : DiskModel D) (disk : D) : Type 0 where
  pub told : model.seen disk ≡ Some []
  pub only : IsOnly [] (model.may_leave disk)

-- The run began on empty disks, and its `init` part was done: the offset's store, which is made last, was stored.
pub record HasMade {W T F : Type 0} (wal_model : DiskModel W) (topics_model : DiskModel T) (offsets_model : DiskModel F)
    (old new : Disks W T F) : Type 0 where
  pub wal_empty : IsEmptyDisk wal_model old.wal
  pub topics_empty : IsEmptyDisk topics_model old.topics
  pub offsets_empty : IsEmptyDisk offsets_model old.offsets
  pub made : (crashed : List ℕ) → offsets_model.may_leave new.offsets crashed → (offset : Option Offset) × IsStore crashed offset

-- ---- the result

-- The disk was empty if its contents were known, and then has a store with these properties, which is all that a crash leaves.
pub record WasMade {D : Type 0} (model : DiskModel D) (Is : List ℕ → Type 0) (old made : D) : Type 0 where
  pub empty : (bytes : List ℕ) → model.seen old ≡ Some bytes → bytes ≡ []
  pub stored : model.seen old ≡ Some [] → HasStoredBytes model Is made

-- The answer of `init` for these disks and for this workload as its input.
abbrev pub AnswersWorkload : List ℕ → Option (List ℕ) → Option (List ℕ) → Option (List ℕ) → inits.InitEnd → Type 0
AnswersWorkload workload told_wal told_topics told_offsets end = (given : inits.InitInput) → given.input ≡ workload
    → told_wal ≡ Some given.wal → told_topics ≡ Some given.topics → told_offsets ≡ Some given.offsets → inits.Answers given end
    ⊎ inits.IsExternalInitEnd end

-- The `init` part was refused or failed, and that was reported as by `init`. A disk whose store wasn't yet to be written was only read. If
-- only the offset's disk failed, it was only read, or the other stores were made and it has a part of its own.
pub record WasRefused {W T F : Type 0} (wal_model : DiskModel W) (topics_model : DiskModel T) (offsets_model : DiskModel F)
    (workload : List ℕ) (old new : Disks W T F) (status : Status) (before after : Option (List ℕ)) : Type 0 where
  pub error : InitError
  pub not_input : error ≢ InputFailed
  pub answers : AnswersWorkload workload (wal_model.seen old.wal) (topics_model.seen old.topics) (offsets_model.seen old.offsets)
      (Err error)
  -- The answer about the workload is right for disks of any contents.
  pub input : inits.AnswersInput workload (Err error) ⊎ (inits.IsBeforeInput (Err error) ⊎ inits.IsExternalInitEnd (Err error))
  pub says : SaysInit error status before after
  pub wal_read : EndsBeforeWriting Wal (Err error) → OnlyRead wal_model old.wal new.wal
  pub topics_read : EndsBeforeWriting Topics (Err error) → OnlyRead topics_model old.topics new.topics
  pub offsets_read : EndsBeforeWriting Offsets (Err error) → OnlyRead offsets_model old.offsets new.offsets
  pub torn : wal_model.seen old.wal ≡ Some [] → topics_model.seen old.topics ≡ Some [] → error ≡ Failed Offsets
      → OnlyRead offsets_model old.offsets new.offsets ⊎ EndsTorn wal_model topics_model offsets_model workload old new

-- The `init` part was done, and the session over its stores, as by `capture` without arguments, had this result. If the disks were empty, a
-- crash leaves what the connector promises of a capture of fresh stores.
pub record WasCaptured {W T F : Type 0} (wal_model : DiskModel W) (topics_model : DiskModel T) (offsets_model : DiskModel F)
    (workload : List ℕ) (now : ℤ) (old new : Disks W T F) (status : Status) (before after : Option (List ℕ)) : Type 0 where
  pub made : Disks W T F
  pub wal_made : WasMade wal_model (IsFreshWal workload) old.wal made.wal
  pub topics_made : WasMade topics_model IsEmptyLog old.topics made.topics
  pub offsets_made : WasMade offsets_model IsEmptyStore old.offsets made.offsets
  pub runs : RunsSessionOn wal_model topics_model offsets_model plainly now made new status before after
  -- If the session ended normally, no call of a disk failed.
  pub steady : IsNormalStatus status → AreSteady wal_model topics_model offsets_model old new
  pub headline : wal_model.seen old.wal ≡ Some [] → topics_model.seen old.topics ≡ Some [] → offsets_model.seen old.offsets ≡ Some []
      → IsTrueAfterCrash wal_model topics_model offsets_model new
      (GuaranteesAfterCrash (status ≡ Done) (asks_in plainly) (IsFreshWal workload) IsEmptyLog IsEmptyStore)

-- The result of a run with this workload: of its `init` part, or of the session after it.
abbrev pub EndsGenerated : {W T F : Type 0} → DiskModel W → DiskModel T → DiskModel F → List ℕ → ℤ → Disks W T F → Disks W T F
    → Status → Option (List ℕ) → Option (List ℕ) → Type 0
EndsGenerated wal_model topics_model offsets_model workload now old new status before after =
    WasRefused wal_model topics_model offsets_model workload old new status before after
    ⊎ WasCaptured wal_model topics_model offsets_model workload now old new status before after

-- The statuses of `gen --run`, for every behaviour of the disks and the output.
abbrev pub IsGeneratedStatus : Status → Type 0
IsGeneratedStatus status = (status ≡ InvalidInput) ⊎ IsSessionStatus status

-- A disk with known contents has no more bytes than before, or than 2^30 past the unset commit byte of its journal, or past 0.
abbrev pub IsMadeShort : Option (List ℕ) → Option (List ℕ) → Type 0
IsMadeShort told_before told_now = (before now : List ℕ) → told_before ≡ Some before → told_now ≡ Some now
    → (length now ≤ max (length before) growth_room) ⊎ StaysShort before now

-- The offset's disk, if its contents are known, has no more bytes than before, or than 2^30.
abbrev pub IsStoreShort : Option (List ℕ) → Option (List ℕ) → Type 0
IsStoreShort told_before told_now = (before now : List ℕ) → told_before ≡ Some before → told_now ≡ Some now
    → length now ≤ max (length before) growth_room

-- A run of `gen --run`, what it leaves of empty disks, of others, and of their sizes and counts of faults.
pub record RunsGenerated {W T F : Type 0} (wal_model : DiskModel W) (topics_model : DiskModel T) (offsets_model : DiskModel F)
    (workload : List ℕ) (now : ℤ) (old new : Disks W T F) (status : Status) (before after : Option (List ℕ)) : Type 0 where
  pub ends : EndsGenerated wal_model topics_model offsets_model workload now old new status before after
  pub headline : HasMade wal_model topics_model offsets_model old new
      → IsTrueAfterCrash wal_model topics_model offsets_model new
      (GuaranteesAfterCrash (status ≡ Done) (asks_in plainly) (IsFreshWal workload) IsEmptyLog IsEmptyStore)
  pub end : inits.InitEnd
  pub full : HoldSomeBytes wal_model topics_model offsets_model old → AreAtMostMeasured wal_model topics_model offsets_model end old new
  pub wal_failed : status ≡ SourceFailed → FaultCounted (wal_model.faults old.wal) (wal_model.faults new.wal)
  pub topics_failed : status ≡ TopicsFailed → FaultCounted (topics_model.faults old.topics) (topics_model.faults new.topics)
  pub offsets_failed : status ≡ OffsetsFailed → FaultCounted (offsets_model.faults old.offsets) (offsets_model.faults new.offsets)
  pub wal_short : IsMadeShort (wal_model.seen old.wal) (wal_model.seen new.wal)
  pub topics_short : IsMadeShort (topics_model.seen old.topics) (topics_model.seen new.topics)
  pub offsets_short : IsStoreShort (offsets_model.seen old.offsets) (offsets_model.seen new.offsets)
