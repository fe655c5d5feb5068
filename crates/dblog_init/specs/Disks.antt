-- What `init` leaves of a disk.
use Rattle.std.specs.Prelude.{◌≡◌, ◌≢◌, ◌⊎◌, ℕ, ◌≤◌, max, Some, Ok, Err, List, [], length}
use Rattle.dbl_base.specs.Streams.{FaultCounted}
use Rattle.dbl_disk.specs.Model.{DiskModel}
use Rattle.dbl_disk.specs.Disks.{Follows, IsOnly}
use Rattle.dbl_journal.specs.Stored.{IsSteady}
use Rattle.dbl_offset.specs.Stores.{BeginsTorn}
use Rattle.dbl_demo.specs.DemoLaws.Made.{IsFreshWal}
use Rattle.dblog_init.specs.declared.disks.Disks.{Disks}
use Rattle.dblog_init.specs.declared.error.InitError.TheVariants.{Failed, Memory}
use Rattle.dblog_init.specs.declared.error.Store.{Store}
use Rattle.dblog_init.specs.declared.error.Store.TheVariants.{Wal, Topics, Offsets}
use Rattle.dblog_init.specs.Answers.{InitEnd}
use Rattle.dblog_init.specs.Fresh.{IsEmptyLog}
use Rattle.dbl_demo.specs.Begun.{first_room}
use Rattle.dbl_journal.specs.Calls.{Keeps}

-- The disk was called for its length at most: its contents are the same, and it wasn't synced, as a crash leaves what it could leave before.
pub record IsAtMostMeasured {D : Type 0} (model : DiskModel D) (store : Store) (end : InitEnd) (old new : D) : Type 0 where
  pub keeps : Keeps model (end ≡ Err (Failed store)) old new
  pub unsynced : (crashed : List ℕ) → model.may_leave old crashed → model.may_leave new crashed

-- Each disk was called for its length at most.
abbrev pub AreAtMostMeasured : {W T F : Type 0} → DiskModel W → DiskModel T → DiskModel F → InitEnd → Disks W T F → Disks W T F → Type 0
AreAtMostMeasured wal_model topics_model offsets_model end old new =
    IsAtMostMeasured wal_model Wal end old.wal new.wal
    × (IsAtMostMeasured topics_model Topics end old.topics new.topics × IsAtMostMeasured offsets_model Offsets end old.offsets new.offsets)

-- The answer came before a byte of this store's disk was written; once the input was found to be a workload, only the source's log takes
-- memory.
abbrev pub EndsBeforeWriting : Store → InitEnd → Type 0
EndsBeforeWriting store (Ok done) = ⊥
EndsBeforeWriting Wal (Err (Failed failed)) = ⊥
EndsBeforeWriting Wal (Err Memory) = ⊥
EndsBeforeWriting Topics (Err (Failed Wal)) = Unit {0}
EndsBeforeWriting Topics (Err (Failed failed)) = ⊥
EndsBeforeWriting Offsets (Err (Failed Offsets)) = ⊥
EndsBeforeWriting store (Err e) = Unit {0}

-- The disk's count of faults rises only if its failure is the answer, and its known contents have at most 2^30 bytes, or no more than
-- before.
pub record LeavesDisk {D : Type 0} (model : DiskModel D) (store : Store) (end : InitEnd) (old new : D) : Type 0 where
  pub later : model.faults old ≤ model.faults new
  pub cause : end ≡ Err (Failed store) → FaultCounted (model.faults old) (model.faults new)
  pub steady : end ≢ Err (Failed store) → IsSteady model old new
  pub short : (before after : List ℕ) → model.seen old ≡ Some before → model.seen new ≡ Some after
      → length after ≤ max (length before) first_room

-- The disk has known contents, and isn't empty.
abbrev pub HoldsBytes : {D : Type 0} → DiskModel D → D → Type 0
HoldsBytes model disk = (bytes : List ℕ) × (model.seen disk ≡ Some bytes) × (bytes ≢ [])

-- One of the disks has known contents, and isn't empty.
abbrev pub HoldSomeBytes : {W T F : Type 0} → DiskModel W → DiskModel T → DiskModel F → Disks W T F → Type 0
HoldSomeBytes wal_model topics_model offsets_model disks =
    HoldsBytes wal_model disks.wal ⊎ (HoldsBytes topics_model disks.topics ⊎ HoldsBytes offsets_model disks.offsets)

-- The disk has known contents with this property, and a crash leaves only these.
pub record HasStoredBytes {D : Type 0} (model : DiskModel D) (Is : List ℕ → Type 0) (disk : D) : Type 0 where
  pub bytes : List ℕ
  pub told : model.seen disk ≡ Some bytes
  pub only : IsOnly bytes (model.may_leave disk)
  pub is : Is bytes

-- The offset's disk failed after the other stores were made, and a crash leaves its old contents, or these with a part or all of a store
-- without an offset.
pub record EndsTorn {W T F : Type 0} (wal_model : DiskModel W) (topics_model : DiskModel T) (offsets_model : DiskModel F)
    (workload : List ℕ) (old new : Disks W T F) : Type 0 where
  pub wal_made : HasStoredBytes wal_model (IsFreshWal workload) new.wal
  pub topics_made : HasStoredBytes topics_model IsEmptyLog new.topics
  pub offsets_torn : Follows BeginsTorn (offsets_model.may_leave old.offsets) (offsets_model.may_leave new.offsets)
