-- Facts of the three disks of a command.
use Rattle.std.specs.Prelude.{◌≡◌, ℕ, Some, List}
use Rattle.dbl_disk.specs.Model.{DiskModel}
use Rattle.dblog_init.specs.declared.disks.Disks.{Disks}
use Rattle.dblog_promise.specs.Kept.{AreKept}

-- The disks are crash-consistent.
abbrev pub AreKeptDisks : {W T F : Type 0} → DiskModel W → DiskModel T → DiskModel F → Disks W T F → Type 0
AreKeptDisks wal_model topics_model offsets_model disks =
    AreKept (wal_model.seen disks.wal) (topics_model.seen disks.topics) (offsets_model.seen disks.offsets)
    (wal_model.may_leave disks.wal) (topics_model.may_leave disks.topics) (offsets_model.may_leave disks.offsets)

-- The fact is true of the contents of the disks, if these are known.
abbrev pub IsTrueOfContents : {W T F : Type 0} → DiskModel W → DiskModel T → DiskModel F → Disks W T F → (List ℕ → List ℕ → List ℕ → Type 0)
    → Type 0
IsTrueOfContents wal_model topics_model offsets_model disks Fact = (w t f : List ℕ)
    → wal_model.seen disks.wal ≡ Some w → topics_model.seen disks.topics ≡ Some t → offsets_model.seen disks.offsets ≡ Some f → Fact w t f

-- The fact is true of everything that a crash may leave of the disks.
abbrev pub IsTrueAfterCrash : {W T F : Type 0} → DiskModel W → DiskModel T → DiskModel F → Disks W T F → (List ℕ → List ℕ → List ℕ → Type 0)
    → Type 0
IsTrueAfterCrash wal_model topics_model offsets_model disks Fact = (w t f : List ℕ)
    → wal_model.may_leave disks.wal w → topics_model.may_leave disks.topics t → offsets_model.may_leave disks.offsets f → Fact w t f
