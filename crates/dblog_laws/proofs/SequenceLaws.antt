-- The disks stay crash-consistent over runs and crashes, by induction.
use Rattle.std.proofs.Common.{ℕ, List}
use Rattle.dbl_disk.specs.Model.{DiskModel}
use Rattle.dblog_run.specs.Init.declared.disks.Disks.{Disks}
use Rattle.dblog_run.specs.Connect.Disks.{AreKeptDisks}
use Rattle.dblog_laws.specs.Sequences.{AreReopened, DisksStayKept, Follows}
use Rattle.dblog_laws.specs.Sequences.Follows.{none, runs, crashes}

reopened_kept : {W T F : Type 0} (wal_model : DiskModel W) (topics_model : DiskModel T) (offsets_model : DiskModel F) (old new : Disks W T F)
    → AreReopened wal_model topics_model offsets_model old new → AreKeptDisks wal_model topics_model offsets_model old
    → AreKeptDisks wal_model topics_model offsets_model new
reopened_kept wal_model topics_model offsets_model old new reopened kept = record {
  wal = reopened.wal.known;
  topics = reopened.topics.known;
  offsets = reopened.offsets.known;
  each = λ w t f wal topics offsets. kept.each w t f (reopened.wal.within w wal) (reopened.topics.within t topics) (reopened.offsets.within f offsets);
}

all_kept : {W T F : Type 0} (wal_model : DiskModel W) (topics_model : DiskModel T) (offsets_model : DiskModel F) (first : Disks W T F) {last : Disks W T F}
    → AreKeptDisks wal_model topics_model offsets_model first → Follows wal_model topics_model offsets_model first last
    → AreKeptDisks wal_model topics_model offsets_model last
all_kept wal_model topics_model offsets_model first kept none = kept
all_kept wal_model topics_model offsets_model first kept (runs words status old new before run) =
    run.kept (all_kept wal_model topics_model offsets_model first kept before)
all_kept wal_model topics_model offsets_model first kept (crashes old new before reopened) =
    reopened_kept wal_model topics_model offsets_model old new reopened (all_kept wal_model topics_model offsets_model first kept before)

pub disks_stay_kept : {W T F : Type 0} (wal_model : DiskModel W) (topics_model : DiskModel T) (offsets_model : DiskModel F)
    → DisksStayKept wal_model topics_model offsets_model
disks_stay_kept wal_model topics_model offsets_model first last kept follows =
    let last_kept = all_kept wal_model topics_model offsets_model first kept follows in
    record { kept = last_kept; next = λ words status new run. run.headline last_kept }
