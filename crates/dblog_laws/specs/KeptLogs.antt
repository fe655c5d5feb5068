-- What the topic log on crash-consistent disks is, beside the guarantees of a run: also in the middle of a repeat.
use Rattle.std.specs.Prelude.{◌≡◌, ◌≤◌, ℕ, MatchOption, []}
use Rattle.std.specs.List.{AllByRecursion}
use Rattle.dbl_disk.specs.Model.{DiskModel}
use Rattle.dbl_faithful.specs.ConsumeCourses.AlteredTables.{IsAgedFrom}
use Rattle.dbl_faithful.specs.ExactLogs.{IsLogExact}
use Rattle.dbl_offset_content.specs.declared.offset.Offset.{Offset}
use Rattle.dblog_run.specs.Init.declared.disks.Disks.{Disks}
use Rattle.dblog_run.specs.Promise.Contents.{Contents, ReadAs, captured_commits_at, first_infos_at, records_of_contents}
use Rattle.dblog_run.specs.Connect.Disks.{AreKeptDisks, IsTrueAfterCrash}

-- The topic log is true to the source's history.
pub record IsTrueToSource (held : Contents) (offset : Offset) : Type 0 where
  -- The records of changes that are delivered for the first time are the source's first changes above the offset's start, in order, one
  -- each; every other record of a change repeats one of them.
  pub changes : IsLogExact offset.identity (captured_commits_at held offset) offset.start.0 (records_of_contents held)
  -- No record is before the offset's start.
  pub late : AllByRecursion (λ item. offset.start.0 ≤ item.position) (records_of_contents held)
  -- Of each table: each cell that a consumer of the records since the table's last alteration has is the source's at some point of the
  -- history from the offset's LSN and that alteration on, in the columns in force since then. A consumer of all records has the same cells
  -- at each key that is known there, and has rows only at keys where the source had one at some point from the offset's LSN on.
  pub cells : (table : ℕ) → IsAgedFrom offset.identity (first_infos_at held offset) (captured_commits_at held offset) offset.start.0
      (records_of_contents held) offset.lsn.0 table

-- In everything that a crash may leave of crash-consistent disks the topic log is true to the source's history, or empty if no offset is
-- stored.
abbrev pub KeptLogsAreTrue : {W T F : Type 0} → DiskModel W → DiskModel T → DiskModel F → Type 0
KeptLogsAreTrue {W} {T} {F} wal_model topics_model offsets_model = (disks : Disks W T F)
    → AreKeptDisks wal_model topics_model offsets_model disks
    → IsTrueAfterCrash wal_model topics_model offsets_model disks (λ w t f. (held : Contents) × ReadAs w t f held
    × MatchOption held.offset (records_of_contents held ≡ []) (IsTrueToSource held))
