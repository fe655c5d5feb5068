-- What the bytes of the disks determine, and what runs make of their contents.
use Rattle.std.specs.Prelude.{◌≡◌, ℕ, ℤ, ◌<◌, ◌≤◌, None, Some, IsTrue, List, [], ◌++◌, length, map}
use Rattle.dbl_disk.specs.Model.{DiskModel}
use Rattle.dbl_record.specs.declared.record.Record.{Record}
use Rattle.dbl_record.specs.Cuts.{joined}
use Rattle.dbl_model_table.specs.declared.config.Config.{Config}
use Rattle.dbl_model_table.specs.declared.table.TableName.{TableName}
use Rattle.dbl_model_table.specs.Tables.{are_distinct, same_name}
use Rattle.dbl_model_commit.specs.Past.{last_lsn}
use Rattle.dbl_topic.specs.Logs.{IsLog}
use Rattle.dbl_capture_laws.specs.Offset.declared.offset.Offset.{Offset}
use Rattle.dbl_capture_laws.specs.OffsetStore.Stores.{IsStore}
use Rattle.dbl_source.specs.SourceLog.declared.reader_position.ReaderPosition.{ReaderPosition}
use Rattle.dbl_demo_laws.specs.DemoWal.Standings.{left_in, wal_reading, standing_in}
use Rattle.dbl_demo_laws.specs.DemoWal.Wals.{IsWal}
use Rattle.dbl_demo_laws.specs.DemoWal.Workloads.{IsWorkload, Workload}
use Rattle.dbl_demo_laws.specs.Demo.{Demo, IsDemo}
use Rattle.dbl_demo_laws.specs.Made.{IsFreshWal}
use Rattle.dbl_capture_laws.specs.CaptureModel.Outcomes.{FollowsSession, IsComplete}
use Rattle.dbl_capture_laws.specs.CaptureWork.declared.report.Ending.{Ending}
use Rattle.dbl_capture_laws.specs.CaptureWork.declared.report.Ending.TheVariants.{Budget, Complete}
use Rattle.dbl_capture_laws.specs.CaptureWork.declared.report.Report.{Report}
use Rattle.dbl_capture_laws.specs.Found.{position_of}
use Rattle.dbl_capture_laws.specs.CaptureModel.Reports.{chunks_in, snapshot_row_count}
use Rattle.dbl_capture_laws.specs.Reported.{HasSettled}
use Rattle.dbl_capture_laws.specs.Gained.{AreCounted}
use Rattle.dblog_promise.specs.Restarts.{ByPromise, restart_at}
use Rattle.dblog_promise.specs.Contents.{Contents, ReadAs, found_in}
use Rattle.dblog_promise.specs.Kept.{IsKept}
use Rattle.dblog_promise.specs.Goes.{AdvancesFrom}
use Rattle.dblog_promise.specs.Headline.{Guarantees, LeavesTablesEqual}
use Rattle.dblog_promise.specs.Reports.{IsReportOf}
use Rattle.dbl_disk.specs.Disks.{disk_limit}

-- ---- the contents of the disks

-- The bytes of the three disks are read as at most one contents.
abbrev pub DisksAreReadOnce : Type 0
DisksAreReadOnce = (w t f : List ℕ) (first second : Contents) → ReadAs w t f first → ReadAs w t f second → first ≡ second

-- The contents of new stores: the workload, no record and no offset, which are crash-consistent.
pub record IsFreshly (script : List ℕ) (w t f : List ℕ) (held : Contents) : Type 0 where
  pub read : ReadAs w t f held
  pub script_is : held.wal.script ≡ script
  pub empty : held.groups ≡ []
  pub unstored : held.offset ≡ None
  pub kept : IsKept held

-- New stores have such contents.
abbrev pub FreshStoresAreKept : Type 0
FreshStoresAreKept = (script w t f : List ℕ) → IsFreshWal script w → IsLog t [] → IsStore f None
    → (held : Contents) × IsFreshly script w t f held

-- ---- how runs extend them

-- Unchanged contents are an extension of themselves, for every configuration.
abbrev pub WhatStaysGoesOn : Type 0
WhatStaysGoesOn = (config : Config) (held : Contents) → AdvancesFrom config held held

-- A session that keeps its guarantees, and the workload, extends the contents that it found.
abbrev pub SessionsGoOn : Type 0
SessionsGoOn = (config : Config) (now : ℤ) (old new : Contents) → new.wal.script ≡ old.wal.script
    → FollowsSession (restart_at config now (found_in old)) (left_in new.wal) new.groups new.offset → AdvancesFrom config old new

-- A run over crash-consistent disks is one of the sessions of which any number may run and stop, each from what the one before it left.
abbrev pub RunsArePromised : Type 0
RunsArePromised = (config : Config) (now : ℤ) (old new : Contents) → IsKept new → AdvancesFrom config old new
    → ByPromise config (found_in old) (found_in new)

-- ---- the headline

-- Crash-consistent contents that extend the old ones meet all guarantees but that of complete tables.
abbrev pub KeptRunsArePromised : Type 0
KeptRunsArePromised = (config : Config) (old new : Contents) → IsKept new → AdvancesFrom config old new → Guarantees ⊥ old new

-- A complete session, over a source whose last read returned that nothing is left, leaves the tables equal.
abbrev pub CompleteRunsLeaveTablesEqual : {D : Type 0} → DiskModel D → Type 0
CompleteRunsLeaveTablesEqual {D} model =
    (config : Config) (now : ℤ) (old new : Contents) (offset : Offset) (demo : Demo D) (place : ReaderPosition)
    → IsKept old → IsKept new → AdvancesFrom config old new
    → IsDemo model new.wal demo → IsTrue demo.ended → demo.place ≡ Some place
    → new.offset ≡ Some offset → offset.lsn ≡ last_lsn place.after (wal_reading new.wal place).messages
    → IsComplete (restart_at config now (found_in old)) (left_in new.wal) new.groups offset
    → LeavesTablesEqual old new

-- ---- reports

-- The report of a session that ended over a source that runs the workload, and left crash-consistent contents, agrees with the disks.
abbrev pub SettledReportsAreRight : {D : Type 0} → DiskModel D → Type 0
SettledReportsAreRight {D} model =
    (config : Config) (now : ℤ) (old new : Contents) (ending : Ending) (report : Report) (bytes : List ℕ) (demo : Demo D)
    (place : ReaderPosition) (more : List (List Record))
    → IsKept new → IsWal bytes new.wal → IsDemo model new.wal demo → demo.place ≡ Some place
    → (ending ≡ Complete → IsTrue demo.ended × (report.messages < config.messages)) → (ending ≡ Budget → report.messages ≡ config.messages)
    → HasSettled config now old.offset new.offset report (standing_in new.wal (Some place))
    → report.position ≡ position_of old.offset new.offset
    → new.groups ≡ old.groups ++ more → AreCounted more report
    → IsReportOf config now old new ending report

-- The report's counts are exact.
pub record AreCountedWhole (more : List (List Record)) (report : Report) : Type 0 where
  pub records : report.records ≡ length (joined more)
  pub chunks : report.chunks ≡ chunks_in (joined more)
  pub rows : report.snapshot_rows ≡ snapshot_row_count (joined more)

-- A topic log of fewer than 2^40 bytes, the size limit of a disk, has so few records that the report counts all of them.
abbrev pub SmallLogsAreCounted : Type 0
SmallLogsAreCounted = (bytes : List ℕ) (groups old more : List (List Record)) (report : Report)
    → IsLog bytes groups → length bytes < disk_limit → groups ≡ old ++ more → AreCounted more report → AreCountedWhole more report

-- ---- workloads

-- 1 to 64 names, all different.
pub record AreFewNames (names : List TableName) : Type 0 where
  pub some : 1 ≤ length names
  pub few : length names ≤ 64
  pub distinct : IsTrue (are_distinct same_name names)

-- A workload that can be run has 1 to 64 tables with distinct names.
abbrev pub WorkloadsHaveTables : Type 0
WorkloadsHaveTables = (bytes : List ℕ) (w : Workload) → IsWorkload bytes w → AreFewNames (map (λ table. table.info.name) w.tables)
