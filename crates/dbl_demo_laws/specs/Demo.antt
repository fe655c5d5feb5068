-- A source over a disk that runs a workload: its parts, and the log that it represents.
use Rattle.std.specs.Prelude.{◌≡◌, ℕ, ◌<◌, ◌≤◌, Bool, false, IsTrue, Option, Some, option_map, slice_get, List, length, map, drop}
use Rattle.std.specs.List.{All, AllByRecursion}
use Rattle.std.specs.BTreeMap.{is_at}
use Rattle.std.specs.Map.{lookup}
use Rattle.std.specs.Ordering.{nat_cmp}
use Rattle.dbl_base.specs.declared.lsn.Lsn.{Lsn}
use Rattle.dbl_disk.specs.Model.{DiskModel}
use Rattle.dbl_pgmsg.specs.declared.messages.Message.{Message}
use Rattle.dbl_pgmsg.specs.declared.messages.RelationColumn.{RelationColumn}
use Rattle.dbl_model_table.specs.declared.table.TableName.{TableName}
use Rattle.dbl_source.specs.ModelCommit.Past.{relation_of}
use Rattle.dbl_source.specs.SourceModel.Standings.{SourceState}
use Rattle.dbl_journal.specs.Growth.{HasCome}
use Rattle.dbl_journal.specs.Stored.{Lists, OnDisk, count_of}
use Rattle.dbl_source.specs.SourceLog.declared.logged.LogTable.{LogTable}
use Rattle.dbl_source.specs.SourceLog.declared.logged.Logged.{Logged}
use Rattle.dbl_source.specs.SourceLog.declared.logged.Logged.TheVariants.{Changes, Mark, Alter}
use Rattle.dbl_source.specs.SourceLog.declared.reader_position.ReaderPosition.{ReaderPosition}
use Rattle.dbl_source.specs.SourceLog.Numbers.{commit_limit}
use Rattle.dbl_source.specs.SourceLog.Sent.{index_of, told_at, IsPlaceIn}
use Rattle.dbl_demo_workload.specs.Script.declared.script.Step.{Step}
use Rattle.dbl_demo_workload.specs.Tables.declared.tables.Tables.{Tables}
use Rattle.dbl_demo_workload.specs.Tables.Stands.{Stands}
use Rattle.dbl_demo_workload.specs.DemoWal.Workloads.{acts_at, steps_of}
use Rattle.dbl_demo_workload.specs.DemoWal.Sound.{IsSilent, logged_in}
use Rattle.dbl_demo_workload.specs.DemoWal.Wals.{Wal, IsWalOf, forms_of}
use Rattle.dbl_demo_workload.specs.DemoWal.Standings.{tables_of, confirmed_of, standing_in}
use Rattle.dbl_demo_workload.specs.DemoWal.CrashState.{LeavesWal}
use Rattle.dbl_demo_workload.specs.Checking.{commit_places}
use Rattle.dbl_demo_workload.specs.Steps.{HasRunSteps}
use Rattle.dbl_disk.specs.Disks.{disk_limit}

-- A source: its journal, its tables, its store with the steps that were done, the numbers of its commits' entries, the confirmed position,
-- its reader with a cached commit, and whether it can be used.
pub record Demo (D : Type 0) : Type 0 where
  pub journal : OnDisk D
  pub names : List TableName
  pub tables : List LogTable
  pub store : Tables
  pub steps : List Step
  pub done : ℕ
  pub commits : List ℕ
  pub confirmed : Lsn
  pub place : Option ReaderPosition
  pub described : List (ℕ × List RelationColumn)
  pub held : Option Logged
  pub ended : Bool
  pub live : Bool

-- The columns of each table that was described by these messages, as the last Relation of its OID has them.
abbrev pub AreRecalled : List (ℕ × List RelationColumn) → List Message → Type 0
AreRecalled described past =
    (oid : ℕ) → lookup (is_at (nat_cmp oid)) described ≡ option_map (λ relation. relation.columns) (relation_of oid past)

-- The reader is at a position of the log, knows the tables described to it, and caches its commit, or none.
pub record IsReader (tables : List LogTable) (log : List Logged) (place : Option ReaderPosition)
    (described : List (ℕ × List RelationColumn)) (held : Option Logged) : Type 0 where
  pub placed : (p : ReaderPosition) → place ≡ Some p → IsPlaceIn log p
  pub recalled : (p : ReaderPosition) → place ≡ Some p → AreRecalled described (told_at tables log p)
  pub held_is : (p : ReaderPosition) (logged : Logged) → place ≡ Some p → held ≡ Some logged → slice_get log (index_of p) ≡ Some logged

-- Between calls and within one: the disk has this log, with each commit of the steps that were done.
pub record IsRunning {D : Type 0} (model : DiskModel D) (wal : Wal) (demo : Demo D) : Type 0 where
  pub lists : Lists model demo.journal (forms_of wal)
  pub is : IsWalOf (forms_of wal) wal
  pub few : length wal.entries < disk_limit
  pub names : demo.names ≡ map (λ table. table.info.name) wal.workload.tables
  pub tables : demo.tables ≡ tables_of wal
  pub steps : demo.steps ≡ steps_of wal.workload
  pub stands : Stands wal.workload.tables (acts_at wal.workload demo.done) demo.store
  pub silent : IsSilent wal.workload wal.entries demo.done
  pub commits : demo.commits ≡ commit_places 1 wal.entries
  pub confirmed : demo.confirmed ≡ confirmed_of wal
  pub reader : IsReader demo.tables (logged_in wal.entries) demo.place demo.described demo.held

-- An entry of the log of commits is a watermark.
abbrev pub IsMark : Logged → Type 0
IsMark (Changes messages) = ⊥
IsMark (Mark value) = Unit {0}
IsMark (Alter name columns rows) = ⊥

-- No step is left, and after the reader, which is between transactions, the log has only watermarks.
pub record HasReachedEnd {D : Type 0} (wal : Wal) (demo : Demo D) : Type 0 where
  pub done : demo.done ≡ length demo.steps
  pub read : (place : ReaderPosition) → demo.place ≡ Some place → AllByRecursion IsMark (drop (index_of place) (logged_in wal.entries))
  pub whole : (place : ReaderPosition) → demo.place ≡ Some place → place.begun ≡ false

-- The source can be used, and represents this log.
pub record IsDemo {D : Type 0} (model : DiskModel D) (wal : Wal) (demo : Demo D) : Type 0 where
  pub live : IsTrue demo.live
  pub running : IsRunning model wal demo
  -- The answer of the last read is still true.
  pub ended : IsTrue demo.ended → HasReachedEnd wal demo

-- The state of the source: the history and the confirmed position of its log, and what was read.
abbrev pub HasDemoState : {D : Type 0} → DiskModel D → Demo D → SourceState → Type 0
HasDemoState model demo s = (wal : Wal) × IsDemo model wal demo × (s ≡ standing_in wal demo.place)

-- ---- what no call undoes

-- The source's log is of this workload, a crash leaves only logs of it, and the journal has a limit; if the source can be used, its disk
-- has counted only these failures.
pub record HasKept {D : Type 0} (model : DiskModel D) (script : List ℕ) (gate most faults : ℕ) (demo : Demo D) : Type 0 where
  pub come : HasCome model gate most demo.journal
  pub stands : IsTrue demo.live → (wal : Wal) × IsDemo model wal demo × (wal.script ≡ script)
  pub steady : IsTrue demo.live → model.faults demo.journal.disk ≡ faults
  pub crash : LeavesWal model demo.journal.disk (λ wal. wal.script ≡ script)

-- The new source extends the old one: the same workload, a crash leaves only logs of it, the disk stays bounded, and none of its calls has
-- failed if the new source can be used.
abbrev pub ExtendsDemo : {D : Type 0} → DiskModel D → Demo D → Demo D → Type 0
ExtendsDemo model old new = (script : List ℕ) (gate most faults : ℕ) → HasKept model script gate most faults old
    → HasKept model script gate most faults new

-- ---- what is true of its parts for every disk

-- The parts of a source between calls: its journal, store, steps, commits and reader.
pub record HasParts {D : Type 0} (journal : OnDisk D) (store : Tables) (steps : List Step) (done : ℕ) (commits : List ℕ)
    (place : Option ReaderPosition) (live : Bool) : Type 0 where
  pub has_run : HasRunSteps steps done store
  pub usable : IsTrue live → IsTrue journal.live
  -- The first entry is no commit.
  pub few : IsTrue journal.live → length commits < count_of journal
  pub there : IsTrue journal.live → All (λ number. number < count_of journal) commits
  -- A reader has passed no more commits than a journal has entries.
  pub near : (p : ReaderPosition) → place ≡ Some p → p.commits ≤ commit_limit
