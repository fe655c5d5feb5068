-- The program has three disks. The first contains the source's log: the workload, the transactions that it committed, the connector's
-- watermarks between them, and the confirmed LSN. The second contains the topic log: groups of records, which a consumer applies in order.
-- The third contains the offset store: at most one offset, from which the next session resumes. A position is the LSN of a commit, which
-- each of its records has; a record's place is its position, and then its number among the records of that commit. A progress record says
-- how far a table's copy has come: up to which key, or that it is done. The changes above the offset's start, a position, are captured.
--
-- What the connector guarantees, for every workload, however its transactions interleave with the connector's selects and watermarks, and
-- at whichever call on whichever disk the program stops: a consumer that applies the topic log has, at the first delivery of each position,
-- exactly the source's rows for every known key; no snapshot record overwrites a later change; a session appends only positions above the
-- offset that was stored when it began; and a complete capture leaves the tables equal.
--
-- After Andreakis and Papapanagiotou, "DBLog: A Watermark Based Change-Data-Capture Framework" (2020).
use Rattle.std.specs.Prelude.{◌≡◌, ℕ, ◌+◌, ◌<◌, ◌≤◌, true, MatchOption, Option, Some, List, [], ◌++◌, length, take, slice_get}
use Rattle.std.specs.List.{AllByRecursion}
use Rattle.dbl_record.specs.declared.record.Record.{Record}
use Rattle.dbl_record.specs.Places.{IsFresh}
use Rattle.dbl_model_table.specs.declared.config.Config.{Config}
use Rattle.dbl_model_table.specs.declared.row.Key.{Key}
use Rattle.dbl_model_history.specs.Image.{Names, image_row}
use Rattle.dbl_capture_laws.specs.ConsumeLaws.Laws.{HoldsJsonTexts}
use Rattle.dbl_capture_laws.specs.ConsumeLaws.Ages.{held_row}
use Rattle.dbl_capture_laws.specs.ConsumeLaws.Commits.{moment_after}
use Rattle.dbl_capture_laws.specs.Faithful.CaughtUpLaws.{IsSourceRow, IsPutAhead}
use Rattle.dbl_capture_laws.specs.Faithful.ConsumeCourses.AlteredTables.{IsKnownIn}
use Rattle.dbl_capture_laws.specs.Faithful.ConsumeCourses.Courses.{Course, course}
use Rattle.dbl_capture_laws.specs.Faithful.Kinds.{is_row}
use Rattle.dbl_capture_laws.specs.Faithful.ToldEvents.{ToldEvent, events_since}
use Rattle.dbl_capture_laws.specs.Offset.declared.offset.Offset.{Offset}
use Rattle.dbl_demo_laws.specs.DemoWal.Sound.{session_commits}
use Rattle.dbl_demo_laws.specs.DemoWal.Workloads.{log_at, steps_of}
use Rattle.dbl_capture_laws.specs.Faithful.Onward.{PlacesRise}
use Rattle.dbl_capture_laws.specs.CaptureModel.Entries.{appends_after}
use Rattle.dblog_promise.specs.Contents.{Contents, captured_commits_at, first_infos_at, history_at, records_of_contents}
use Rattle.dblog_promise.specs.Goes.{IsLeft}
use Rattle.dblog_promise.specs.Tables.{HoldsRows, infos_at, source_rows_at, whole_rows}

-- ---- at the first delivery of each position

-- The record with this number is the last one of its commit, and is delivered for the first time: its place is above those of all records
-- before it.
pub record IsFirstDelivery (held : Contents) (number : ℕ) (item : Record) : Type 0 where
  pub stands : slice_get (records_of_contents held) number ≡ Some item
  pub fresh : IsFresh (records_of_contents held) number
  pub last : item.last ≡ true

-- What is left of a captured table's history at a position: its course since its last alteration up to there.
abbrev pub course_at : Contents → Offset → ℕ → ℕ → Course
course_at held offset table position =
    course (first_infos_at held offset) (captured_commits_at held offset) offset.start.0 table position

-- The records up to and including this one make the key of a captured table known, since the table was last altered: a progress record
-- covers it, or a change above the offset's start, up to this record's position, has every cell of its row, or deletes it.
abbrev pub IsKnownAt : Contents → Offset → ℕ → Record → ℕ → Key → Type 0
IsKnownAt held offset number item table key =
    IsKnownIn offset.identity (course_at held offset table item.position) (take (number + 1) (records_of_contents held))
    (moment_after (course_at held offset table item.position).commits) table key

-- At each first delivery, a consumer has the source's row of every known key at that position, equal in each cell, or none if the source
-- has none, in the columns in force there.
abbrev pub HoldsSourceRows : Contents → Offset → Type 0
HoldsSourceRows held offset = (number : ℕ) (item : Record) → IsFirstDelivery held number item
    → (topic text : List ℕ) (table : ℕ) (key : Key) → Names offset.identity (infos_at held offset item.position) topic text table key
    → IsKnownAt held offset number item table key
    → HoldsJsonTexts (held_row offset.identity (take (number + 1) (records_of_contents held)) topic text)
    (image_row (infos_at held offset item.position) (source_rows_at held offset item.position) table key)

-- ---- no snapshot record overwrites a later change

-- This snapshot record is delivered for the first time, is the source's row at its position, and comes after a record of each change of the
-- captured tables above the offset's start and below that position.
pub record OverwritesNothing (held : Contents) (offset : Offset) (number : ℕ) (item : Record) : Type 0 where
  pub fresh : IsFresh (records_of_contents held) number
  pub right : IsSourceRow offset.identity (captured_commits_at held offset) item
  pub put_ahead : (place : ℕ) (event : ToldEvent)
      → slice_get (events_since offset.start.0 (captured_commits_at held offset)) place ≡ Some event
      → event.event.position < item.position → IsPutAhead offset.identity (records_of_contents held) number event

-- No snapshot record of the topic log overwrites a later change.
abbrev pub SnapshotsOverwriteNothing : Contents → Offset → Type 0
SnapshotsOverwriteNothing held offset =
    (number : ℕ) (item : Record) → slice_get (records_of_contents held) number ≡ Some item → is_row item ≡ true
    → OverwritesNothing held offset number item

-- ---- only positions above the stored offset

-- The records that the run appended have positions above the LSN that was stored when it began, or above the start of its first offset if
-- none was stored; and their places rise.
pub record AppendsOnlyAfter (old new : Contents) : Type 0 where
  pub more : List Record
  pub is : records_of_contents new ≡ records_of_contents old ++ more
  pub above : AllByRecursion (λ item. appends_after old.offset new.offset < item.position) more
  pub rise : PlacesRise more

-- ---- a complete capture leaves the tables equal

-- Each captured table was copied to its end; the stored LSN is at or above every commit that existed when the run began; a consumer of the
-- topic log has the source's rows at that LSN; and every step of the workload was run, so that these are the rows that its serial run
-- leaves.
pub record LeavesTablesEqual (old new : Contents) : Type 0 where
  pub offset : Offset
  pub stored : new.offset ≡ Some offset
  pub done : AllByRecursion (λ cursor. cursor.done ≡ true) offset.cursors
  pub not_before : AllByRecursion (λ commit. commit.lsn.0 ≤ offset.lsn.0) (history_at old).commits
  pub holds_source_rows : HoldsRows new offset (infos_at new offset offset.lsn.0) (source_rows_at new offset offset.lsn.0)
  pub ran_whole : session_commits new.wal.entries ≡ log_at new.wal.workload (length (steps_of new.wal.workload))
  pub holds_final_rows : HoldsRows new offset offset.infos (whole_rows new.wal offset.infos)

-- ---- the guarantees

-- The guarantees from the contents before a run to those that a crash may leave of it, with equal tables if the run was complete. If no
-- offset is stored, the topic log is empty.
pub record Guarantees (complete : Type 0) (old new : Contents) : Type 0 where
  pub first_deliveries : MatchOption new.offset (records_of_contents new ≡ []) (HoldsSourceRows new)
  pub snapshots : MatchOption new.offset (records_of_contents new ≡ []) (SnapshotsOverwriteNothing new)
  pub appends : AppendsOnlyAfter old new
  pub tables : complete → LeavesTablesEqual old new

-- The guarantees apply to these bytes of the three disks, which a crash may leave, relative to contents that were possible before the run.
-- `IsLeft` also says that these bytes are crash-consistent contents, which only advance the old ones (Goes.antt).
pub record GuaranteesAfterCrash (complete : Type 0) (asks : Contents → Option Config) (wals logs stores : List ℕ → Type 0)
    (w t f : List ℕ) : Type 0 where
  pub left : IsLeft asks wals logs stores w t f
  pub guarantees : Guarantees complete left.predecessor.old left.held
