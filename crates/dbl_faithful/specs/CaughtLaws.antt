-- The steps of a session, each of which preserves the agreement of its records.
use Rattle.std.specs.Prelude.{◌≡◌, ◌⊎◌, ℕ, ℤ, ◌<◌, ◌≤◌, Option, None, List, [], ◌∷◌, ◌++◌, take}
use Rattle.std.specs.List.{AllByRecursion, AllZip}
use Rattle.dbl_record.specs.declared.record.Record.{Record}
use Rattle.dbl_model_table.specs.declared.identity.Identity.{Identity}
use Rattle.dbl_model_table.specs.declared.row.Key.{Key}
use Rattle.dbl_model_table.specs.declared.table.TableInfo.{TableInfo}
use Rattle.dbl_model_table.specs.Rows.{changes_of}
use Rattle.dbl_consume_laws.specs.ModelHistory.Ranges.{IsMomentInRange}
use Rattle.dbl_consume_laws.specs.ModelEvent.declared.closed.Closed.{Closed}
use Rattle.dbl_consume_laws.specs.ModelEvent.Clashes.{snapshot_clash}
use Rattle.dbl_consume_laws.specs.ModelEvent.SnapshotLists.{IsSnapshot}
use Rattle.dbl_consume_laws.specs.KnownKeys.{AreToldUpTo}
use Rattle.dbl_consume_laws.specs.Windows.{IsRightWindow}
use Rattle.dbl_consume_courses.specs.Versions.{Versioned, plain_commit}
use Rattle.dbl_consume_courses.specs.Courses.{course}
use Rattle.dbl_consume_courses.specs.CourseAges.{own_from}
use Rattle.dbl_consume_courses.specs.Since.{since}
use Rattle.dbl_consume_courses.specs.AlteredTables.{course_changes, course_start}
use Rattle.dbl_consume_courses.specs.FitVersions.{AreFitVersions}
use Rattle.dbl_consume_courses.specs.TableAges.{IsJustBefore}
use Rattle.dbl_consume_courses.specs.AgesBetween.{IsLsnOf}
use Rattle.dbl_faithful.specs.Agreements.{AgreesUpTo}
use Rattle.dbl_faithful.specs.ToldEvents.{events_of_commit, IsClearPrint}

-- Whether a commit of a valid history is the next one after the position `high`, up to which a log that starts at `start` and whose offset
-- is at `low` was delivered.
pub record IsNextAfter (infos : List TableInfo) (versions : List Versioned) (start low high : ℕ) (before : List Versioned) (v : Versioned)
    (later : List Versioned) : Type 0 where
  pub fit : AreFitVersions infos versions
  pub spelled : versions ≡ before ++ v ∷ later
  pub just : IsJustBefore high before v
  pub order : start ≤ low
  pub lower : low ≤ high
  pub ends : (high ≡ low) ⊎ IsLsnOf versions high

-- Whether a window is right at its high watermark, in its table's course there, and each key up to its beginning is covered by the log
-- since the course began.
pub record IsWindowInCourse (identity : Identity) (infos : List TableInfo) (versions : List Versioned) (start : ℕ) (records : List Record)
    (mark : Versioned) (begun : ℕ) (above : Option Key) (closed : Closed) : Type 0 where
  pub right : IsRightWindow (course infos versions start closed.table mark.lsn.0).infos
      (course_changes (course infos versions start closed.table mark.lsn.0)) begun
      (own_from (course infos versions start closed.table mark.lsn.0) mark.lsn.0) above closed
  pub begins : course_start (course infos versions start closed.table mark.lsn.0) ≤ begun
  pub told : AreToldUpTo identity (course infos versions start closed.table mark.lsn.0).infos
      (since (course infos versions start closed.table mark.lsn.0).start records) closed.table above

-- The empty list of records agrees up to the start.
abbrev pub StartsAreCaught : Type 0
StartsAreCaught = (identity : Identity) (infos : List TableInfo) (versions : List Versioned) (start : ℕ) → AreFitVersions infos versions
    → AgreesUpTo identity infos versions start [] start start

-- A prefix of the records of the next commit, each made at its own time and without the placeholder, keeps the agreement; later commits are
-- not restricted.
abbrev pub PrintsAreCaught : Type 0
PrintsAreCaught = (identity : Identity) (infos : List TableInfo) (versions : List Versioned) (start low high : ℕ) (before : List Versioned)
    (v : Versioned) (later : List Versioned) (n : ℕ) (records more : List Record)
    → IsNextAfter infos versions start low high before v later
    → AllZip (IsClearPrint identity) (take n (events_of_commit v)) more
    → AgreesUpTo identity infos versions start records low high
    → AgreesUpTo identity infos versions start (records ++ more) low high

-- With all records of the next commit, each made at its own time, records agree up to the commit. An alteration has none.
abbrev pub AllPrintsAreCaught : Type 0
AllPrintsAreCaught = (identity : Identity) (infos : List TableInfo) (versions : List Versioned) (start low high : ℕ)
    (before : List Versioned) (v : Versioned) (later : List Versioned) (records more : List Record)
    → IsNextAfter infos versions start low high before v later
    → AllZip (IsClearPrint identity) (events_of_commit v) more
    → AgreesUpTo identity infos versions start records low high
    → AgreesUpTo identity infos versions start (records ++ more) low v.lsn.0

-- A prefix of the records of a right window, whose high watermark is the next commit and after every record, takes the agreement up to the
-- watermark.
abbrev pub PartsOfSnapshotsAreCaught : Type 0
PartsOfSnapshotsAreCaught = (identity : Identity) (infos : List TableInfo) (versions : List Versioned) (start low high : ℕ)
    (before : List Versioned) (mark : Versioned) (later : List Versioned) (begun : ℕ) (above : Option Key) (closed : Closed)
    (records snapshot : List Record) (now : ℤ) (n : ℕ)
    → IsNextAfter infos versions start low high before mark later → changes_of (plain_commit mark) ≡ [] → mark.altered ≡ None
    → IsMomentInRange now
    → IsSnapshot identity mark.infos closed (plain_commit mark) now snapshot → snapshot_clash identity mark.infos closed ≡ None
    → IsWindowInCourse identity infos versions start records mark begun above closed
    → AllByRecursion (λ item. item.position < mark.lsn.0) records
    → AgreesUpTo identity infos versions start records low high
    → AgreesUpTo identity infos versions start (records ++ take n snapshot) low mark.lsn.0

-- An extension of the history by commits after every record and after the delivered position keeps the agreement; they may alter tables.
abbrev pub LongerHistoriesAreCaught : Type 0
LongerHistoriesAreCaught = (identity : Identity) (infos : List TableInfo) (versions more : List Versioned) (start low high : ℕ)
    (records : List Record)
    → AreFitVersions infos (versions ++ more) → AllByRecursion (λ v. high < v.lsn.0) more
    → AllByRecursion (λ item. AllByRecursion (λ v. item.position < v.lsn.0) more) records
    → AgreesUpTo identity infos versions start records low high
    → AgreesUpTo identity infos (versions ++ more) start records low high
