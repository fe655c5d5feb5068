-- The age of altered tables as the records of a window are delivered, in every table: the window's own, and those that it isn't of.
use Rattle.std.specs.Prelude.{◌≡◌, ◌≢◌, ◌⊎◌, ℕ, ℤ, ◌<◌, ◌≤◌, Option, None, List, [], ◌∷◌, ◌++◌, take}
use Rattle.std.specs.List.{AllByRecursion}
use Rattle.dbl_record.specs.declared.record.Record.{Record}
use Rattle.dbl_model_table.specs.declared.identity.Identity.{Identity}
use Rattle.dbl_model_table.specs.declared.row.Key.{Key}
use Rattle.dbl_model_table.specs.declared.table.TableInfo.{TableInfo}
use Rattle.dbl_model_table.specs.Rows.{changes_of}
use Rattle.dbl_model_history.specs.Ranges.{IsMomentInRange}
use Rattle.dbl_model_event.specs.declared.closed.Closed.{Closed}
use Rattle.dbl_model_event.specs.Clashes.{snapshot_clash}
use Rattle.dbl_model_event.specs.SnapshotLists.{IsSnapshot}
use Rattle.dbl_consume_laws.specs.KnownKeys.{AreToldUpTo}
use Rattle.dbl_consume_laws.specs.Windows.{IsRightWindow}
use Rattle.dbl_consume_courses.specs.Versions.{Versioned, plain_commit}
use Rattle.dbl_consume_courses.specs.Courses.{course}
use Rattle.dbl_consume_courses.specs.Since.{since}
use Rattle.dbl_consume_courses.specs.AlteredTables.{course_changes, course_start, IsTableAged}
use Rattle.dbl_consume_courses.specs.FitVersions.{AreFitVersions}
use Rattle.dbl_consume_courses.specs.Growth.{course_of}
use Rattle.dbl_consume_courses.specs.CourseAges.{own_from}
use Rattle.dbl_consume_courses.specs.TableAges.{IsInCourse}
use Rattle.dbl_consume_courses.specs.AgesBetween.{AreAgedBetween}

-- With any prefix of the records of a window of another table, a log that is aged from the watermark's position, and has no record after
-- it, still is.
abbrev pub OtherWindowsKeepTableAge : Type 0
OtherWindowsKeepTableAge = (identity : Identity) (infos : List TableInfo) (versions shown : List Versioned) (start table : ℕ)
    (earlier : List Versioned) (mark : Versioned) (later : List Versioned) (closed : Closed) (records snapshot : List Record) (now : ℤ)
    (n : ℕ)
    → IsInCourse infos versions shown start table earlier mark later → changes_of (plain_commit mark) ≡ []
    → IsSnapshot identity mark.infos closed (plain_commit mark) now snapshot → closed.table ≢ table
    → AllByRecursion (λ item. item.position ≤ mark.lsn.0) records
    → IsTableAged identity (course_of infos start table shown) versions records mark.lsn.0 table
    → IsTableAged identity (course_of infos start table shown) versions (records ++ take n snapshot) mark.lsn.0 table

-- With any prefix of the records of a window that is right at its high watermark, after every record, a log stays aged between two
-- positions, of which the watermark's is the last.
abbrev pub PartsOfSnapshotsKeepAgesBetween : Type 0
PartsOfSnapshotsKeepAgesBetween = (identity : Identity) (infos : List TableInfo) (versions : List Versioned) (start low : ℕ)
    (earlier : List Versioned) (mark : Versioned) (later : List Versioned) (begun : ℕ) (above : Option Key) (closed : Closed)
    (records snapshot : List Record) (now : ℤ) (n : ℕ)
    → AreFitVersions infos versions → versions ≡ earlier ++ mark ∷ later → changes_of (plain_commit mark) ≡ []
    → mark.altered ≡ None → start < mark.lsn.0 → low ≤ mark.lsn.0
    → IsMomentInRange now → IsSnapshot identity mark.infos closed (plain_commit mark) now snapshot
    → snapshot_clash identity mark.infos closed ≡ None
    → IsRightWindow (course infos versions start closed.table mark.lsn.0).infos
    (course_changes (course infos versions start closed.table mark.lsn.0)) begun
    (own_from (course infos versions start closed.table mark.lsn.0) mark.lsn.0) above closed
    → course_start (course infos versions start closed.table mark.lsn.0) ≤ begun
    → AreToldUpTo identity (course infos versions start closed.table mark.lsn.0).infos
    (since (course infos versions start closed.table mark.lsn.0).start records) closed.table above
    → AllByRecursion (λ item. item.position < mark.lsn.0) records
    → AreAgedBetween identity infos versions start records low mark.lsn.0
    → AreAgedBetween identity infos versions start (records ++ take n snapshot) low mark.lsn.0
