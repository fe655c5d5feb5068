-- That a whole log has the cells of the log since a table's last alteration, at the keys known there, as records are delivered.
use Rattle.std.specs.Prelude.{◌≡◌, ℕ, ℤ, ◌<◌, ◌≤◌, Option, None, IsSome, List, [], ◌∷◌, ◌++◌, take}
use Rattle.std.specs.List.{AllByRecursion}
use Rattle.dbl_record.specs.declared.record.Record.{Record}
use Rattle.dbl_model_table.specs.declared.identity.Identity.{Identity}
use Rattle.dbl_model_table.specs.declared.row.Key.{Key}
use Rattle.dbl_model_table.specs.declared.table.TableInfo.{TableInfo}
use Rattle.dbl_model_table.specs.Rows.{rows, changes_of}
use Rattle.dbl_model_history.specs.Image.{Names}
use Rattle.dbl_model_history.specs.Ranges.{IsMomentInRange}
use Rattle.dbl_model_event.specs.declared.closed.Closed.{Closed}
use Rattle.dbl_model_event.specs.EventJson.{envelopes}
use Rattle.dbl_model_event.specs.Clashes.{clash_of, snapshot_clash}
use Rattle.dbl_model_event.specs.SnapshotLists.{IsSnapshot}
use Rattle.dbl_consume_laws.specs.Ages.{held_row}
use Rattle.dbl_consume_laws.specs.KnownKeys.{AreToldUpTo}
use Rattle.dbl_consume_laws.specs.Windows.{IsRightWindow}
use Rattle.dbl_consume_courses.specs.Versions.{Versioned, plain_commit}
use Rattle.dbl_consume_courses.specs.Courses.{Course, AreUnaltered}
use Rattle.dbl_consume_courses.specs.Since.{since}
use Rattle.dbl_consume_courses.specs.AlteredTables.{course_changes, course_start, IsOwnAged, HasSameCells}
use Rattle.dbl_consume_courses.specs.FitVersions.{AreFitVersions}
use Rattle.dbl_consume_courses.specs.Growth.{course_of, point_after, own_span_end, IsVersionAmong}

-- Whether each row of a table that a consumer of a whole log has is in the source at a point of the table's course.
pub record HasOnlySourceRows (identity : Identity) (c : Course) (records : List Record) (moment table : ℕ) : Type 0 where
  pub each : (topic text : List ℕ) (key : Key) → Names identity c.infos topic text table key
      → IsSome (held_row identity records topic text) → IsSome (rows c.infos c.commits moment table key)

-- A log whose last record lies before the start of a course has the same cells there: no key is known yet.
abbrev pub NewCoursesHaveSameCells : Type 0
NewCoursesHaveSameCells = (identity : Identity) (c : Course) (records : List Record) (item : Record) (table : ℕ) → item.position < c.start
    → HasSameCells identity c (records ++ item ∷ []) (course_start c) table

-- With any prefix of a commit's records, a log that has the same cells at a point of the course still has.
abbrev pub PartsOfCommitsKeepSameCells : Type 0
PartsOfCommitsKeepSameCells = (identity : Identity) (infos : List TableInfo)
    (versions : List Versioned) (start table : ℕ) (earlier : List Versioned) (v : Versioned) (later : List Versioned)
    (moment : ℕ) (records : List Record) (now : ℤ) (n : ℕ)
    → IsVersionAmong infos versions start table earlier v later
    → HasSameCells identity (course_of infos start table versions) records moment table
    → HasSameCells identity (course_of infos start table versions) (records ++ take n (envelopes identity v.infos (plain_commit v) now))
    moment table

-- With all records of a commit, a log that had the same cells before the commit has the same cells after it: a key that becomes known by it
-- has its whole row from it, or none.
abbrev pub CommitsMoveSameCells : Type 0
CommitsMoveSameCells = (identity : Identity) (infos : List TableInfo)
    (versions : List Versioned) (start table : ℕ) (earlier : List Versioned) (v : Versioned) (later : List Versioned)
    (records : List Record) (now : ℤ)
    → IsVersionAmong infos versions start table earlier v later → clash_of identity v.infos (plain_commit v) ≡ None
    → IsMomentInRange now
    → HasSameCells identity (course_of infos start table versions) records (point_after infos start table earlier) table
    → HasSameCells identity (course_of infos start table versions) (records ++ envelopes identity v.infos (plain_commit v) now)
    (point_after infos start table (earlier ++ v ∷ [])) table

-- With any prefix of the records of a window that is right at its high watermark, a log that had the same cells there still has. Its records
-- reach no later point, and each of its rows is in the source at the watermark.
abbrev pub PartsOfSnapshotsKeepSameCells : Type 0
PartsOfSnapshotsKeepSameCells = (identity : Identity) (infos : List TableInfo)
    (versions : List Versioned) (start : ℕ) (earlier : List Versioned) (mark : Versioned) (later : List Versioned)
    (low : ℕ) (above : Option Key) (closed : Closed) (records snapshot : List Record) (now : ℤ) (n : ℕ)
    → IsVersionAmong infos versions start closed.table earlier mark later → changes_of (plain_commit mark) ≡ [] → IsMomentInRange now
    → IsSnapshot identity mark.infos closed (plain_commit mark) now snapshot → snapshot_clash identity mark.infos closed ≡ None
    → IsRightWindow (course_of infos start closed.table versions).infos (course_changes (course_of infos start closed.table versions)) low
    (point_after infos start closed.table earlier) above closed
    → course_start (course_of infos start closed.table versions) ≤ low
    → AreToldUpTo identity (course_of infos start closed.table versions).infos
    (since (course_of infos start closed.table versions).start records) closed.table above
    → own_span_end (course_of infos start closed.table versions) records (point_after infos start closed.table earlier)
    ≤ point_after infos start closed.table earlier
    → IsOwnAged identity (course_of infos start closed.table versions) records (point_after infos start closed.table earlier) closed.table
    → HasOnlySourceRows identity (course_of infos start closed.table versions) records (point_after infos start closed.table earlier)
    closed.table
    → HasSameCells identity (course_of infos start closed.table versions) records (point_after infos start closed.table earlier)
    closed.table
    → HasSameCells identity (course_of infos start closed.table versions) (records ++ take n snapshot)
    (point_after infos start closed.table earlier) closed.table

-- Later commits that don't alter the table leave it so.
abbrev pub SameCellsStayAsHistoriesGrow : Type 0
SameCellsStayAsHistoriesGrow = (identity : Identity) (infos : List TableInfo) (versions later : List Versioned) (start table moment : ℕ)
    (records : List Record)
    → AreFitVersions infos (versions ++ later) → AreUnaltered table later → AllByRecursion (λ v. start < v.lsn.0) later
    → moment ≤ point_after infos start table versions
    → HasSameCells identity (course_of infos start table versions) records moment table
    → HasSameCells identity (course_of infos start table (versions ++ later)) records moment table
