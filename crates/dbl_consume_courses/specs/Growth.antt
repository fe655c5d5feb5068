-- The staleness of a table's cells in its course, as records are delivered and as the history grows.
use Rattle.std.specs.Prelude.{◌≡◌, ℕ, ℤ, ◌<◌, ◌≤◌, Option, None, List, [], ◌∷◌, ◌++◌, take, flat_map}
use Rattle.std.specs.List.{AllByRecursion}
use Rattle.dbl_record.specs.declared.record.Record.{Record}
use Rattle.dbl_model_table.specs.declared.identity.Identity.{Identity}
use Rattle.dbl_model_table.specs.declared.row.Key.{Key}
use Rattle.dbl_model_table.specs.declared.table.TableInfo.{TableInfo}
use Rattle.dbl_model_table.specs.Rows.{changes_of}
use Rattle.dbl_model_history.specs.Ranges.{IsMomentInRange}
use Rattle.dbl_model_event.specs.declared.closed.Closed.{Closed}
use Rattle.dbl_model_event.specs.Events.{notices}
use Rattle.dbl_model_event.specs.EventJson.{envelopes}
use Rattle.dbl_model_event.specs.Clashes.{notice_clash, first_found, clash_of, snapshot_clash}
use Rattle.dbl_model_event.specs.SnapshotLists.{IsSnapshot}
use Rattle.dbl_consume_laws.specs.Commits.{moment_after}
use Rattle.dbl_consume_laws.specs.Moments.{span_end}
use Rattle.dbl_consume_laws.specs.KnownKeys.{AreToldUpTo}
use Rattle.dbl_consume_laws.specs.Windows.{IsRightWindow}
use Rattle.dbl_consume_courses.specs.Versions.{Versioned, plain_commit}
use Rattle.dbl_consume_courses.specs.Courses.{Course, course_from, first_course, AreUnaltered}
use Rattle.dbl_consume_courses.specs.Since.{since}
use Rattle.dbl_consume_courses.specs.AlteredTables.{course_changes, course_start, IsOwnAged}
use Rattle.dbl_consume_courses.specs.FitVersions.{AreFitVersions}

-- The course of a table after commits, of a log that starts at `start`.
abbrev pub course_of : List TableInfo → ℕ → ℕ → List Versioned → Course
course_of infos start table versions = course_from table (first_course infos start) versions

-- The point in a table's course after commits.
abbrev pub point_after : List TableInfo → ℕ → ℕ → List Versioned → ℕ
point_after infos start table versions = moment_after (course_of infos start table versions).commits

-- The end of the span from a point on, in a table's course.
abbrev pub own_span_end : Course → List Record → ℕ → ℕ
own_span_end c records from = span_end c.infos c.commits (course_start c) (since c.start records) from

-- Whether a commit is in a table's course, between those before it and the later ones, after the log's start: neither it nor a later one
-- alters the table.
pub record IsVersionAmong (infos : List TableInfo) (versions : List Versioned) (start table : ℕ) (earlier : List Versioned)
    (v : Versioned) (later : List Versioned) : Type 0 where
  pub fit : AreFitVersions infos versions
  pub spelled : versions ≡ earlier ++ v ∷ later
  pub unaltered : AreUnaltered table (v ∷ later)
  pub after : start < v.lsn.0

-- ---- one commit more

-- Any prefix of a commit's records leaves records aged that reach its start, where they were aged before.
abbrev pub PartsOfCommitsKeepOwnAge : Type 0
PartsOfCommitsKeepOwnAge = (identity : Identity) (infos : List TableInfo)
    (versions : List Versioned) (start table : ℕ) (earlier : List Versioned) (v : Versioned) (later : List Versioned)
    (from : ℕ) (records : List Record) (now : ℤ) (n : ℕ)
    → IsVersionAmong infos versions start table earlier v later → IsMomentInRange now
    → first_found (notice_clash identity.placeholder) (take n (flat_map (notices v.infos) (changes_of (plain_commit v)))) ≡ None
    → from ≤ point_after infos start table earlier
    → point_after infos start table earlier ≤ own_span_end (course_of infos start table versions) records from
    → IsOwnAged identity (course_of infos start table versions) records from table
    → IsOwnAged identity (course_of infos start table versions) (records ++ take n (envelopes identity v.infos (plain_commit v) now))
    from table

-- With all records of a commit, records that were aged before it are aged at the point after it.
abbrev pub CommitsMoveOwnAge : Type 0
CommitsMoveOwnAge = (identity : Identity) (infos : List TableInfo)
    (versions : List Versioned) (start table : ℕ) (earlier : List Versioned) (v : Versioned) (later : List Versioned)
    (records : List Record) (now : ℤ)
    → IsVersionAmong infos versions start table earlier v later → clash_of identity v.infos (plain_commit v) ≡ None
    → IsMomentInRange now
    → IsOwnAged identity (course_of infos start table versions) records (point_after infos start table earlier) table
    → IsOwnAged identity (course_of infos start table versions) (records ++ envelopes identity v.infos (plain_commit v) now)
    (point_after infos start table (earlier ++ v ∷ [])) table

-- ---- one window more

-- Any prefix of the records of a window that is right at its high watermark leaves records aged at that watermark. The low watermark is
-- after the course's start, and each key up to the window's beginning is covered by the records since then.
abbrev pub PartsOfSnapshotsKeepOwnAge : Type 0
PartsOfSnapshotsKeepOwnAge = (identity : Identity) (infos : List TableInfo)
    (versions : List Versioned) (start : ℕ) (earlier : List Versioned) (mark : Versioned) (later : List Versioned)
    (low : ℕ) (above : Option Key) (closed : Closed) (records snapshot : List Record) (now : ℤ) (n : ℕ)
    → IsVersionAmong infos versions start closed.table earlier mark later → changes_of (plain_commit mark) ≡ [] → IsMomentInRange now
    → IsSnapshot identity mark.infos closed (plain_commit mark) now snapshot → snapshot_clash identity mark.infos closed ≡ None
    → IsRightWindow (course_of infos start closed.table versions).infos (course_changes (course_of infos start closed.table versions)) low
    (point_after infos start closed.table earlier) above closed
    → course_start (course_of infos start closed.table versions) ≤ low
    → AreToldUpTo identity (course_of infos start closed.table versions).infos
    (since (course_of infos start closed.table versions).start records) closed.table above
    → IsOwnAged identity (course_of infos start closed.table versions) records (point_after infos start closed.table earlier) closed.table
    → IsOwnAged identity (course_of infos start closed.table versions) (records ++ take n snapshot)
    (point_after infos start closed.table earlier) closed.table

-- ---- other points, longer histories

-- Records that are aged at a point of a course which they reach are aged at each earlier one.
abbrev pub OwnAgeGoesBack : Type 0
OwnAgeGoesBack = (identity : Identity) (c : Course) (from to table : ℕ) (records : List Record)
    → from ≤ to → to ≤ own_span_end c records from → IsOwnAged identity c records to table → IsOwnAged identity c records from table

-- Later commits that don't alter the table leave records aged if they are after every record and after the log's start.
abbrev pub OwnAgeStaysAsHistoriesGrow : Type 0
OwnAgeStaysAsHistoriesGrow = (identity : Identity) (infos : List TableInfo) (versions later : List Versioned) (start table from : ℕ)
    (records : List Record)
    → AreFitVersions infos (versions ++ later) → AreUnaltered table later
    → AllByRecursion (λ v. start < v.lsn.0) later
    → AllByRecursion (λ item. AllByRecursion (λ v. item.position < v.lsn.0) later) records
    → from ≤ point_after infos start table versions
    → IsOwnAged identity (course_of infos start table versions) records from table
    → IsOwnAged identity (course_of infos start table (versions ++ later)) records from table
