-- The age of an altered table as records are delivered and as the history grows: in the table's course, in the cells of the whole log, and
-- in the rows of a consumer of it.
use Rattle.std.specs.Prelude.{◌≡◌, ◌⊎◌, ℕ, ℤ, ◌<◌, ◌≤◌, max, Option, Some, None, List, [], ◌∷◌, ◌++◌, take, flat_map}
use Rattle.std.specs.List.{AllByRecursion}
use Rattle.dbl_record.specs.declared.record.Record.{Record}
use Rattle.dbl_record.specs.Places.{Place, IsTop}
use Rattle.dbl_model_table.specs.declared.identity.Identity.{Identity}
use Rattle.dbl_model_table.specs.declared.row.Key.{Key}
use Rattle.dbl_model_table.specs.declared.table.RawRow.{RawRow}
use Rattle.dbl_model_table.specs.declared.table.TableInfo.{TableInfo}
use Rattle.dbl_model_table.specs.Rows.{changes_of}
use Rattle.dbl_model_history.specs.Ranges.{IsMomentInRange}
use Rattle.dbl_model_event.specs.declared.closed.Closed.{Closed}
use Rattle.dbl_model_event.specs.Events.{notices}
use Rattle.dbl_model_event.specs.EventJson.{envelopes}
use Rattle.dbl_model_event.specs.Clashes.{notice_clash, first_found, clash_of, snapshot_clash}
use Rattle.dbl_model_event.specs.SnapshotLists.{IsSnapshot}
use Rattle.dbl_consume_laws.specs.KnownKeys.{AreToldUpTo}
use Rattle.dbl_consume_laws.specs.Windows.{IsRightWindow}
use Rattle.dbl_consume_courses.specs.Versions.{Versioned, plain_commit}
use Rattle.dbl_consume_courses.specs.Courses.{Course, AreUnaltered, alteration_of}
use Rattle.dbl_consume_courses.specs.Since.{since}
use Rattle.dbl_consume_courses.specs.AlteredTables.{course_changes, course_start, version_moment, position_moment, version_span_end}
use Rattle.dbl_consume_courses.specs.AlteredTables.{IsTableAged}
use Rattle.dbl_consume_courses.specs.FitVersions.{AreFitVersions}
use Rattle.dbl_consume_courses.specs.Growth.{course_of, own_span_end, IsVersionAmong}
use Rattle.dbl_consume_courses.specs.CourseAges.{own_from}

-- Whether a position lies between commits and the next one: not before any of these, and before that one.
pub record IsJustBefore (position : ℕ) (earlier : List Versioned) (v : Versioned) : Type 0 where
  pub upto : AllByRecursion (λ e. e.lsn.0 ≤ position) earlier
  pub before : position < v.lsn.0

-- Whether a commit is in a table's course, which goes as far as the first commits of a valid history, those that are `shown`.
pub record IsInCourse (infos : List TableInfo) (versions shown : List Versioned) (start table : ℕ) (earlier : List Versioned)
    (v : Versioned) (later : List Versioned) : Type 0 where
  pub fit : AreFitVersions infos versions
  pub hidden : List Versioned
  pub parted : versions ≡ shown ++ hidden
  pub among : IsVersionAmong infos shown start table earlier v later

-- ---- one commit more

-- With any prefix of the next commit's records, a log that is aged from a position just before the commit still is.
abbrev pub PartsOfCommitsKeepTableAge : Type 0
PartsOfCommitsKeepTableAge = (identity : Identity) (infos : List TableInfo) (versions shown : List Versioned) (start table : ℕ)
    (earlier : List Versioned) (v : Versioned) (later : List Versioned) (position : ℕ) (records : List Record) (now : ℤ) (n : ℕ)
    → IsInCourse infos versions shown start table earlier v later → IsJustBefore position earlier v → IsMomentInRange now
    → first_found (notice_clash identity.placeholder) (take n (flat_map (notices v.infos) (changes_of (plain_commit v)))) ≡ None
    → IsTableAged identity (course_of infos start table shown) versions records position table
    → IsTableAged identity (course_of infos start table shown) versions
    (records ++ take n (envelopes identity v.infos (plain_commit v) now)) position table

-- With all of the next commit's records, a log that is aged from a position just before the commit is aged from the commit's own.
abbrev pub CommitsMoveTableAge : Type 0
CommitsMoveTableAge = (identity : Identity) (infos : List TableInfo) (versions shown : List Versioned) (start table : ℕ)
    (earlier : List Versioned) (v : Versioned) (later : List Versioned) (position : ℕ) (records : List Record) (now : ℤ)
    → IsInCourse infos versions shown start table earlier v later → IsJustBefore position earlier v → IsMomentInRange now
    → clash_of identity v.infos (plain_commit v) ≡ None
    → IsTableAged identity (course_of infos start table shown) versions records position table
    → IsTableAged identity (course_of infos start table shown) versions (records ++ envelopes identity v.infos (plain_commit v) now)
    v.lsn.0 table

-- ---- one window more

-- With any prefix of the records of a window that is right at its high watermark, a log that is aged from the watermark's position, and has
-- no record after it, still is.
abbrev pub PartsOfSnapshotsKeepTableAge : Type 0
PartsOfSnapshotsKeepTableAge = (identity : Identity) (infos : List TableInfo) (versions shown : List Versioned) (start : ℕ)
    (earlier : List Versioned) (mark : Versioned) (later : List Versioned) (low : ℕ) (above : Option Key) (closed : Closed)
    (records snapshot : List Record) (now : ℤ) (n : ℕ)
    → IsInCourse infos versions shown start closed.table earlier mark later → changes_of (plain_commit mark) ≡ [] → IsMomentInRange now
    → IsSnapshot identity mark.infos closed (plain_commit mark) now snapshot → snapshot_clash identity mark.infos closed ≡ None
    → IsRightWindow (course_of infos start closed.table shown).infos (course_changes (course_of infos start closed.table shown)) low
    (own_from (course_of infos start closed.table shown) mark.lsn.0) above closed
    → course_start (course_of infos start closed.table shown) ≤ low
    → AreToldUpTo identity (course_of infos start closed.table shown).infos
    (since (course_of infos start closed.table shown).start records) closed.table above
    → AllByRecursion (λ item. item.position ≤ mark.lsn.0) records
    → IsTableAged identity (course_of infos start closed.table shown) versions records mark.lsn.0 closed.table
    → IsTableAged identity (course_of infos start closed.table shown) versions (records ++ take n snapshot) mark.lsn.0 closed.table

-- ---- other positions, longer histories

-- A log that is aged from a position which it reaches, in the course and in the history, is aged from each earlier one.
abbrev pub TableAgeGoesBack : Type 0
TableAgeGoesBack = (identity : Identity) (c : Course) (versions : List Versioned) (records : List Record) (from to table : ℕ) → from ≤ to
    → own_from c to ≤ own_span_end c records (own_from c from)
    → position_moment versions to ≤ version_span_end versions records (position_moment versions from)
    → IsTableAged identity c versions records to table → IsTableAged identity c versions records from table

-- A course that goes further leaves it so, up to the table's next alteration: by commits after every record, after the position and after
-- the log's start.
abbrev pub TableAgeStaysAsCoursesGrow : Type 0
TableAgeStaysAsCoursesGrow = (identity : Identity) (infos : List TableInfo) (versions shown more : List Versioned)
    (start table position : ℕ) (records : List Record)
    → AreFitVersions infos (shown ++ more) → AreUnaltered table more → AllByRecursion (λ v. start < v.lsn.0) more
    → AllByRecursion (λ v. position < v.lsn.0) more → AllByRecursion (λ item. AllByRecursion (λ v. item.position < v.lsn.0) more) records
    → IsTableAged identity (course_of infos start table shown) versions records position table
    → IsTableAged identity (course_of infos start table (shown ++ more)) versions records position table

-- Later commits of the history, after every record and after the position, leave it so; they may alter tables.
abbrev pub TableAgeStaysAsHistoriesGrow : Type 0
TableAgeStaysAsHistoriesGrow = (identity : Identity) (infos : List TableInfo) (c : Course) (versions later : List Versioned)
    (position table : ℕ) (records : List Record)
    → AreFitVersions infos (versions ++ later) → AllByRecursion (λ v. position < v.lsn.0) later
    → AllByRecursion (λ item. AllByRecursion (λ v. item.position < v.lsn.0) later) records
    → IsTableAged identity c versions records position table → IsTableAged identity c (versions ++ later) records position table

-- ---- alterations

-- A commit that alters the table, after every record, leaves the log aged from the commit on, in the course that begins there.
abbrev pub AlterationsMoveTableAge : Type 0
AlterationsMoveTableAge = (identity : Identity) (infos : List TableInfo) (versions : List Versioned) (start table : ℕ)
    (earlier : List Versioned) (v : Versioned) (later : List Versioned) (rows : List RawRow) (position : ℕ) (records : List Record)
    → AreFitVersions infos versions → versions ≡ earlier ++ v ∷ later → IsJustBefore position earlier v
    → alteration_of table v.altered ≡ Some rows → start < v.lsn.0 → AllByRecursion (λ item. item.position < v.lsn.0) records
    → IsTableAged identity (course_of infos start table earlier) versions records position table
    → IsTableAged identity (course_of infos start table (earlier ++ v ∷ [])) versions records v.lsn.0 table

-- Whether a commit lies before a course: before its start, or at it and without changes, as the alteration that begins it.
abbrev pub IsBeforeCourse : Course → Versioned → Type 0
IsBeforeCourse c v = (v.lsn.0 < c.start) ⊎ ((v.lsn.0 ≡ c.start) × (changes_of (plain_commit v) ≡ []))

-- With any prefix of the records of a commit that lies before the table's course and is redelivered, a log that is aged from a position
-- just before the commit still is: it has shown nothing of the course then.
abbrev pub PartsOfRepeatsKeepTableAge : Type 0
PartsOfRepeatsKeepTableAge = (identity : Identity) (infos : List TableInfo) (versions shown : List Versioned) (start table : ℕ)
    (earlier : List Versioned) (v : Versioned) (later : List Versioned) (position : ℕ) (records : List Record) (now : ℤ) (n : ℕ)
    → AreFitVersions infos versions → versions ≡ earlier ++ v ∷ later → AreFitVersions infos shown → IsJustBefore position earlier v
    → IsMomentInRange now → IsBeforeCourse (course_of infos start table shown) v
    → IsTableAged identity (course_of infos start table shown) versions records position table
    → IsTableAged identity (course_of infos start table shown) versions
    (records ++ take n (envelopes identity v.infos (plain_commit v) now)) position table

-- With all of them it is aged from the commit on.
abbrev pub RepeatsMoveTableAge : Type 0
RepeatsMoveTableAge = (identity : Identity) (infos : List TableInfo) (versions shown : List Versioned) (start table : ℕ)
    (earlier : List Versioned) (v : Versioned) (later : List Versioned) (position : ℕ) (records : List Record) (now : ℤ)
    → AreFitVersions infos versions → versions ≡ earlier ++ v ∷ later → AreFitVersions infos shown → IsJustBefore position earlier v
    → IsMomentInRange now → IsBeforeCourse (course_of infos start table shown) v
    → IsTableAged identity (course_of infos start table shown) versions records position table
    → IsTableAged identity (course_of infos start table shown) versions (records ++ envelopes identity v.infos (plain_commit v) now)
    v.lsn.0 table

-- ---- the end of a span

-- The records of a log reach exactly the point of their greatest log position.
abbrev pub VersionsReachTheirTop : Type 0
VersionsReachTheirTop = (versions : List Versioned) (from : ℕ) (records : List Record) (top : Place)
    → IsTop records top → version_span_end versions records from ≡ max from (version_moment versions top)
