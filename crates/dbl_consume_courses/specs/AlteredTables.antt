-- What a log shows of a table that was altered: all of it in the columns since the last alteration, over the table's course. After the
-- DBLog paper, made exact.
use Rattle.std.specs.Prelude.{◌≡◌, ℕ, ◌+◌, ◌<◌, ◌≤◌, ◌==◌, max, nat_le, nat_lt, if◌then◌else◌, true, Some, IsSome, List, [], ◌∷◌, ◌++◌, take, length, fold, slice_get}
use Rattle.std.specs.List.{AllByRecursion}
use Rattle.dbl_record.specs.declared.record.Record.{Record}
use Rattle.dbl_record.specs.Places.{Place, place_of, IsFresh}
use Rattle.dbl_model_table.specs.declared.identity.Identity.{Identity}
use Rattle.dbl_model_table.specs.declared.row.Key.{Key}
use Rattle.dbl_model_table.specs.declared.table.TableInfo.{TableInfo}
use Rattle.dbl_model_table.specs.declared.change.Change.{Change}
use Rattle.dbl_model_table.specs.Rows.{no_rows, changes_of, rows, all_changes, moment_at}
use Rattle.dbl_model_history.specs.Image.{Names, image_row}
use Rattle.dbl_consume_laws.specs.Laws.{HoldsJsonTexts}
use Rattle.dbl_consume_laws.specs.Commits.{moment_after}
use Rattle.dbl_consume_laws.specs.Moments.{changes_through, span_end}
use Rattle.dbl_consume_laws.specs.KnownKeys.{IsKnown}
use Rattle.dbl_consume_laws.specs.Ages.{held_row, held_cell, source_cell, IsAgedCell, IsAged}
use Rattle.dbl_consume_courses.specs.Versions.{Versioned, plain_commit, rows_upto}
use Rattle.dbl_consume_courses.specs.Courses.{Course, course}
use Rattle.dbl_consume_courses.specs.Since.{since}

-- The changes of a course.
abbrev pub course_changes : Course → List Change
course_changes c = all_changes c.commits

-- The point in a course at which its changes begin to count.
abbrev pub course_start : Course → ℕ
course_start c = moment_at c.commits c.start

-- Whether a key of a table is known at a point of the table's course: by a change since the course's start, or by a progress record after
-- the last record that lies before that start. One at the start itself counts too.
abbrev pub IsKnownIn : Identity → Course → List Record → ℕ → ℕ → Key → Type 0
IsKnownIn identity c records moment table key =
    IsKnown identity c.infos (course_changes c) (course_start c) (since c.start records) moment table key

-- Agreement at first delivery, of tables that may be altered: at each fresh record that is the last of its commit, a consumer of the
-- records up to it has exactly the source's row, or none, at that commit's position and each key known there, in the columns in force
-- there.
pub record AgreesInCourse (identity : Identity) (infos : List TableInfo) (versions : List Versioned) (start : ℕ)
    (records : List Record) : Type 0 where
  pub each : (i : ℕ) (item : Record) → slice_get records i ≡ Some item → IsFresh records i → item.last ≡ true
      → (topic text : List ℕ) (table : ℕ) (key : Key)
      → Names identity (course infos versions start table item.position).infos topic text table key
      → IsKnownIn identity (course infos versions start table item.position) (take (i + 1) records)
      (moment_after (course infos versions start table item.position).commits) table key
      → HoldsJsonTexts (held_row identity (take (i + 1) records) topic text)
      (image_row (course infos versions start table item.position).infos
      (rows (course infos versions start table item.position).infos (course infos versions start table item.position).commits
      (moment_after (course infos versions start table item.position).commits)) table key)

-- ---- points in a history with alterations: numbers of changes, counted from its start

-- The point that a place corresponds to: each change has its events in the columns in force at it.
abbrev pub version_moment : List Versioned → Place → ℕ
version_moment [] place = 0
version_moment (v ∷ versions) place =
    if nat_lt v.lsn.0 place.0 then length (changes_of (plain_commit v)) + version_moment versions place
    else (if v.lsn.0 == place.0 then changes_through v.infos (changes_of (plain_commit v)) place.1 else 0)

-- The point of a position: after all commits up to it.
abbrev pub position_moment : List Versioned → ℕ → ℕ
position_moment [] position = 0
position_moment (v ∷ versions) position =
    if nat_le v.lsn.0 position then length (changes_of (plain_commit v)) + position_moment versions position else 0

-- The end of the span from a point on: the greatest point of a record, or the point itself if that is later.
abbrev pub version_span_end : List Versioned → List Record → ℕ → ℕ
version_span_end versions records from = fold (λ far item. max far (version_moment versions (place_of item))) from records

-- Whether the source has a row at a table and key at some point of a span, in whatever columns.
pub record WasThereThrough (versions : List Versioned) (from to table : ℕ) (key : Key) : Type 0 where
  pub moment : ℕ
  pub not_before : from ≤ moment
  pub not_after : moment ≤ to
  pub present : IsSome (rows_upto no_rows versions moment table key)

-- ---- age

-- Whether the records since the start of a table's course are aged at a point of the course, as far as this table goes.
pub record IsOwnAged (identity : Identity) (c : Course) (records : List Record) (from table : ℕ) : Type 0 where
  pub each : (topic text : List ℕ) (key : Key) (column : List ℕ) → Names identity c.infos topic text table key
      → IsAgedCell
      (IsKnownIn identity c records (span_end c.infos c.commits (course_start c) (since c.start records) from) table key)
      (source_cell c.infos (course_changes c) table key column) from
      (span_end c.infos c.commits (course_start c) (since c.start records) from)
      (held_cell identity (since c.start records) topic text column)

-- Whether a consumer of a whole log has the cells that one of the log since a course's start has, at each key known at a point of the course.
pub record HasSameCells (identity : Identity) (c : Course) (records : List Record) (moment table : ℕ) : Type 0 where
  pub each : (topic text : List ℕ) (key : Key) (column : List ℕ) → Names identity c.infos topic text table key
      → IsKnownIn identity c records moment table key
      → held_cell identity records topic text column ≡ held_cell identity (since c.start records) topic text column

-- The records of a log of an altered table are aged from a position on, in the table's course at the end of the span. Of the log since the
-- table's last alteration it is said in full, in the columns since then. The whole log has the same cells as the log since then at each key
-- that is known where that span begins; and each of its rows was in the source at some point of the span of the whole log.
pub record IsTableAged (identity : Identity) (c : Course) (versions : List Versioned) (records : List Record)
    (position table : ℕ) : Type 0 where
  pub own : IsOwnAged identity c records (moment_at c.commits (max position c.start)) table
  pub same : HasSameCells identity c records (moment_at c.commits (max position c.start)) table
  pub there : (topic text : List ℕ) (key : Key) → Names identity c.infos topic text table key
      → IsSome (held_row identity records topic text)
      → WasThereThrough versions (position_moment versions position)
      (version_span_end versions records (position_moment versions position)) table key

-- The greatest position of records, or the given one if that is greater.
abbrev pub last_position : ℕ → List Record → ℕ
last_position position records = fold (λ far item. max far item.position) position records

-- The records of a log of a table are aged from a position on, for a log that starts at `start`: in the table's course at the end of the
-- span.
abbrev pub IsAgedFrom : Identity → List TableInfo → List Versioned → ℕ → List Record → ℕ → ℕ → Type 0
IsAgedFrom identity infos versions start records position table =
    IsTableAged identity (course infos versions start table (last_position position records)) versions records position table

-- ---- theorems

-- What is aged in the course as in any history, is so of its table.
abbrev pub AgedCoursesAreOwn : Type 0
AgedCoursesAreOwn = (identity : Identity) (c : Course) (records : List Record) (from table : ℕ)
    → IsAged identity c.infos c.commits (course_start c) (since c.start records) from → IsOwnAged identity c records from table

-- A log whose last record lies before the start of a course is aged there: of the columns since then it has shown nothing yet.
abbrev pub NewCoursesAreAged : Type 0
NewCoursesAreAged = (identity : Identity) (c : Course) (records : List Record) (item : Record) (table : ℕ) → item.position < c.start
    → IsOwnAged identity c (records ++ item ∷ []) (course_start c) table

-- In a course whose start no record lies before, the log is aged as one of a table that was never altered.
abbrev pub LateLogsAgeAsPlain : Type 0
LateLogsAgeAsPlain = (identity : Identity) (c : Course) (records : List Record) (from table : ℕ)
    → AllByRecursion (λ item. c.start ≤ item.position) records
    → IsAged identity c.infos c.commits (course_start c) records from → IsOwnAged identity c records from table

-- No key is known where a course begins, in a log that has shown nothing since then.
abbrev pub NothingIsKnownAtFirst : Type 0
NothingIsKnownAtFirst = (identity : Identity) (c : Course) (records : List Record) (item : Record) (table : ℕ) (key : Key)
    → item.position < c.start → ¬ IsKnownIn identity c (records ++ item ∷ []) (course_start c) table key

-- Where no record lies before the start, the whole log is that since the start, so that they have the same rows.
abbrev pub LateLogsHaveTheSameRows : Type 0
LateLogsHaveTheSameRows = (identity : Identity) (c : Course) (records : List Record) (topic text : List ℕ)
    → AllByRecursion (λ item. c.start ≤ item.position) records
    → held_row identity records topic text ≡ held_row identity (since c.start records) topic text
