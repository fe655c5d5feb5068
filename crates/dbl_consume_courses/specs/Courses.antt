-- The course of one captured table: what is left of a history at the table's last alteration. For the table it is a history without
-- alterations, which begins with the rows that the alteration left. Changes of other tables count in it by their events only.
use Rattle.std.specs.Prelude.{◌≡◌, ℕ, max, ◌==◌, if◌then◌else◌, Option, Some, None, List, [], ◌∷◌, ◌++◌, map, flat_map, fold}
use Rattle.std.specs.List.{AllByRecursion}
use Rattle.dbl_model_table.specs.declared.row.Key.{Key}
use Rattle.dbl_model_table.specs.declared.table.RawRow.{RawRow}
use Rattle.dbl_model_table.specs.declared.table.TableInfo.{TableInfo}
use Rattle.dbl_model_table.specs.declared.change.Change.{Change}
use Rattle.dbl_model_table.specs.declared.change.Change.TheVariants.{Clear}
use Rattle.dbl_model_table.specs.declared.change.Body.{Body}
use Rattle.dbl_model_table.specs.declared.change.Body.TheVariants.{Changes, Mark}
use Rattle.dbl_model_table.specs.declared.change.Commit.{Commit}
use Rattle.dbl_model_table.specs.Rows.{table_of, rows}
use Rattle.dbl_model_event.specs.Events.{notices}
use Rattle.dbl_consume_laws.specs.Commits.{moment_after}
use Rattle.dbl_consume_courses.specs.Versions.{Alteration, Versioned, AreVersionsFrom, versions_to, inserts, version_rows}

-- A change in the course of a table: itself if it is of this table, and else as many truncations of its own table as it has events. So
-- every event keeps its ordinal, and the other table needs no columns.
abbrev pub ticked : List TableInfo → ℕ → Change → List Change
ticked infos table change =
    if table_of change == table then change ∷ [] else map (λ n. Clear (table_of change)) (notices infos change)

-- The contents of a commit in the course of a table.
abbrev pub ticked_body : List TableInfo → ℕ → Body → Body
ticked_body infos table (Changes changes) = Changes (flat_map (ticked infos table) changes)
ticked_body infos table (Mark value) = Mark value

-- A commit in the course of a table that it doesn't alter.
abbrev pub ticked_commit : ℕ → Versioned → Commit
ticked_commit table v =
    record { lsn = v.lsn; end_lsn = v.end_lsn; time = v.time; xid = v.xid; body = ticked_body v.infos table v.body }

-- A commit in the course of the table that it alters: it inserts the table's rows.
abbrev pub opening : ℕ → Versioned → List RawRow → Commit
opening table v rows =
    record { lsn = v.lsn; end_lsn = v.end_lsn; time = v.time; xid = v.xid; body = Changes (inserts v.infos table rows) }

-- A course: the captured tables at its end, its commits, and the position from which changes count as delivered.
pub record Course : Type 0 where
  pub infos : List TableInfo
  pub commits : List Commit
  pub start : ℕ

-- The rows that an alteration leaves, if it is of this table.
abbrev pub alteration_of : ℕ → Option Alteration → Option (List RawRow)
alteration_of table None = None
alteration_of table (Some alteration) = if alteration.table == table then Some alteration.rows else None

-- The course after a commit, by the rows that it leaves if it alters the table: it then begins anew, at the commit.
abbrev pub course_by : ℕ → Course → Versioned → Option (List RawRow) → Course
course_by table course v None =
    record { infos = v.infos; commits = course.commits ++ ticked_commit table v ∷ []; start = course.start }
course_by table course v (Some rows) =
    record { infos = v.infos; commits = opening table v rows ∷ []; start = max course.start v.lsn.0 }

-- The course after a commit.
abbrev pub course_after : ℕ → Course → Versioned → Course
course_after table course v = course_by table course v (alteration_of table v.altered)

-- The course after commits.
abbrev pub course_from : ℕ → Course → List Versioned → Course
course_from table course versions = fold (course_after table) course versions

-- The course before all commits, of a log that starts at this position.
abbrev pub first_course : List TableInfo → ℕ → Course
first_course infos start = record { infos = infos; commits = []; start = start }

-- The course of a table at a position, for a log that starts at `start`, where `infos` are captured before all commits.
abbrev pub course : List TableInfo → List Versioned → ℕ → ℕ → ℕ → Course
course infos versions start table position = course_from table (first_course infos start) (versions_to position versions)

-- ---- theorems

-- Whether none of the commits alters the table.
abbrev pub AreUnaltered : ℕ → List Versioned → Type 0
AreUnaltered table versions = AllByRecursion (λ v. alteration_of table v.altered ≡ None) versions

-- The captured tables after these commits.
abbrev pub infos_after : List TableInfo → List Versioned → List TableInfo
infos_after infos versions = fold (λ old v. v.infos) infos versions

-- A course goes on by each commit that doesn't alter its table.
abbrev pub CoursesGoOn : Type 0
CoursesGoOn = (table : ℕ) (old : Course) (versions : List Versioned) → AreUnaltered table versions
    → course_from table old versions
    ≡ record { infos = infos_after old.infos versions; commits = old.commits ++ map (ticked_commit table) versions; start = old.start }

-- After an alteration a course has nothing of what was before it but the start, if that is later.
abbrev pub CoursesBeginAnew : Type 0
CoursesBeginAnew = (table : ℕ) (old : Course) (before : List Versioned) (v : Versioned) (rows : List RawRow) (later : List Versioned)
    → alteration_of table v.altered ≡ Some rows → AreUnaltered table later
    → course_from table old (before ++ v ∷ later)
    ≡ record {
      infos = infos_after v.infos later;
      commits = opening table v rows ∷ map (ticked_commit table) later;
      start = max (course_from table old before).start v.lsn.0;
    }

-- A course shows the rows of its table: those of the history with its alterations.
abbrev pub CoursesShowRows : Type 0
CoursesShowRows = (infos : List TableInfo) (versions : List Versioned) (start table : ℕ) (key : Key) → AreVersionsFrom infos versions
    → rows (course_from table (first_course infos start) versions).infos (course_from table (first_course infos start) versions).commits
    (moment_after (course_from table (first_course infos start) versions).commits) table key
    ≡ version_rows versions table key

-- The captured tables at the end of a course describe its table as the history does there.
abbrev pub CoursesHaveInfos : Type 0
CoursesHaveInfos = (infos : List TableInfo) (versions : List Versioned) (start table : ℕ)
    → (course_from table (first_course infos start) versions).infos ≡ infos_after infos versions
