-- What the windows of a log and a stored progress are where tables may be altered: a window is right in the columns in force at its high
-- watermark, and progress counts for the table's version at the position where it was reported.
use Rattle.std.specs.Prelude.{◌≡◌, ◌⊎◌, ℕ, ℤ, suc, ◌≤◌, ◌==◌, if◌then◌else◌, true, is_some, Some}
use Rattle.std.specs.Prelude.{List, [], ◌∷◌, ◌++◌, take, map, filter, slice_get}
use Rattle.std.specs.List.{AllByRecursion}
use Rattle.dbl_record.specs.declared.record.Record.{Record}
use Rattle.dbl_model_table.specs.declared.identity.Identity.{Identity}
use Rattle.dbl_model_table.specs.declared.row.Key.{Key}
use Rattle.dbl_model_table.specs.declared.table.TableInfo.{TableInfo}
use Rattle.dbl_model_table.specs.declared.change.Body.TheVariants.{Mark}
use Rattle.dbl_model_table.specs.Rows.{rows}
use Rattle.dbl_model_history.specs.declared.cursor.Cursor.{Cursor}
use Rattle.dbl_model_history.specs.KeyBounds.{IsUpTo}
use Rattle.dbl_model_history.specs.MarkTexts.{High, side_text}
use Rattle.dbl_model_history.specs.Ranges.{IsMomentInRange}
use Rattle.dbl_model_event.specs.declared.closed.Closed.{Closed}
use Rattle.dbl_model_event.specs.SnapshotLists.{IsSnapshot}
use Rattle.dbl_consume_laws.specs.Commits.{moment_after}
use Rattle.dbl_consume_laws.specs.KnownKeys.{IsTold}
use Rattle.dbl_consume_laws.specs.Prints.{ReportsProgress}
use Rattle.dbl_consume_courses.specs.Versions.{Versioned, plain_commit, versions_to, version_rows}
use Rattle.dbl_consume_courses.specs.Courses.{alteration_of, course, AreUnaltered}
use Rattle.dbl_consume_courses.specs.Since.{since}
use Rattle.dbl_consume_courses.specs.FitVersions.{AreFitVersions}
use Rattle.dbl_consume_courses.specs.PlainAges.{ArePlain}

-- ---- windows

-- Whether the records of a position are the first ones of a single closed window with its high watermark there, in the columns in force
-- there, and each row of that window is the source's at this position.
pub record HasWindowAt (identity : Identity) (versions : List Versioned) (records : List Record) (position : ℕ) : Type 0 where
  pub before : List Versioned
  pub mark : Versioned
  pub later : List Versioned
  pub spelled : versions ≡ before ++ mark ∷ later
  pub position_is : mark.lsn.0 ≡ position
  pub front : List ℕ
  pub is_high : mark.body ≡ Mark (front ++ side_text High)
  pub closed : Closed
  pub now : ℤ
  pub in_range : IsMomentInRange now
  pub snapshot : List Record
  pub listed : IsSnapshot identity mark.infos closed (plain_commit mark) now snapshot
  pub count : ℕ
  pub shown : filter (λ item. item.position == position) records ≡ take count snapshot
  pub right : AllByRecursion (λ entry. version_rows (before ++ mark ∷ []) closed.table entry.0 ≡ Some entry.1.cells) closed.rows

-- The rows of such a window are those of its table's course at the position.
abbrev pub WindowsAreOfCourses : Type 0
WindowsAreOfCourses = (identity : Identity) (infos : List TableInfo) (versions : List Versioned) (start position : ℕ)
    (records : List Record)
    → AreFitVersions infos versions → (window : HasWindowAt identity versions records position)
    → AllByRecursion (λ entry. rows (course infos versions start window.closed.table position).infos
    (course infos versions start window.closed.table position).commits
    (moment_after (course infos versions start window.closed.table position).commits) window.closed.table entry.0
    ≡ Some entry.1.cells) window.closed.rows

-- If no table is altered, the rows after some commits are those of the history without alterations.
abbrev pub PlainVersionsHavePlainRows : Type 0
PlainVersionsHavePlainRows = (infos : List TableInfo) (versions : List Versioned) (table : ℕ) (key : Key)
    → AreFitVersions infos versions → ArePlain versions
    → version_rows versions table key ≡ rows infos (map plain_commit versions) (moment_after (map plain_commit versions)) table key

-- ---- versions and progress

-- The number of alterations of a table among commits.
abbrev pub alterations_of : ℕ → List Versioned → ℕ
alterations_of table [] = 0
alterations_of table (v ∷ versions) =
    if is_some (alteration_of table v.altered) then suc (alterations_of table versions) else alterations_of table versions

-- The version of a table at a position: 1 and one more for each alteration of it up to there.
abbrev pub version_to : List Versioned → ℕ → ℕ → ℕ
version_to versions table position = suc (alterations_of table (versions_to position versions))

-- Whether a record that isn't after this position reports the table's progress, no later record lies before it, and the version is the
-- table's at its position.
pub record IsCursorOf (identity : Identity) (versions : List Versioned) (records : List Record) (lsn table : ℕ) (info : TableInfo)
    (version : ℕ) (cursor : Cursor) : Type 0 where
  pub earlier : List Record
  pub item : Record
  pub later : List Record
  pub spelled : records ≡ earlier ++ item ∷ later
  pub reports : ReportsProgress identity info item cursor.last cursor.done
  pub not_after : item.position ≤ lsn
  pub settled : AllByRecursion (λ next. item.position ≤ next.position) later
  pub version_is : version ≡ version_to versions table item.position

-- Such progress in the table's version at the offset's LSN is of the log since the table's last alteration: it covers each key up to its
-- last one, or every key if the table was read to its end.
abbrev pub CursorsAreOfCourses : Type 0
CursorsAreOfCourses = (identity : Identity) (infos : List TableInfo) (versions : List Versioned) (records : List Record)
    (start lsn table : ℕ) (info : TableInfo) (version : ℕ) (cursor : Cursor) (key : Key)
    → (told : IsCursorOf identity versions records lsn table info version cursor)
    → slice_get (course infos versions start table lsn).infos table ≡ Some info
    → start ≤ told.item.position → version ≡ version_to versions table lsn
    → (cursor.done ≡ true) ⊎ IsUpTo cursor.last key
    → IsTold identity (course infos versions start table lsn).infos (since (course infos versions start table lsn).start records) table key

-- A table that isn't altered has version 1 everywhere.
abbrev pub UnalteredTablesHaveVersionOne : Type 0
UnalteredTablesHaveVersionOne = (versions : List Versioned) (table position : ℕ) → AreUnaltered table versions
    → version_to versions table position ≡ 1
