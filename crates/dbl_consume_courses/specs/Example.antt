-- A small history with an alteration: insert a into t, insert x into u, add a column to t, insert y into u; and its log.
use Rattle.std.specs.Prelude.{◌≡◌, ℕ, pos, true, Some, None, List, [], ◌∷◌, ◌++◌, codes}
use Rattle.dbl_value_types.specs.declared.column_type.PgType.TheVariants as type
use Rattle.dbl_value_types.specs.declared.value.Val.TheVariants as val
use Rattle.dbl_record.specs.declared.record.Record.{Record}
use Rattle.dbl_model_table.specs.declared.identity.Identity.{Identity}
use Rattle.dbl_model_table.specs.declared.table.RawRow.{RawRow}
use Rattle.dbl_model_table.specs.declared.row.Key.{Key}
use Rattle.dbl_model_table.specs.declared.row.Row.{Row}
use Rattle.dbl_model_table.specs.declared.table.TableInfo.{TableInfo}
use Rattle.dbl_model_table.specs.declared.change.Body.{Body}
use Rattle.dbl_model_table.specs.declared.change.Body.TheVariants.{Changes, Mark}
use Rattle.dbl_model_table.specs.declared.change.Change.TheVariants.{Clear, Insert}
use Rattle.dbl_model_table.specs.declared.change.Commit.{Commit}
use Rattle.dbl_model_history.specs.declared.cursor.Cursor.{Cursor}
use Rattle.dbl_model_event.specs.declared.closed.Closed.{Closed}
use Rattle.dbl_model_event.specs.Snapshots.{snapshot}
use Rattle.dbl_consume_courses.specs.Versions.{Versioned, AreVersionsFrom, plain_commit}
use Rattle.dbl_consume_courses.specs.AlteredTables.{IsTableAged}
use Rattle.dbl_consume_courses.specs.Courses.{course, opening}
use Rattle.dbl_consume_courses.specs.Since.{since}
use Rattle.dbl_consume_courses.specs.Growth.{course_of, IsVersionAmong}
use Rattle.dbl_consume_courses.specs.KeyRows.{HasRowsOfKeys}
use Rattle.dbl_consume_courses.specs.FitVersions.{AreFitVersions}
use Rattle.dbl_consume_courses.specs.VersionStores.{HasWindowAt, IsCursorOf}
use Rattle.dbl_consume_courses.specs.TableAges.{IsJustBefore, IsInCourse, IsBeforeCourse}

-- The table t, which has its key only.
abbrev pub old_table : TableInfo
old_table = record {
  name = record { schema = codes "public"; name = codes "t" };
  columns = record { name = codes "k"; ty = type.Text } ∷ [];
  key = 0 ∷ [];
  -- The name is allowed, and the key is a column.
  sound = λ i. true;
}

-- The table t with one column more.
abbrev pub new_table : TableInfo
new_table = record {
  name = record { schema = codes "public"; name = codes "t" };
  columns = record { name = codes "k"; ty = type.Text } ∷ record { name = codes "v"; ty = type.Text } ∷ [];
  key = 0 ∷ [];
  sound = λ i. true;
}

-- The table u.
abbrev pub other_table : TableInfo
other_table = record {
  name = record { schema = codes "public"; name = codes "u" };
  columns = record { name = codes "k"; ty = type.Text } ∷ [];
  key = 0 ∷ [];
  sound = λ i. true;
}

-- The captured tables before the alteration, and from it on.
abbrev pub old_infos : List TableInfo
old_infos = old_table ∷ other_table ∷ []

abbrev pub new_infos : List TableInfo
new_infos = new_table ∷ other_table ∷ []

-- The row with this text.
abbrev pub text_row : List ℕ → Row
text_row text = record { cells = val.Text text ∷ [] }

-- A commit with this LSN and these contents, which alters nothing.
abbrev pub version_at : ℕ → List TableInfo → Body → Versioned
version_at lsn infos body =
    record { lsn = record { 0 = lsn }; end_lsn = record { 0 = lsn }; time = pos 0; xid = 1; body = body; infos = infos; altered = None }

-- The rows that the alteration leaves.
abbrev pub new_rows : List RawRow
new_rows = record { cells = Some (codes "a") ∷ Some (codes "1") ∷ [] } ∷ []

-- The commit that alters t.
abbrev pub alteration : Versioned
alteration = record (version_at 3 new_infos (Changes [])) { altered = Some (record { table = 0; rows = new_rows }) }

-- The commits up to the alteration, and the one after it.
abbrev pub first_versions : List Versioned
first_versions =
    version_at 1 old_infos (Changes (Insert 0 (text_row (codes "a")) ∷ []))
    ∷ version_at 2 old_infos (Changes (Insert 1 (text_row (codes "x")) ∷ []))
    ∷ alteration
    ∷ []

abbrev pub last_version : Versioned
last_version = version_at 4 new_infos (Changes (Insert 1 (text_row (codes "y")) ∷ []))

-- The commits of the example.
abbrev pub example_versions : List Versioned
example_versions = first_versions ++ last_version ∷ []

-- A record at this position.
abbrev pub record_at : ℕ → Record
record_at position =
    record { topic = []; key = None; value = None; position = position; ordinal = 0; last = true; newkey = None; oldkey = None }

-- The last commit in the course of t: one truncation of u, for its one event.
abbrev pub last_tick : Commit
last_tick =
    record { lsn = record { 0 = 4 }; end_lsn = record { 0 = 4 }; time = pos 0; xid = 1; body = Changes (Clear 1 ∷ []) }

-- The commits follow one another and are those of a valid history, of which the last one is in the course of t; this course begins at the
-- alteration of t; and a log's records since then are those after its last record before it.
abbrev pub AlteredTablesStand : Type 0
AlteredTablesStand = AreVersionsFrom old_infos example_versions
    × IsVersionAmong old_infos example_versions 0 0 first_versions last_version []
    × (course old_infos example_versions 0 0 4
    ≡ record { infos = new_infos; commits = opening 0 alteration new_rows ∷ last_tick ∷ []; start = 3 })
    × (since 3 (record_at 1 ∷ record_at 4 ∷ record_at 2 ∷ record_at 4 ∷ []) ≡ record_at 4 ∷ [])

-- The example meets what the theorems on the age of an altered table require: its last commit is the next one after the alteration, in the
-- course of t; an empty log is aged from the alteration on, with each of its rows at a key; and the first commit lies before the course.
abbrev pub AgedTablesStand : Type 0
AgedTablesStand = (identity : Identity)
    → IsInCourse old_infos example_versions example_versions 0 0 first_versions last_version []
    × IsJustBefore 3 first_versions last_version
    × IsTableAged identity (course_of old_infos 0 0 example_versions) example_versions [] 3 0
    × HasRowsOfKeys identity old_infos [] 0
    × IsBeforeCourse (course_of old_infos 0 0 example_versions) (version_at 1 old_infos (Changes (Insert 0 (text_row (codes "a")) ∷ [])))

-- ---- a window after the alteration

-- The commit of a high watermark, after the commits of the example.
abbrev pub high_mark : Versioned
high_mark = version_at 5 new_infos (Mark (codes "1-1-H"))

abbrev pub marked_versions : List Versioned
marked_versions = example_versions ++ high_mark ∷ []

-- The key of the row of t.
abbrev pub key_a : Key
key_a = record { cells = val.Text (codes "a") ∷ [] }

-- The window in which the whole table t was read, in its new columns.
abbrev pub whole_window : Closed
whole_window = record {
  table = 0;
  rows = (key_a, record { cells = val.Text (codes "a") ∷ val.Text (codes "1") ∷ [] }) ∷ [];
  through = Some key_a;
  done = true;
}

-- The progress after it.
abbrev pub whole_cursor : Cursor
whole_cursor = record { last = Some key_a; done = true }

-- The records of that window.
abbrev pub window_records : Identity → List Record
window_records identity = snapshot identity new_infos whole_window (plain_commit high_mark) (pos 0)

-- A log of these records meets what the theorems on windows and progress require: they are a right window in the columns in force at its
-- high watermark, and the last one reports the progress of t in its second version.
abbrev pub VersionStoresStand : Type 0
VersionStoresStand = (identity : Identity)
    → AreFitVersions old_infos marked_versions
    × HasWindowAt identity marked_versions (window_records identity) 5
    × IsCursorOf identity marked_versions (window_records identity) 5 0 new_table 2 whole_cursor
