-- Definitions for the plain functions over histories whose tables may be altered.
use Rattle.std.specs.Prelude.{ℕ, ◌==◌, nat_le, if◌then◌else◌, Option, Some, None, option_map, List, map}
use Rattle.dbl_value_types.specs.declared.column_type.PgType.{PgType}
use Rattle.dbl_value_types.specs.declared.value.Val.{Val}
use Rattle.dbl_model_table.specs.declared.row.Key.{Key}
use Rattle.dbl_model_table.specs.declared.table.TableInfo.{TableInfo}
use Rattle.dbl_model_table.specs.declared.table.Column.{Column}
use Rattle.dbl_model_history.specs.InForce.{Alteration, Versioned}
use Rattle.dbl_model_history.specs.PlainRows.{row_from}
use Rattle.dbl_model_history.specs.VersionRows.{inserts}
use Rattle.dbl_consume_courses.specs.Courses.{Course, course_after}
use Rattle.cases_courses.specs.declared.versions.Version.{Version}
use Rattle.cases_courses.specs.declared.versions.AlteredRows.{AlteredRows}
use Rattle.cases_courses.specs.declared.courses.TableCourse.{TableCourse}

-- An alteration as the definitions have it.
abbrev pub alteration_with : AlteredRows → Alteration
alteration_with altered = record { table = altered.table; rows = altered.rows }

-- A commit with its captured tables as the definitions have it.
abbrev pub versioned_of : Version → Versioned
versioned_of version = record {
  lsn = version.commit.lsn;
  end_lsn = version.commit.end_lsn;
  time = version.commit.time;
  xid = version.commit.xid;
  body = version.commit.body;
  infos = version.infos.items;
  altered = option_map alteration_with version.altered;
}

-- The commits of a history as the definitions have them.
abbrev pub all_versioned : List Version → List Versioned
all_versioned versions = map versioned_of versions

-- A course as the definitions have it.
abbrev pub course_with : TableCourse → Course
course_with course = record { infos = course.infos.items; commits = course.commits.items; start = course.start }

-- The types of columns.
abbrev pub column_types : List Column → List PgType
column_types columns = map (λ column. column.ty) columns

-- The row at a table and key after an alteration, where `row` is the one before it.
abbrev pub altered_row : List TableInfo → Option Alteration → ℕ → Key → Option (List Val) → Option (List Val)
altered_row infos None table key row = row
altered_row infos (Some alteration) table key row =
    if alteration.table == table then row_from infos table key None (inserts infos table alteration.rows) else row

-- The course of a table after a commit, if that isn't after the position.
abbrev pub course_upto : ℕ → ℕ → Course → Versioned → Course
course_upto table position course v = if nat_le v.lsn.0 position then course_after table course v else course
