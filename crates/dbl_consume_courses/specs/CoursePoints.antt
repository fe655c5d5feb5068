-- The points of a table's course are points of the history, with the same rows: each value that is had within a span of the course is had
-- within one of the history, in whose time other tables' changes count too.
use Rattle.std.specs.Prelude.{◌≡◌, ℕ, ◌≤◌, max, List}
use Rattle.dbl_record.specs.declared.record.Record.{Record}
use Rattle.dbl_model_table.specs.declared.row.Key.{Key}
use Rattle.dbl_model_table.specs.declared.table.TableInfo.{TableInfo}
use Rattle.dbl_model_table.specs.Rows.{no_rows, rows}
use Rattle.dbl_consume_courses.specs.Versions.{Versioned, rows_upto}
use Rattle.dbl_consume_courses.specs.Courses.{Course}
use Rattle.dbl_consume_courses.specs.AlteredTables.{position_moment, version_span_end}
use Rattle.dbl_consume_courses.specs.FitVersions.{AreFitVersions}
use Rattle.dbl_consume_courses.specs.Growth.{course_of, own_span_end}
use Rattle.dbl_consume_courses.specs.CourseAges.{own_from}

-- Whether a history has, at some point within a span, the rows of the table that a course has at a point of its own.
pub record HasRowsWithin (c : Course) (versions : List Versioned) (table moment from to : ℕ) : Type 0 where
  pub point : ℕ
  pub not_before : from ≤ point
  pub not_after : point ≤ to
  pub same : (key : Key) → rows_upto no_rows versions point table key ≡ rows c.infos c.commits moment table key

-- Each point of a span of a table's course has the table's rows of some point of the history's span: from the position, or from the table's
-- last alteration if that is later, to the greatest point that the records reach.
abbrev pub PointsOfCoursesArePoints : Type 0
PointsOfCoursesArePoints = (infos : List TableInfo) (versions : List Versioned) (start table position : ℕ) (records : List Record)
    (moment : ℕ)
    → AreFitVersions infos versions
    → own_from (course_of infos start table versions) position ≤ moment
    → moment
    ≤ own_span_end (course_of infos start table versions) records (own_from (course_of infos start table versions) position)
    → HasRowsWithin (course_of infos start table versions) versions table moment
    (position_moment versions (max position (course_of infos start table versions).start))
    (version_span_end versions records (position_moment versions (max position (course_of infos start table versions).start)))
