-- Equal tables: the state of a consumer of the topic log is the source's.
use Rattle.std.specs.Prelude.{ℕ, List, length, map}
use Rattle.dbl_model_table.specs.declared.table.TableInfo.{TableInfo}
use Rattle.dbl_model_table.specs.Rows.{Rows}
use Rattle.dbl_model_history.specs.History.{History}
use Rattle.dbl_model_history.specs.Typed.{typed}
use Rattle.dbl_model_history.specs.VersionRows.{version_rows, versions_to}
use Rattle.dbl_capture_laws.specs.ConsumeLaws.Laws.{last_rows}
use Rattle.dbl_source.specs.SourceLog.declared.logged.Logged.{Logged}
use Rattle.dbl_source.specs.SourceLog.declared.logged.Logged.TheVariants.{Changes}
use Rattle.dbl_source.specs.SourceLog.Histories.{history_of}
use Rattle.dbl_capture_laws.specs.Offset.declared.offset.Offset.{Offset}
use Rattle.dbl_demo_laws.specs.DemoWal.Standings.{tables_of}
use Rattle.dbl_demo_laws.specs.DemoWal.Wals.{Wal}
use Rattle.dbl_demo_laws.specs.DemoWal.Workloads.{log_at, steps_of}
use Rattle.dbl_capture_laws.specs.Faithful.Complete.{HoldsImage}
use Rattle.dbl_capture_laws.specs.Faithful.ConsumeCourses.Courses.{infos_after}
use Rattle.dblog_promise.specs.Contents.{Contents, captured_commits_at, first_infos_at, records_of_contents}

-- The captured tables in the columns in force at a position of the source's log.
abbrev pub infos_at : Contents → Offset → ℕ → List TableInfo
infos_at held offset position = infos_after (first_infos_at held offset) (versions_to position (captured_commits_at held offset))

-- The source's rows at a position of its log, after the commit with that position, in the columns in force there.
abbrev pub source_rows_at : Contents → Offset → ℕ → Rows
source_rows_at held offset position = version_rows (versions_to position (captured_commits_at held offset))

-- The state of a consumer of the topic log is these rows of these tables: for each topic and key text the row with each of its cells, and
-- nothing if there is none.
abbrev pub HoldsRows : Contents → Offset → List TableInfo → Rows → Type 0
HoldsRows held offset infos rows = (topic text : List ℕ) → HoldsImage offset.identity infos rows (records_of_contents held) topic text

-- ---- the whole workload

-- The commits of all steps of a workload in order: its serial run, without watermarks.
abbrev pub whole_log : Wal → List Logged
whole_log wal = map Changes (log_at wal.workload (length (steps_of wal.workload)))

-- The history that the serial run of the whole workload makes.
abbrev pub whole_history : Wal → History
whole_history wal = history_of (tables_of wal) (whole_log wal)

-- The rows of the captured tables that the serial run of the whole workload leaves.
abbrev pub whole_rows : Wal → List TableInfo → Rows
whole_rows wal infos = last_rows infos (typed infos (whole_history wal))
