-- The rows that a select of a small transactional store shows, none for a table that doesn't exist.
use Rattle.std.specs.Prelude.{◌≡◌, ℕ, Option, None, Some, List, []}
use Rattle.dbl_script.specs.ModelTable.declared.row.Key.{Key}
use Rattle.dbl_script.specs.ModelTable.declared.table.RawRow.{RawRow}
use Rattle.dbl_script.specs.ModelTable.declared.table.TableName.{TableName}
use Rattle.dbl_tables_laws.specs.SourceLog.TextRows.{TextRows}
use Rattle.dbl_tables_laws.specs.TablesRows.declared.demo_table.DemoTable.{DemoTable}
use Rattle.dbl_tables_laws.specs.TablesRows.Acts.{Accepted}
use Rattle.dbl_tables_laws.specs.TablesRows.Seen.{committed_rows}
use Rattle.dbl_tables_laws.specs.TablesRows.Selects.{AreShown}
use Rattle.dbl_tables_laws.specs.TablesRows.Sending.{log_tables}
use Rattle.dbl_tables_laws.specs.TablesRows.Steps.{FoundTable, found}

-- The first rows above a key of a table, or none if it doesn't exist.
abbrev pub ShownAt : TextRows → Option Key → ℕ → Option FoundTable → List RawRow → Type 0
ShownAt at above limit None rows = rows ≡ []
ShownAt at above limit (Some there) rows = AreShown there.table.info (at there.table.info.name) above limit rows

-- A select shows committed rows only, and no uncommitted change of any session.
abbrev pub AreRowsShown : List DemoTable → List Accepted → TableName → Option Key → ℕ → List RawRow → Type 0
AreRowsShown tables past name above limit rows = ShownAt (committed_rows (log_tables tables) past) above limit (found tables name) rows
