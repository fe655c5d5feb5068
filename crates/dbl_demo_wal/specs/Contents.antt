-- What is true of every workload that was read.
use Rattle.std.specs.Prelude.{◌≡◌, ℕ, ◌≤◌, None, IfSome, IsTrue, IsUtf8, List, length, map}
use Rattle.std.specs.List.{AllByRecursion}
use Rattle.dbl_script.specs.ModelTable.Tables.{same_name, are_distinct}
use Rattle.dbl_script.specs.ModelTable.declared.named_cell.NamedCell.{NamedCell}
use Rattle.dbl_script.specs.ModelTable.declared.table.RawColumn.{RawColumn}
use Rattle.dbl_script.specs.declared.script.ScriptRow.{ScriptRow}
use Rattle.dbl_script.specs.declared.script.ScriptTable.{ScriptTable}
use Rattle.dbl_script.specs.declared.script.Script.{Script}
use Rattle.dbl_script.specs.declared.script.Step.{Step}
use Rattle.dbl_script.specs.declared.script.Step.TheVariants.{Begin, Commit, Rollback, Insert, Update, Delete, Truncate, Tick}
use Rattle.dbl_script.specs.Scripts.{script_of, first_bad}

-- A column's name has at most 63 bytes.
abbrev pub IsShortColumn : RawColumn → Type 0
IsShortColumn column = length column.name ≤ 63

-- The names of a table's columns have at most 63 bytes.
abbrev pub HasShortColumns : ScriptTable → Type 0
HasShortColumns table = AllByRecursion IsShortColumn table.raw.columns

-- A cell is null or has a UTF-8 text.
abbrev pub IsTextCell : NamedCell → Type 0
IsTextCell cell = IfSome cell.text IsUtf8

-- Each cell is null or has a UTF-8 text.
abbrev pub AreTextCells : List NamedCell → Type 0
AreTextCells cells = AllByRecursion IsTextCell cells

-- Each cell of a row is null or has a UTF-8 text.
abbrev pub IsTextRow : ScriptRow → Type 0
IsTextRow row = AreTextCells row.cells

-- A step's cells have UTF-8 texts, and a truncate names a table.
abbrev pub HasContent : Step → Type 0
HasContent (Begin session) = Unit {0}
HasContent (Commit session) = Unit {0}
HasContent (Rollback session) = Unit {0}
HasContent (Insert session table cells) = AreTextCells cells
HasContent (Update session table key set) = AreTextCells key × AreTextCells set
HasContent (Delete session table key) = AreTextCells key
HasContent (Truncate session tables) = 1 ≤ length tables
HasContent Tick = Unit {0}

-- A script has short names of columns, UTF-8 texts, and truncates that name tables.
pub record HasContents (script : Script) : Type 0 where
  pub tables : AllByRecursion HasShortColumns script.tables
  pub rows : AllByRecursion IsTextRow script.rows
  pub steps : AllByRecursion HasContent script.steps

-- Every script has short names of columns, UTF-8 texts, and truncates that name tables.
abbrev pub ScriptsAreFilled : Type 0
ScriptsAreFilled = (lines : List (List ℕ)) → HasContents (script_of lines)

-- A script has at most 64 tables, of different names.
pub record HasFewTables (script : Script) : Type 0 where
  pub few : length script.tables ≤ 64
  pub distinct : IsTrue (are_distinct same_name (map (λ table. table.raw.name) script.tables))

-- A script with no bad line has at most 64 tables, of different names.
abbrev pub GoodScriptsHaveFewTables : Type 0
GoodScriptsHaveFewTables = (lines : List (List ℕ)) → first_bad lines ≡ None → HasFewTables (script_of lines)
