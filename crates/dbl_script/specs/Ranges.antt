-- The invariants of every parsed workload.
use Rattle.std.specs.Prelude.{◌≢◌, ◌<◌, ◌≤◌, ◌^◌, ℕ, List, length, IsUtf8}
use Rattle.std.specs.List.{AllByRecursion}
use Rattle.dbl_model_table.specs.declared.table.RawColumn.{RawColumn}
use Rattle.dbl_model_table.specs.declared.table.TableName.{TableName}
use Rattle.dbl_script.specs.declared.script.ScriptTable.{ScriptTable}
use Rattle.dbl_script.specs.declared.script.Script.{Script}
use Rattle.dbl_script.specs.declared.script.Step.{Step}
use Rattle.dbl_script.specs.declared.script.Step.TheVariants.{Begin, Commit, Rollback, Insert, Update, Delete, Truncate, Tick}
use Rattle.dbl_script.specs.Scripts.{script_of}

-- the schema and the name of the table are texts
pub record AreTexts (table : TableName) : Type 0 where
  pub schema : IsUtf8 table.schema
  pub name : IsUtf8 table.name

-- a column's name is a text without a zero byte, and its type's OID has 32 bits
pub record IsColumnInRange (column : RawColumn) : Type 0 where
  pub text : IsUtf8 column.name
  pub no_zero : AllByRecursion (λ b. b ≢ 0) column.name
  pub oid : column.oid < 2 ^ 32

-- the table's names and columns are in range, and it has at most 1,600 columns ("PostgreSQL Limits")
pub record IsTableInRange (table : ScriptTable) : Type 0 where
  pub named : AreTexts table.raw.name
  pub few : length table.raw.columns ≤ 1600
  pub columns : AllByRecursion IsColumnInRange table.raw.columns

-- the step's session, if any, has a nonempty name
abbrev pub HasSession : Step → Type 0
HasSession (Begin session) = 0 < length session
HasSession (Commit session) = 0 < length session
HasSession (Rollback session) = 0 < length session
HasSession (Insert session table cells) = 0 < length session
HasSession (Update session table key set) = 0 < length session
HasSession (Delete session table key) = 0 < length session
HasSession (Truncate session tables) = 0 < length session
HasSession Tick = Unit {0}

-- the tables and steps of the script are in range
pub record IsInRange (script : Script) : Type 0 where
  pub tables : AllByRecursion IsTableInRange script.tables
  pub steps : AllByRecursion HasSession script.steps

-- the script of any lines is in range
abbrev pub ScriptsAreInRange : Type 0
ScriptsAreInRange = (lines : List (List ℕ)) → IsInRange (script_of lines)
