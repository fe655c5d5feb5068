-- What a select shows: the first committed rows of a table above a key, in key order.
use Rattle.std.specs.Prelude.{◌≡◌, ◌⊎◌, ℕ, ◌<◌, ◌≤◌, if◌then◌else◌, Option, None, Some, IfSome, Result, Ok, Err, List, [], ◌∷◌, length}
use Rattle.dbl_model_table.specs.declared.row.Key.{Key}
use Rattle.dbl_model_table.specs.declared.table.RawRow.{RawRow}
use Rattle.dbl_model_table.specs.declared.table.RawTable.{RawTable}
use Rattle.dbl_model_table.specs.declared.table.TableInfo.{TableInfo}
use Rattle.dbl_model_table.specs.declared.table.TableName.{TableName}
use Rattle.dbl_model_table.specs.Infos.{catalogue_of}
use Rattle.dbl_model_table.specs.Keys.{same_key}
use Rattle.dbl_source_log.specs.ModelHistory.KeyBounds.{IsAbove, IsUpTo}
use Rattle.dbl_source_log.specs.ModelHistory.Fit.{IsKeyOf}
use Rattle.dbl_source_log.specs.Texts.{Texts, key_in}
use Rattle.dbl_tables_rows.specs.declared.demo_table.DemoTable.{DemoTable}
use Rattle.dbl_tables_rows.specs.declared.error.StepError.{StepError}
use Rattle.dbl_tables_rows.specs.declared.error.StepError.TheVariants as errors
use Rattle.dbl_tables_rows.specs.Acts.{Accepted}
use Rattle.dbl_tables_rows.specs.Seen.{committed_rows}
use Rattle.dbl_tables_rows.specs.Sending.{log_tables}
use Rattle.dbl_tables_rows.specs.Steps.{FoundTable, found}

-- The row with a key in a list of rows, as texts.
abbrev pub row_shown : RawTable → List RawRow → Key → Option Texts
row_shown raw [] key = None
row_shown raw (row ∷ rows) key = if same_key (key_in raw row.cells) key then Some row.cells else row_shown raw rows key

-- The keys of the rows are strictly ascending, and all above the bound.
abbrev pub AreRisingKeys : RawTable → Option Key → List RawRow → Type 0
AreRisingKeys raw bound [] = Unit {0}
AreRisingKeys raw bound (row ∷ rows) = IsAbove bound (key_in raw row.cells) × AreRisingKeys raw (Some (key_in raw row.cells)) rows

-- The key of the last row, or the bound if there is no row.
abbrev pub last_shown : RawTable → Option Key → List RawRow → Option Key
last_shown raw bound [] = bound
last_shown raw bound (row ∷ rows) = last_shown raw (Some (key_in raw row.cells)) rows

-- The first rows above a bound, in key order: at most the limit, and all if they are fewer.
pub record AreFirstRows (raw : RawTable) (at : Key → Option Texts) (above : Option Key) (limit : ℕ) (rows : List RawRow) : Type 0 where
  pub ordered : AreRisingKeys raw above rows
  pub few : length rows ≤ limit
  -- Up to the last key, or everywhere above the bound, the list has the table's rows and no others.
  pub right : (key : Key) → IsAbove above key → (length rows < limit) ⊎ IsUpTo (last_shown raw above rows) key
      → row_shown raw rows key ≡ at key

-- The first rows above the key of an existing table, and none if the key isn't of its key types.
pub record AreShown (info : TableInfo) (at : Key → Option Texts) (above : Option Key) (limit : ℕ) (rows : List RawRow) : Type 0 where
  pub none_above : (¬ IfSome above (IsKeyOf info)) → rows ≡ []
  pub first : IfSome above (IsKeyOf info) → AreFirstRows (catalogue_of info) at above limit rows

-- The answer of a select of a table that may not exist.
abbrev pub SelectsAt : (TableName → Key → Option Texts) → Option Key → ℕ → Option FoundTable → Result (List RawRow) StepError → Type 0
SelectsAt at above limit None (Ok rows) = ⊥
SelectsAt at above limit None (Err e) = (e ≡ errors.Memory) ⊎ (e ≡ errors.UnknownTable)
SelectsAt at above limit (Some there) (Ok rows) = AreShown there.table.info (at there.table.info.name) above limit rows
SelectsAt at above limit (Some there) (Err e) = e ≡ errors.Memory

-- A select shows committed rows only, and no uncommitted change of any session.
abbrev pub SelectsCommitted : List DemoTable → List Accepted → TableName → Option Key → ℕ → Result (List RawRow) StepError → Type 0
SelectsCommitted tables past name above limit answer =
    SelectsAt (committed_rows (log_tables tables) past) above limit (found tables name) answer
