-- Theorems over the definitions of alterations.
use Rattle.std.specs.Prelude.{◌≡◌, ℕ, ◌||◌, not, nat_le, true, false, Option, Some, List, ◌∷◌, length}
use Rattle.dbl_value_types.specs.Types.{is_float}
use Rattle.dbl_model_table.specs.declared.table.RawColumn.{RawColumn}
use Rattle.dbl_model_table.specs.declared.table.RawRow.{RawRow}
use Rattle.dbl_model_table.specs.declared.table.RawTable.{RawTable}
use Rattle.dbl_model_table.specs.declared.table.TableInfo.{TableInfo}
use Rattle.dbl_model_table.specs.declared.table.TableName.{TableName}
use Rattle.dbl_model_table.specs.Infos.{catalogue_of}
use Rattle.dbl_source_log.specs.Texts.{Texts, text_named}
use Rattle.dbl_source_log.specs.FitLogs.{IsFitTextAlteration}
use Rattle.dbl_tables_rows.specs.declared.demo_table.DemoTable.{DemoTable}
use Rattle.dbl_tables_rows.specs.Acts.{Accepted}
use Rattle.dbl_tables_rows.specs.Cells.{is_column, is_key_name, spells_cell}
use Rattle.dbl_tables_rows.specs.Seen.{committed_rows}
use Rattle.dbl_tables_rows.specs.Sending.{raw_of, log_tables, column_type, column_limit}
use Rattle.dbl_tables_rows.specs.Steps.{Step, FoundTable, found, judged}
use Rattle.dbl_tables_laws.specs.Reachable.{AreTables, IsReachable}
use Rattle.dbl_tables_altered.specs.declared.alteration.Alteration.{Alteration}
use Rattle.dbl_tables_altered.specs.declared.alteration.Alteration.TheVariants.{Add, Remove}
use Rattle.dbl_tables_altered.specs.Alterations.{removes, columns_after, raw_after, row_after, is_unfit}
use Rattle.dbl_tables_changes.specs.AcceptedSteps.{found_at}
use Rattle.dbl_tables.specs.declared.tables.Tables.{Tables}
use Rattle.dbl_tables.specs.Stands.{Stands}
use Rattle.dbl_tables.specs.Altering.{IsAltered}
use Rattle.dbl_tables_epochs.specs.Epochs.{AreAlike, IsTableAfter, IsReopened, AreLoggedRows}

-- A column that an alteration doesn't remove has the same cell in a row before and after it.
abbrev pub KeptCellsStay : Type 0
KeptCellsStay = (alteration : Alteration) (raw : RawTable) (row : Texts) (name : List ℕ) → length row ≡ length raw.columns
    → is_column raw name ≡ true → removes alteration name ≡ false
    → text_named (raw_after alteration raw) (row_after alteration raw.columns row) name ≡ text_named raw row name

-- A step has the same verdict after both lists of acts, and after one more act they are still alike.
pub record IsJudgedAlike (tables : List DemoTable) (a b : List Accepted) : Type 0 where
  pub verdicts : (step : Step) → judged tables a step ≡ judged tables b step
  pub more : (act : Accepted) → AreAlike (log_tables tables) (act ∷ a) (act ∷ b)

-- Lists of acts that are alike are judged alike.
abbrev pub AlikeActsAreJudgedAlike : Type 0
AlikeActsAreJudgedAlike = (tables : List DemoTable) (a b : List Accepted) → AreAlike (log_tables tables) a b → IsJudgedAlike tables a b

-- All acts after one alteration are over the same tables, and are alike.
abbrev pub ReopenedActsAreAlike : Type 0
ReopenedActsAreAlike = (tables new other : List DemoTable) (past acts more : List Accepted) (at : FoundTable) (alteration : Alteration)
    → IsReopened tables past at alteration new acts → IsReopened tables past at alteration other more
    → (new ≡ other) × AreAlike (log_tables new) acts more

-- The store has the state after some acts over the tables after an alteration.
pub record StandsReopened (tables : List DemoTable) (past : List Accepted) (at : FoundTable) (alteration : Alteration) (store : Tables)
    : Type 0 where
  pub tables_after : List DemoTable
  pub acts : List Accepted
  pub reopened : IsReopened tables past at alteration tables_after acts
  pub stands : Stands tables_after acts store

-- After an alteration that is accepted a store has such a state.
abbrev pub AlteredStoresStand : Type 0
AlteredStoresStand = (tables : List DemoTable) (past : List Accepted) (session : List ℕ) (name : TableName) (alteration : Alteration)
    (old new : Tables) → Stands tables past old → (altered : IsAltered tables past session name alteration old new)
    → StandsReopened tables past (found_at altered.place altered.before.table) alteration new

-- The rows that the log has for an alteration make it valid: the key's columns stay, and each row before has one row after, readable and in
-- the new columns.
abbrev pub LoggedRowsAreFit : Type 0
LoggedRowsAreFit = (tables : List DemoTable) (past : List Accepted) (name : TableName) (at : FoundTable) (after : DemoTable)
    (alteration : Alteration) (list : List RawRow) → AreTables tables → IsReachable tables past → found tables name ≡ Some at
    → IsTableAfter alteration at.table after → AreLoggedRows tables past at alteration list
    → IsFitTextAlteration (raw_of at.table) (committed_rows (log_tables tables) past at.table.info.name)
    (columns_after alteration (raw_of at.table).columns) list

-- ---- refusals in explicit words

-- A column can't be added to a full table, with a cell that is no text of its type, of a name that exists, or of type float4 or float8; a
-- column can't be removed if it doesn't exist or is of the key.
pub record HasExplicitRefusals (info : TableInfo) : Type 0 where
  pub adds : (column : RawColumn) (text : Option (List ℕ)) → is_unfit (Add column text) (catalogue_of info)
      ≡ (nat_le column_limit (length info.columns) || (not (spells_cell (column_type column) text)
      || (is_column (catalogue_of info) column.name || is_float column.oid)))
  pub removes : (name : List ℕ) → is_unfit (Remove name) (catalogue_of info)
      ≡ (not (is_column (catalogue_of info) name) || is_key_name (catalogue_of info) name)

-- The refusals of every table's alterations are these.
abbrev pub RefusalsAreExplicit : Type 0
RefusalsAreExplicit = (info : TableInfo) → HasExplicitRefusals info
