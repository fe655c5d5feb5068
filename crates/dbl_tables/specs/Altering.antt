-- Which alterations a store accepts, and what it has after one.
use Rattle.std.specs.Prelude.{◌≡◌, ◌⊎◌, ℕ, ◌+◌, true, false, None, Some, option_map, Result, Ok, Err, slice_get, List, [], ◌∷◌}
use Rattle.dbl_model_table.specs.declared.row.Key.{Key}
use Rattle.dbl_model_table.specs.declared.table.TableName.{TableName}
use Rattle.dbl_tables_rows.specs.SourceLog.Relations.{first_oid}
use Rattle.dbl_tables_rows.specs.declared.demo_table.DemoTable.{DemoTable}
use Rattle.dbl_tables_rows.specs.declared.error.StepError.{StepError}
use Rattle.dbl_tables_rows.specs.declared.error.StepError.TheVariants as errors
use Rattle.dbl_tables_rows.specs.declared.rows.Rows.{Rows}
use Rattle.dbl_tables_rows.specs.Acts.{Accepted, is_open}
use Rattle.dbl_tables_rows.specs.Locks.{table_holder}
use Rattle.dbl_tables_rows.specs.Seen.{committed_rows}
use Rattle.dbl_tables_rows.specs.Sending.{raw_of, log_tables}
use Rattle.dbl_tables_rows.specs.Holders.{IsFirstHolder}
use Rattle.dbl_tables_rows.specs.Steps.{FoundTable, found}
use Rattle.dbl_tables_rows.specs.Views.{committed_at}
use Rattle.dbl_tables_changes.specs.AcceptedSteps.{found_at}
use Rattle.dbl_tables.specs.declared.tables.Tables.{Tables}
use Rattle.dbl_tables_altered.specs.declared.alteration.Alteration.{Alteration}
use Rattle.dbl_tables_altered.specs.Alterations.{row_after, is_unfit}
use Rattle.dbl_tables_altered.specs.Altered.{AreShortAfter, HasLongAfter, IsAlteredTable, IsBadAlteration}

-- ---- refusals

-- A table can have an alteration: its columns can, and none of its committed rows is too long after it.
pub record CanHave (tables : List DemoTable) (past : List Accepted) (at : FoundTable) (alteration : Alteration) : Type 0 where
  pub fit : is_unfit alteration (raw_of at.table) ≡ false
  pub short : AreShortAfter alteration at.oid (raw_of at.table).columns (committed_rows (log_tables tables) past at.table.info.name)

-- Why an alteration is refused: the first cause that applies, in the order of these lines.
pub data IsRefusedAs (tables : List DemoTable) (past : List Accepted) (session : List ℕ) (name : TableName) (alteration : Alteration)
    : StepError → Type 0 where
  already_open : is_open session past ≡ true → IsRefusedAs tables past session name alteration errors.AlreadyOpen
  unknown_table : is_open session past ≡ false → found tables name ≡ None
      → IsRefusedAs tables past session name alteration errors.UnknownTable
  unfit : (at : FoundTable) → is_open session past ≡ false → found tables name ≡ Some at → is_unfit alteration (raw_of at.table) ≡ true
      → IsRefusedAs tables past session name alteration errors.BadAlter
  long_row : (at : FoundTable) → is_open session past ≡ false → found tables name ≡ Some at
      → is_unfit alteration (raw_of at.table) ≡ false
      → HasLongAfter alteration at.oid (raw_of at.table).columns (committed_rows (log_tables tables) past at.table.info.name)
      → IsRefusedAs tables past session name alteration errors.BadAlter
  locked : (at : FoundTable) (by : List ℕ) → is_open session past ≡ false → found tables name ≡ Some at
      → CanHave tables past at alteration → table_holder (log_tables tables) past session (name ∷ []) ≡ Some by
      → IsRefusedAs tables past session name alteration (errors.RowLocked by)

-- ---- answers

-- The store after an alteration that is accepted: its table is altered, and nothing else.
pub record IsAltered (tables : List DemoTable) (past : List Accepted) (session : List ℕ) (name : TableName) (alteration : Alteration)
    (old new : Tables) : Type 0 where
  pub closed : is_open session past ≡ false
  pub place : ℕ
  pub before : Rows
  pub there : found tables name ≡ Some (found_at place before.table)
  pub can : CanHave tables past (found_at place before.table) alteration
  pub free : table_holder (log_tables tables) past session (name ∷ []) ≡ None
  pub was : slice_get old.tables.items place ≡ Some before
  pub after : Rows
  pub is : slice_get new.tables.items place ≡ Some after
  pub altered : IsAlteredTable alteration (first_oid + place) before after
  -- The committed rows are those before, altered.
  pub rows : (key : Key) → committed_at after key
      ≡ option_map (row_after alteration (raw_of before.table).columns) (committed_rows (log_tables tables) past before.table.info.name key)
  pub others : (other : ℕ) → (other ≡ place → ⊥) → slice_get new.tables.items other ≡ slice_get old.tables.items other
  pub sessions : new.sessions ≡ old.sessions

-- The answer of an alteration: accepted and applied, or refused, by its first refusal or because memory ran out, with the store unchanged.
abbrev pub AnswersAlter : List DemoTable → List Accepted → List ℕ → TableName → Alteration → Tables → Tables → Result Unit StepError
    → Type 0
AnswersAlter tables past session name alteration old new (Ok done) = IsAltered tables past session name alteration old new
AnswersAlter tables past session name alteration old new (Err e) = ((e ≡ errors.Memory) ⊎ IsRefusedAs tables past session name alteration e)
    × (new ≡ old)

-- ---- for private clauses

-- A table could be altered, but a session blocks it.
pub record IsBlocked (session : List ℕ) (alteration : Alteration) (oid : ℕ) (old : Rows) (e : StepError) : Type 0 where
  pub by : List ℕ
  pub is : e ≡ errors.RowLocked by
  pub first : IsFirstHolder session old.cleared old.holders (Some by)
  pub after : Rows
  pub altered : IsAlteredTable alteration oid old after

-- A table after an alteration that it can have and no session blocks, or the refusal.
abbrev pub AltersUnlocked : List ℕ → Alteration → ℕ → Rows → Result Rows StepError → Type 0
AltersUnlocked session alteration oid old (Ok new) = IsAlteredTable alteration oid old new
    × IsFirstHolder session old.cleared old.holders None
AltersUnlocked session alteration oid old (Err e) = (e ≡ errors.Memory)
    ⊎ (((e ≡ errors.BadAlter) × IsBadAlteration alteration oid old) ⊎ IsBlocked session alteration oid old e)

-- The table at an index, if there is one, was replaced, and the others stay as they are.
pub record ReplacesOne (place : ℕ) (rows : Rows) (old new : List Rows) : Type 0 where
  pub here : (was : Rows) → slice_get old place ≡ Some was → slice_get new place ≡ Some rows
  pub others : (other : ℕ) → (other ≡ place → ⊥) → slice_get new other ≡ slice_get old other
