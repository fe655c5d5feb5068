-- The first rows of a store, which a session without a name inserts while no other session is open.
use Rattle.std.specs.Prelude.{◌≡◌, ◌⊎◌, ℕ, None, Some, Result, Ok, Err, slice_get, List, [], ◌∷◌, map}
use Rattle.std.specs.List.{AllByRecursion}
use Rattle.std.specs.BTreeMap.{get}
use Rattle.dbl_base.specs.Texts.{text_cmp}
use Rattle.dbl_pgmsg.specs.Grammar.{Fits}
use Rattle.dbl_tables_rows.specs.declared.demo_table.DemoTable.{DemoTable}
use Rattle.dbl_tables_rows.specs.declared.error.StepError.{StepError}
use Rattle.dbl_tables_rows.specs.declared.error.StepError.TheVariants as errors
use Rattle.dbl_tables_rows.specs.declared.rows.Rows.{Rows}
use Rattle.dbl_tables.specs.declared.first_rows.FirstRows.{FirstRows}
use Rattle.dbl_tables_rows.specs.Acts.{Accepted, open_in, messages_by}
use Rattle.dbl_tables_rows.specs.Sending.{entry_size}
use Rattle.dbl_tables_rows.specs.Steps.{Step, judged}
use Rattle.dbl_tables_changes.specs.AcceptedSteps.{found_at}
use Rattle.dbl_tables_changes.specs.First.{AreInserted}
use Rattle.dbl_tables_changes.specs.TablesLaws.Reachable.{AreTables, IsReachable}

-- The store of these tables has the rows of a session without a name after these acts, and no other session is open.
pub record InsertsAfter (tables : List DemoTable) (past : List Accepted) (t : FirstRows) : Type 0 where
  pub can : AreTables tables
  pub standing : IsReachable tables past
  pub only : open_in past ≡ [] ∷ []
  pub tables_are : map (λ rows. rows.table) t.store.tables.items ≡ tables
  pub sessions : (name : List ℕ) → get text_cmp t.store.sessions name ≡ None
  pub rows : (place : ℕ) (rows : Rows) → slice_get t.store.tables.items place ≡ Some rows
      → AreInserted tables past (found_at place rows.table) rows
  pub messages : t.messages.items ≡ messages_by [] past
  pub size : t.size ≡ entry_size (messages_by [] past)
  pub fitting : AllByRecursion Fits t.messages.items

-- The row was accepted and inserted.
pub record IsRowInserted (tables : List DemoTable) (past : List Accepted) (call : Step) (new : FirstRows) : Type 0 where
  pub act : Accepted
  pub accepted : judged tables past call ≡ Ok act
  pub inserts : InsertsAfter tables (act ∷ past) new

-- The answer of an insert of a first row: accepted and inserted, or the first refusal that applies unless memory ran out.
abbrev pub AnswersInsert : List DemoTable → List Accepted → Step → FirstRows → Result Unit StepError → Type 0
AnswersInsert tables past call new (Ok done) = IsRowInserted tables past call new
AnswersInsert tables past call new (Err e) = (e ≡ errors.Memory) ⊎ (judged tables past call ≡ Err e)
