-- The state of the store after the accepted acts, and the answer and effect of a call.
use Rattle.std.specs.Prelude.{◌≡◌, ◌⊎◌, ℕ, ◌≤◌, None, Some, Result, Ok, Err, slice_get, List, [], ◌∷◌, map}
use Rattle.std.specs.List.{AllByRecursion, AllZip}
use Rattle.std.specs.BTreeMap.{IsEmpty, get}
use Rattle.dbl_base.specs.Texts.{text_cmp}
use Rattle.dbl_pgmsg.specs.declared.messages.Message.{Message}
use Rattle.dbl_pgmsg.specs.Grammar.{Fits}
use Rattle.dbl_model_table.specs.Tables.{column_names}
use Rattle.dbl_model_table.specs.Made.{place_of}
use Rattle.dbl_tables_rows.specs.declared.demo_table.DemoTable.{DemoTable}
use Rattle.dbl_tables_rows.specs.declared.error.StepError.{StepError}
use Rattle.dbl_tables_rows.specs.declared.error.StepError.TheVariants as errors
use Rattle.dbl_tables_rows.specs.declared.rows.Rows.{Rows}
use Rattle.dbl_tables_changes.specs.declared.sessions.Session.{Session}
use Rattle.dbl_tables.specs.declared.tables.Tables.{Tables}
use Rattle.dbl_tables_rows.specs.Acts.{Accepted, messages_by}
use Rattle.dbl_tables_rows.specs.Sending.{entry_size, entry_limit}
use Rattle.dbl_tables_rows.specs.Steps.{Step, judged}
use Rattle.dbl_tables_changes.specs.TablesLaws.Reachable.{AreTables, IsReachable}
use Rattle.dbl_tables_changes.specs.AcceptedSteps.{IsSessionAt, AreListed, AreListedBefore, AreRows, found_at}

-- ---- tables without rows

-- A table without rows, that no session has changed.
pub record IsMade (table : DemoTable) (rows : Rows) : Type 0 where
  pub table_is : rows.table ≡ table
  pub places : (name : List ℕ) → get text_cmp rows.places name ≡ place_of (column_names table.info.columns) name
  pub slots : IsEmpty rows.slots
  pub cleared : rows.cleared ≡ None
  pub holders : rows.holders.keys ≡ []

-- Tables without rows, that no session has changed.
abbrev pub AreMade : List DemoTable → List Rows → Type 0
AreMade tables made = AllZip IsMade tables made

-- ---- the whole store

-- The store of these tables has the state after these acts.
pub record Stands (tables : List DemoTable) (past : List Accepted) (t : Tables) : Type 0 where
  pub can : AreTables tables
  pub standing : IsReachable tables past
  pub tables_are : map (λ rows. rows.table) t.tables.items ≡ tables
  pub sessions : (name : List ℕ) → IsSessionAt past name (get text_cmp t.sessions name)
  pub rows : (place : ℕ) (rows : Rows) → slice_get t.tables.items place ≡ Some rows → AreRows tables past (found_at place rows.table) rows
  pub listed : (name : List ℕ) (session : Session) (place : ℕ) (rows : Rows) → get text_cmp t.sessions name ≡ Some session
      → slice_get t.tables.items place ≡ Some rows
      → AreListed place rows.slots name session.keys.items × AreListedBefore place rows.cleared name session.keys.items

-- ---- the answer and effect of a call

-- The call was accepted, and the store has the state after its act.
pub record IsAccepted (tables : List DemoTable) (past : List Accepted) (call : Step) (new : Tables) : Type 0 where
  pub act : Accepted
  pub accepted : judged tables past call ≡ Ok act
  pub stands : Stands tables (act ∷ past) new

-- The call was refused, by its first refusal or because memory ran out, and the state is the same.
pub record IsRefusedStep (tables : List DemoTable) (past : List Accepted) (call : Step) (e : StepError) (new : Tables) : Type 0 where
  pub why : (e ≡ errors.Memory) ⊎ (judged tables past call ≡ Err e)
  pub stands : Stands tables past new

-- The answer of a call and its effect: accepted and applied, or refused with the store unchanged.
abbrev pub AnswersStep : {A : Type 0} → List DemoTable → List Accepted → Step → Tables → Result A StepError → Type 0
AnswersStep tables past call new (Ok x) = IsAccepted tables past call new
AnswersStep tables past call new (Err e) = IsRefusedStep tables past call e new

-- The messages that a commit returns: the session's changes, in order, in an entry that isn't too long.
pub record IsGiven (past : List Accepted) (session : List ℕ) (messages : List Message) : Type 0 where
  pub are : messages ≡ messages_by session past
  pub fitting : AllByRecursion Fits messages
  pub short : entry_size messages ≤ entry_limit

-- The answer of a commit or rollback, which can't run out of memory.
abbrev pub EndsSession : {A : Type 0} → List DemoTable → List Accepted → Step → Tables → Result A StepError → Type 0
EndsSession tables past call new (Ok x) = IsAccepted tables past call new
EndsSession tables past call new (Err e) = (judged tables past call ≡ Err e) × Stands tables past new
