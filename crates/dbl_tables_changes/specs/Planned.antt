-- A change that was planned, before the store applies it.
use Rattle.std.specs.Prelude.{◌≡◌, ◌⊎◌, ℕ, ◌≤◌, ◌&&◌, not, Bool, true, false, if◌then◌else◌, is_some}
use Rattle.std.specs.Prelude.{IfSome, Option, None, Some, Result, Ok, Err, List, [], ◌∷◌, ◌++◌, length}
use Rattle.std.specs.List.{AllByRecursion, list_any}
use Rattle.dbl_pgmsg.specs.declared.messages.Message.{Message}
use Rattle.dbl_pgmsg.specs.Grammar.{Fits}
use Rattle.dbl_model_table.specs.declared.table.TableName.{TableName}
use Rattle.dbl_model_table.specs.declared.row.Key.{Key}
use Rattle.dbl_model_table.specs.declared.table.RawRow.{RawRow}
use Rattle.dbl_model_table.specs.Tables.{same_name}
use Rattle.dbl_model_table.specs.Keys.{same_key}
use Rattle.dbl_tables_rows.specs.SourceLog.Texts.{Texts}
use Rattle.dbl_tables_rows.specs.SourceLog.TextRows.{text_rows_with}
use Rattle.dbl_tables_rows.specs.SourceLog.RawChanges.{raw_changes}
use Rattle.dbl_tables_rows.specs.declared.demo_table.DemoTable.{DemoTable}
use Rattle.dbl_tables_rows.specs.declared.error.StepError.{StepError}
use Rattle.dbl_tables_rows.specs.declared.error.StepError.TheVariants as errors
use Rattle.dbl_tables_changes.specs.declared.planned.Write.{Write}
use Rattle.dbl_tables_changes.specs.declared.planned.Planned.{Planned}
use Rattle.dbl_tables_rows.specs.declared.rows.Rows.{Rows}
use Rattle.dbl_tables_changes.specs.declared.sessions.Session.{Session}
use Rattle.dbl_tables_rows.specs.Acts.{Accepted, messages_by}
use Rattle.dbl_tables_rows.specs.Acts.Accepted.{Did}
use Rattle.dbl_tables_rows.specs.Seen.{seen_rows}
use Rattle.dbl_tables_rows.specs.Locks.{locks, is_of}
use Rattle.dbl_tables_rows.specs.Sending.{log_tables, entry_size, entry_limit, is_too_large}
use Rattle.dbl_tables_rows.specs.Steps.{FoundTable, found, seen}
use Rattle.dbl_tables_laws.specs.Reachable.{AreTables, IsReachable}
use Rattle.dbl_tables_changes.specs.AcceptedSteps.{IsSession, AreRows}
use Rattle.dbl_tables_changes.specs.Written.{are_apart}
use Rattle.dbl_tables_rows.specs.Holders.{other_than, lesser_if}
use Rattle.dbl_tables_rows.specs.Views.{texts_of, owner_at, seen_at}

-- The size of the entry with one more change of a row, or its refusal as too large.
abbrev pub MeasuresEntry : DemoTable → List Message → Message → Result ℕ StepError → Type 0
MeasuresEntry table messages message (Ok size) = (is_too_large table messages message ≡ false)
    × (size ≡ entry_size (messages ++ message ∷ [])) × (size ≤ entry_limit) × Fits message
MeasuresEntry table messages message (Err e) = (e ≡ errors.BadRow) × (is_too_large table messages message ≡ true)

-- ---- refusals

-- A result that is refused as unreadable if and only if the test fails, unless memory runs out.
abbrev pub ReadsIfReadable : {A : Type 0} → Bool → Result A StepError → Type 0
ReadsIfReadable test (Ok x) = test ≡ true
ReadsIfReadable test (Err e) = (e ≡ errors.Memory) ⊎ ((e ≡ errors.BadRow) × (test ≡ false))

-- A result that is refused as locked if another session blocks it.
abbrev pub Blocks : {A : Type 0} → Option (List ℕ) → Result A StepError → Type 0
Blocks None (Ok x) = Unit {0}
Blocks None (Err e) = ⊥
Blocks (Some by) (Ok x) = ⊥
Blocks (Some by) (Err e) = (e ≡ errors.Memory) ⊎ (e ≡ errors.RowLocked by)

-- ---- writes

-- Whether a key is among those written.
abbrev pub is_written : List Write → Key → Bool
is_written writes key = list_any (λ write. same_key write.key key) writes

-- The row at a key after some writes.
abbrev pub row_written : List Write → Key → Option Texts → Option Texts
row_written [] key row = row
row_written (write ∷ writes) key row = if same_key write.key key then texts_of write.held.row else row_written writes key row

-- A write of this row at a key, under the session's lock.
pub record IsWrite (session : List ℕ) (key : Key) (row : Option RawRow) (write : Write) : Type 0 where
  pub key_is : write.key ≡ key
  pub by : write.held.by ≡ session
  pub row_is : write.held.row ≡ row

-- The writes of an update: the new row at its key, and the end of the old one if the key changes.
abbrev pub IsUpdateWritten : List ℕ → Key → Key → RawRow → List Write → Type 0
IsUpdateWritten session from to row [] = ⊥
IsUpdateWritten session from to row (a ∷ []) = (same_key from to ≡ true) × IsWrite session to (Some row) a
IsUpdateWritten session from to row (a ∷ b ∷ []) = (same_key from to ≡ false) × IsWrite session from None a
    × IsWrite session to (Some row) b
IsUpdateWritten session from to row (a ∷ b ∷ c ∷ writes) = ⊥

-- The only write is of this row at a key, under the session's lock.
abbrev pub IsOnlyWrite : List ℕ → Key → Option RawRow → List Write → Type 0
IsOnlyWrite session key row writes = (write : Write) × (writes ≡ write ∷ []) × IsWrite session key row write

-- ---- blocking sessions

-- The size of the entry with one more change of a row that no other session blocks, or the first refusal that applies.
abbrev pub Judges : DemoTable → List Message → Message → Option (List ℕ) → Result ℕ StepError → Type 0
Judges table messages message by (Ok size) = MeasuresEntry table messages message (Ok size) × (by ≡ None)
Judges table messages message by (Err e) = MeasuresEntry table messages message (Err e)
    ⊎ ((is_too_large table messages message ≡ false) × Blocks {A = Unit {0}} by (Err e))

-- An insert is refused late: by another session's lock on its key, or else by a row at the key.
abbrev pub IsInsertLate : Rows → List ℕ → Key → StepError → Option (List ℕ) → Type 0
IsInsertLate rows session key e (Some by) = e ≡ errors.RowLocked by
IsInsertLate rows session key e None = (e ≡ errors.RowExists) × (is_some (seen_at rows session key) ≡ true)

-- The first refusal of an insert of a readable row that applies.
pub record IsInsertRefused (rows : Rows) (session : List ℕ) (messages : List Message) (message : Message) (key : Key)
    (e : StepError) : Type 0 where
  pub why : ((e ≡ errors.BadRow) × (is_too_large rows.table messages message ≡ true))
      ⊎ ((is_too_large rows.table messages message ≡ false)
      × IsInsertLate rows session key e (other_than session (owner_at rows key)))

-- An insert of a readable row that passes the tests, with the size of its entry.
pub record IsInsertAllowed (rows : Rows) (session : List ℕ) (messages : List Message) (message : Message) (key : Key)
    (size : ℕ) : Type 0 where
  pub fits : MeasuresEntry rows.table messages message (Ok size)
  pub free : other_than session (owner_at rows key) ≡ None
  pub absent : is_some (seen_at rows session key) ≡ false

-- The size of the entry with an insert of a readable row, or the insert's refusal.
abbrev pub JudgesInsert : Rows → List ℕ → List Message → Message → Key → Result ℕ StepError → Type 0
JudgesInsert rows session messages message key (Ok size) = IsInsertAllowed rows session messages message key size
JudgesInsert rows session messages message key (Err e) = (e ≡ errors.Memory)
    ⊎ IsInsertRefused rows session messages message key e

-- An update is refused late: by another session's lock, or else by a row at its new key.
abbrev pub IsLate : Rows → List ℕ → Key → Key → StepError → Option (List ℕ) → Type 0
IsLate rows session from to e (Some by) = e ≡ errors.RowLocked by
IsLate rows session from to e None = (e ≡ errors.RowExists) × ((not (same_key from to) && is_some (seen_at rows session to)) ≡ true)

-- An update from one key to another is refused by a lock on either key, or by a row at its new key.
abbrev pub IsUpdateLate : Rows → List ℕ → Key → Key → StepError → Type 0
IsUpdateLate rows session from to e =
    IsLate rows session from to e (lesser_if (other_than session (owner_at rows from)) (other_than session (owner_at rows to)))

-- A planned update of an existing row, which passes the tests in the order of the refusals.
pub record IsUpdatePlanned (rows : Rows) (session : List ℕ) (messages : List Message) (message : Message) (from to : Key) (row : RawRow)
    (planned : Planned) : Type 0 where
  pub fits : MeasuresEntry rows.table messages message (Ok planned.size)
  pub free : lesser_if (other_than session (owner_at rows from)) (other_than session (owner_at rows to)) ≡ None
  pub absent : (not (same_key from to) && is_some (seen_at rows session to)) ≡ false
  pub message_is : planned.message ≡ message
  pub writes : IsUpdateWritten session from to row planned.writes.items

-- The first refusal of an update of an existing row that applies.
pub record IsUpdateRefused (rows : Rows) (session : List ℕ) (messages : List Message) (message : Message) (from to : Key)
    (e : StepError) : Type 0 where
  pub why : ((e ≡ errors.BadRow) × (is_too_large rows.table messages message ≡ true))
      ⊎ ((is_too_large rows.table messages message ≡ false) × IsUpdateLate rows session from to e)

-- An update of an existing row that passes the tests, with the size of its entry.
pub record IsUpdateAllowed (rows : Rows) (session : List ℕ) (messages : List Message) (message : Message) (from to : Key)
    (size : ℕ) : Type 0 where
  pub fits : MeasuresEntry rows.table messages message (Ok size)
  pub free : lesser_if (other_than session (owner_at rows from)) (other_than session (owner_at rows to)) ≡ None
  pub absent : (not (same_key from to) && is_some (seen_at rows session to)) ≡ false

-- The size of the entry with an update of an existing row, or the update's refusal.
abbrev pub JudgesUpdate : Rows → List ℕ → List Message → Message → Key → Key → Result ℕ StepError → Type 0
JudgesUpdate rows session messages message from to (Ok size) = IsUpdateAllowed rows session messages message from to size
JudgesUpdate rows session messages message from to (Err e) = (e ≡ errors.Memory)
    ⊎ IsUpdateRefused rows session messages message from to e

-- The plan of an update of an existing row, or its refusal.
abbrev pub UpdatePlans : Rows → List ℕ → List Message → Message → Key → Key → RawRow → Result Planned StepError → Type 0
UpdatePlans rows session messages message from to row (Ok planned) = IsUpdatePlanned rows session messages message from to row planned
UpdatePlans rows session messages message from to row (Err e) = (e ≡ errors.Memory)
    ⊎ IsUpdateRefused rows session messages message from to e

-- A planned change that is accepted: its writes are at the keys that it locks, and leave the rows that it leaves.
pub record IsPlanned (tables : List DemoTable) (past : List Accepted) (session : List ℕ) (at : FoundTable)
    (verdict : Result Accepted StepError) (planned : Planned) : Type 0 where
  pub accepted : verdict ≡ Ok (Did session planned.message)
  pub fits : Fits planned.message
  pub size : planned.size ≡ entry_size (messages_by session past ++ planned.message ∷ [])
  pub short : planned.size ≤ entry_limit
  pub own : AllByRecursion (λ write. write.held.by ≡ session) planned.writes.items
  pub apart : are_apart planned.writes.items ≡ true
  pub wide : AllByRecursion (λ write. IfSome write.held.row (λ row. length row.cells ≡ length at.table.info.columns)) planned.writes.items
  pub locked : (name : TableName) (key : Key)
      → list_any (locks (log_tables tables) name key)
      (raw_changes (log_tables tables) (seen_rows (log_tables tables) past session) planned.message)
      ≡ (same_name at.table.info.name name && is_written planned.writes.items key)
  pub of_table : (name : TableName)
      → list_any (is_of name) (raw_changes (log_tables tables) (seen_rows (log_tables tables) past session) planned.message)
      ≡ same_name at.table.info.name name
  pub rows : (key : Key)
      → text_rows_with (log_tables tables) (raw_changes (log_tables tables) (seen_rows (log_tables tables) past session) planned.message)
      (seen_rows (log_tables tables) past session) at.table.info.name key
      ≡ row_written planned.writes.items key (seen tables past session at key)

-- The plan of a change if it is accepted, or the refusal that it is judged to have.
abbrev pub Plans : List DemoTable → List Accepted → List ℕ → FoundTable → Result Accepted StepError → Result Planned StepError → Type 0
Plans tables past session at verdict (Ok planned) = IsPlanned tables past session at verdict planned
Plans tables past session at verdict (Err e) = (e ≡ errors.Memory) ⊎ (verdict ≡ Err e)

-- A table in the store, with its OID.
abbrev pub found_here : ℕ → Rows → FoundTable
found_here oid rows = record { oid = oid; table = rows.table }

-- A session requests a change of a table in a store that has these acts.
pub record IsAskedOfTable (tables : List DemoTable) (past : List Accepted) (name : List ℕ) (at : FoundTable) (rows : Rows)
    (session : Session) : Type 0 where
  pub can : AreTables tables
  pub standing : IsReachable tables past
  pub there : found tables at.table.info.name ≡ Some at
  pub are_rows : AreRows tables past at rows
  pub is_session : IsSession past name session
