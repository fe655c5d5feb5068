-- Theorems over the definitions of sessions and steps.
use Rattle.std.specs.Prelude.{◌≡◌, ◌≢◌, ℕ, ◌<◌, true, false, IfSome, Option, None, Some, List, [], ◌∷◌, length, map, if◌then◌else◌, Ok}
use Rattle.std.specs.List.{AllByRecursion, list_any}
use Rattle.std.specs.Str.{IsUtf8}
use Rattle.dbl_tables_rows.specs.Pgmsg.declared.messages.Message.{Message}
use Rattle.dbl_tables_rows.specs.Pgmsg.Grammar.{Fits}
use Rattle.dbl_tables_rows.specs.ModelTable.declared.named_cell.NamedCell.{NamedCell}
use Rattle.dbl_tables_rows.specs.ModelTable.declared.row.Key.{Key}
use Rattle.dbl_tables_rows.specs.ModelTable.Keys.{same_key}
use Rattle.dbl_tables_rows.specs.ModelTable.Tables.{same_name}
use Rattle.dbl_tables_rows.specs.ModelTable.declared.table.RawRow.{RawRow}
use Rattle.dbl_tables_rows.specs.ModelTable.declared.table.TableInfo.{TableInfo}
use Rattle.dbl_tables_rows.specs.ModelTable.declared.table.TableName.{TableName}
use Rattle.dbl_tables_rows.specs.ModelHistory.Ranges.{IsEntryInRange}
use Rattle.dbl_tables_rows.specs.ModelHistory.Fit.{AreInfosOf, IsKeyOf}
use Rattle.dbl_tables_rows.specs.ModelCommit.declared.txn_error.TxnError.{TxnError}
use Rattle.dbl_tables_rows.specs.ModelCommit.declared.txn_error.TxnError.TheVariants as faults
use Rattle.dbl_tables_rows.specs.ModelCommit.Stated.{err_of, stated_in}
use Rattle.dbl_tables_rows.specs.SourceLog.declared.logged.LogTable.{LogTable}
use Rattle.dbl_tables_rows.specs.SourceLog.declared.logged.Logged.TheVariants.{Changes}
use Rattle.dbl_tables_rows.specs.SourceLog.Relations.{catalogue, all_relations}
use Rattle.dbl_tables_rows.specs.SourceLog.Sent.{oids_of, onto_relations}
use Rattle.dbl_tables_rows.specs.SourceLog.Texts.{Texts, key_in}
use Rattle.dbl_tables_rows.specs.SourceLog.Fair.{IsFairLog}
use Rattle.dbl_tables_rows.specs.SourceLog.FitLogs.{AreFitLog}
use Rattle.dbl_tables_rows.specs.declared.demo_table.DemoTable.{DemoTable}
use Rattle.dbl_tables_rows.specs.Acts.{Accepted, messages_by, log_in}
use Rattle.dbl_tables_rows.specs.Acts.Accepted.{Did, Committed, RolledBack}
use Rattle.dbl_tables_rows.specs.Seen.{committed_rows, changes_by, seen_rows}
use Rattle.dbl_tables_rows.specs.Locks.{holds_key}
use Rattle.dbl_tables_rows.specs.Cells.{row_given, row_set, key_given, key_set}
use Rattle.dbl_tables_rows.specs.Sending.{raw_of, log_tables}
use Rattle.dbl_tables_rows.specs.Steps.{Step, FoundTable, found, seen, insert_judged, update_judged, delete_judged, truncate_judged}
use Rattle.dbl_tables_rows.specs.Steps.Step.{Begin, Commit, Rollback, Insert, Update, Delete, Truncate}
use Rattle.dbl_tables_rows.specs.Serial.{InitialRow, acts_after, serial}
use Rattle.dbl_tables_rows.specs.Selects.{AreShown}
use Rattle.dbl_tables_laws.specs.Reachable.{AreTables, IsOrderly, IsFitAfter}
use Rattle.dbl_tables_rows.specs.SourceLog.Numbers.{commit_limit}

-- ---- what is required of tables and steps: UTF-8 texts, as all texts of a program are

-- Each table can be described, by its entry of the catalogue and by its Relation message.
pub record AreDescribable (tables : List DemoTable) : Type 0 where
  pub can : AreTables tables
  pub ranges : AllByRecursion IsEntryInRange (catalogue (log_tables tables))
  pub relations : AllByRecursion Fits (all_relations (log_tables tables))

-- The texts of the cells are UTF-8.
abbrev pub AreCellsInRange : List NamedCell → Type 0
AreCellsInRange cells = AllByRecursion (λ cell. IfSome cell.text IsUtf8) cells

-- The texts of a step are UTF-8.
abbrev pub IsStepInRange : Step → Type 0
IsStepInRange (Begin session) = Unit {0}
IsStepInRange (Commit session) = Unit {0}
IsStepInRange (Rollback session) = Unit {0}
IsStepInRange (Insert session name cells) = AreCellsInRange cells
IsStepInRange (Update session name key set) = AreCellsInRange key × AreCellsInRange set
IsStepInRange (Delete session name key) = AreCellsInRange key
IsStepInRange (Truncate session names) = Unit {0}

-- The texts of an initial row are UTF-8.
abbrev pub IsRowInRange : InitialRow → Type 0
IsRowInRange row = AreCellsInRange row.1

-- ---- locks keep changes valid

-- After all steps no two sessions have locked one key.
abbrev pub LocksAreApart : Type 0
LocksAreApart = (tables : List DemoTable) (steps : List Step) → AreTables tables → IsOrderly tables (acts_after tables [] steps)

-- After all steps the changes of each open session are valid for the committed rows, and so is the log.
abbrev pub OpenChangesAreFit : Type 0
OpenChangesAreFit = (tables : List DemoTable) (steps : List Step) → AreTables tables → IsFitAfter tables (acts_after tables [] steps)

-- The serial run of all steps is a log whose changes are valid, one commit after the other.
abbrev pub SerialRunsAreFit : Type 0
SerialRunsAreFit = (tables : List DemoTable) (rows : List InitialRow) (steps : List Step) → AreTables tables
    → AllByRecursion IsEntryInRange (catalogue (log_tables tables)) → AllByRecursion IsRowInRange rows → AllByRecursion IsStepInRange steps
    → length (serial tables rows steps) < commit_limit → AreFitLog (log_tables tables) (map Changes (serial tables rows steps))

-- A reader of the serial run of all steps reads it correctly.
abbrev pub SerialRunsAreFair : Type 0
SerialRunsAreFair = (tables : List DemoTable) (rows : List InitialRow) (steps : List Step) → AreDescribable tables
    → AllByRecursion IsRowInRange rows → AllByRecursion IsStepInRange steps
    → IsFairLog (log_tables tables) (map Changes (serial tables rows steps))

-- The error is none, or a moved key with an unsent cell.
abbrev pub IsMovedAtMost : Option TxnError → Type 0
IsMovedAtMost None = Unit {0}
IsMovedAtMost (Some e) = (table : TableName) × (column : List ℕ) × (e ≡ faults.MovedUnchanged table column)

-- After the Relations of its tables a message has no error but a moved key with an unsent cell.
abbrev pub MovesAtMost : List LogTable → Message → Type 0
MovesAtMost tables message = (infos : List TableInfo) → AreInfosOf (record { tables = catalogue tables; commits = [] }) infos
    → IsMovedAtMost (err_of (stated_in infos message (onto_relations tables (oids_of message) []) None false))

-- The messages of open sessions and of commits have no error but a moved key with an unsent cell.
pub record AreMovedAtMost (tables : List LogTable) (past : List Accepted) : Type 0 where
  pub sessions : (session : List ℕ) → AllByRecursion (MovesAtMost tables) (messages_by session past)
  pub commits : AllByRecursion (λ (messages : List Message). AllByRecursion (MovesAtMost tables) messages) (log_in past)

-- After all steps the messages have no error but a moved key with an unsent cell.
abbrev pub SentChangesMoveAtMost : Type 0
SentChangesMoveAtMost = (tables : List DemoTable) (steps : List Step) → AreTables tables
    → AreMovedAtMost (log_tables tables) (acts_after tables [] steps)

-- ---- what sessions see

-- A step commits nothing, and no other session sees its effect.
pub record IsPrivate (tables : List LogTable) (past : List Accepted) (session : List ℕ) (message : Message) : Type 0 where
  pub committed : committed_rows tables (Did session message ∷ past) ≡ committed_rows tables past
  pub others : (other : List ℕ) → session ≢ other → seen_rows tables (Did session message ∷ past) other ≡ seen_rows tables past other

-- After every list of acts a change is private to its session.
abbrev pub StepsArePrivate : Type 0
StepsArePrivate = (tables : List LogTable) (past : List Accepted) (session : List ℕ) (message : Message)
    → IsPrivate tables past session message

-- What a session sees is what is committed once it commits.
abbrev pub CommitsShowWhatWasSeen : Type 0
CommitsShowWhatWasSeen = (tables : List LogTable) (past : List Accepted) (session : List ℕ)
    → committed_rows tables (Committed session ∷ past) ≡ seen_rows tables past session

-- A rollback leaves no effect, and no other session sees any.
pub record LeavesNothing (tables : List LogTable) (past : List Accepted) (session : List ℕ) : Type 0 where
  pub committed : committed_rows tables (RolledBack session ∷ past) ≡ committed_rows tables past
  pub own : seen_rows tables (RolledBack session ∷ past) session ≡ committed_rows tables past
  pub others : (other : List ℕ) → session ≢ other → seen_rows tables (RolledBack session ∷ past) other ≡ seen_rows tables past other

-- After every list of acts a rollback leaves no effect.
abbrev pub RollbacksLeaveNothing : Type 0
RollbacksLeaveNothing = (tables : List LogTable) (past : List Accepted) (session : List ℕ) → LeavesNothing tables past session

-- When another session commits, a session still sees its locked rows as they were, and its changes are the same.
pub record GoesOnSeeing (tables : List LogTable) (past : List Accepted) (session other : List ℕ) : Type 0 where
  pub changes : changes_by tables (Committed other ∷ past) session ≡ changes_by tables past session
  pub rows : (name : TableName) (key : Key) → holds_key tables past name key session ≡ true
      → seen_rows tables (Committed other ∷ past) session name key ≡ seen_rows tables past session name key

-- For every orderly list of acts the rows that a session has locked stay as it sees them.
abbrev pub HeldRowsStay : Type 0
HeldRowsStay = (tables : List DemoTable) (past : List Accepted) (session other : List ℕ) → AreTables tables → IsOrderly tables past
    → session ≢ other → GoesOnSeeing (log_tables tables) past session other

-- ---- the effect of a step on the rows that its session sees

-- Rows by key with one key set to a row or to none.
abbrev pub row_put : Key → Option Texts → (Key → Option Texts) → Key → Option Texts
row_put at row rows key = if same_key at key then row else rows key

-- After an act the session sees these rows of one table, and every other table as before.
pub record Shows (tables : List DemoTable) (past : List Accepted) (session : List ℕ) (act : Accepted) (name : TableName)
    (rows : Key → Option Texts) : Type 0 where
  pub here : (key : Key) → seen_rows (log_tables tables) (act ∷ past) session name key ≡ rows key
  pub elsewhere : (other : TableName) (key : Key) → same_name name other ≡ false
      → seen_rows (log_tables tables) (act ∷ past) session other key ≡ seen_rows (log_tables tables) past session other key

-- The rows that a session sees after an insert, an update, a delete or a truncate.
pub record StepsShow (tables : List DemoTable) (past : List Accepted) (session : List ℕ) : Type 0 where
  pub inserts : (name : TableName) (cells : List NamedCell) (at : FoundTable) (act : Accepted) → found tables name ≡ Some at
      → insert_judged tables past session name cells ≡ Ok act
      → Shows tables past session act at.table.info.name
      (row_put (key_in (raw_of at.table) (row_given (raw_of at.table) cells)) (Some (row_given (raw_of at.table) cells))
      (seen tables past session at))
  pub updates : (name : TableName) (key set : List NamedCell) (at : FoundTable) (before : Texts) (act : Accepted)
      → found tables name ≡ Some at → seen tables past session at (key_given (raw_of at.table) key) ≡ Some before
      → update_judged tables past session name key set ≡ Ok act
      → Shows tables past session act at.table.info.name
      (row_put (key_set (raw_of at.table) key set) (Some (row_set (raw_of at.table).columns set before))
      (row_put (key_given (raw_of at.table) key) None (seen tables past session at)))
  pub deletes : (name : TableName) (key : List NamedCell) (at : FoundTable) (act : Accepted) → found tables name ≡ Some at
      → delete_judged tables past session name key ≡ Ok act
      → Shows tables past session act at.table.info.name (row_put (key_given (raw_of at.table) key) None (seen tables past session at))
  pub truncates : (names : List TableName) (act : Accepted) → truncate_judged tables past session names ≡ Ok act
      → (name : TableName) (key : Key)
      → seen_rows (log_tables tables) (act ∷ past) session name key
      ≡ (if list_any (λ n. same_name n name) names then None else seen_rows (log_tables tables) past session name key)

-- Each step after any steps shows its rows.
abbrev pub StepsShowTheirRows : Type 0
StepsShowTheirRows = (tables : List DemoTable) (steps : List Step) (session : List ℕ) → AreTables tables
    → StepsShow tables (acts_after tables [] steps) session

-- ---- the rows that a select shows are one list

-- Two lists are equal above a key of the table, and both empty above any other key.
pub record AreOneList (info : TableInfo) (above : Option Key) (a b : List RawRow) : Type 0 where
  pub own : IfSome above (IsKeyOf info) → a ≡ b
  pub other : (¬ IfSome above (IsKeyOf info)) → a ≡ b

-- A select shows at most one list of rows.
abbrev pub FirstRowsAreOneList : Type 0
FirstRowsAreOneList = (info : TableInfo) (at : Key → Option Texts) (above : Option Key) (limit : ℕ) (a b : List RawRow)
    → AreShown info at above limit a → AreShown info at above limit b → AreOneList info above a b
