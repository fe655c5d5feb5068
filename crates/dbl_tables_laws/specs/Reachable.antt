-- What is true after every list of accepted acts, for every list of requested steps.
use Rattle.std.specs.Prelude.{◌≡◌, ℕ, ◌≤◌, true, false, IsTrue, Some, List, [], ◌∷◌, length, map}
use Rattle.std.specs.List.{AllByRecursion}
use Rattle.dbl_tables_rows.specs.Pgmsg.declared.messages.Message.{Message}
use Rattle.dbl_tables_rows.specs.ModelTable.declared.table.TableName.{TableName}
use Rattle.dbl_tables_rows.specs.ModelTable.declared.row.Key.{Key}
use Rattle.dbl_tables_rows.specs.ModelTable.Tables.{same_name, are_distinct}
use Rattle.dbl_tables_rows.specs.SourceLog.Fair.{IsChangeOf, HasFewFaults}
use Rattle.dbl_tables_rows.specs.SourceLog.declared.logged.LogTable.{LogTable}
use Rattle.dbl_tables_rows.specs.SourceLog.Texts.{Texts, raw_key, key_in}
use Rattle.dbl_tables_rows.specs.SourceLog.TextRows.{TextRows, no_text_rows, log_table_named}
use Rattle.dbl_tables_rows.specs.SourceLog.RawChanges.{changes_from, text_rows_from}
use Rattle.dbl_tables_rows.specs.SourceLog.FitLogs.{IsTextKey, AreFitChanges}
use Rattle.dbl_tables_rows.specs.declared.demo_table.DemoTable.{DemoTable}
use Rattle.dbl_tables_rows.specs.Acts.{Accepted, is_open, messages_by, log_in}
use Rattle.dbl_tables_rows.specs.Seen.{committed_rows, changes_by}
use Rattle.dbl_tables_rows.specs.Locks.{holds_key}
use Rattle.dbl_tables_rows.specs.Sending.{log_tables, entry_size, entry_limit}

-- Tables that a store can have.
pub record AreTables (tables : List DemoTable) : Type 0 where
  pub few : length tables ≤ 64
  pub distinct : IsTrue (are_distinct same_name (map (λ table. table.info.name) tables))

-- No two sessions have locked one key, a closed session has no open change, and an open one's changes fit into one entry.
pub record IsOrderly (tables : List DemoTable) (past : List Accepted) : Type 0 where
  pub apart : (a b : List ℕ) (name : TableName) (key : Key) → holds_key (log_tables tables) past name key a ≡ true
      → holds_key (log_tables tables) past name key b ≡ true → a ≡ b
  pub closed : (session : List ℕ) → is_open session past ≡ false → messages_by session past ≡ []
  pub sized : (session : List ℕ) → entry_size (messages_by session past) ≤ entry_limit

-- Each commit's changes are valid for the rows just before it.
abbrev pub HaveFitChanges : List LogTable → TextRows → List (List Message) → Type 0
HaveFitChanges tables rows [] = Unit {0}
HaveFitChanges tables rows (messages ∷ log) = AreFitChanges tables rows (changes_from tables rows messages)
    × HaveFitChanges tables (text_rows_from tables rows messages) log

-- The changes of each open session are valid for the committed rows, one by one, whichever session commits first.
pub record IsFitAfter (tables : List DemoTable) (past : List Accepted) : Type 0 where
  pub changes : (session : List ℕ)
      → AreFitChanges (log_tables tables) (committed_rows (log_tables tables) past) (changes_by (log_tables tables) past session)
  pub log : HaveFitChanges (log_tables tables) no_text_rows (log_in past)

-- A row at a key has that key, a cell for each column, and a text for each column of the key.
pub record IsKeyedRow (tables : List LogTable) (name : TableName) (key : Key) (row : Texts) : Type 0 where
  pub table : LogTable
  pub there : log_table_named tables name ≡ Some table
  pub key_is : key_in table.raw row ≡ key
  pub wide : length row ≡ length table.raw.columns
  pub text_key : IsTextKey table.raw (raw_key table.raw row)

-- Each row of each table is at its own key.
abbrev pub AreKeyed : List LogTable → TextRows → Type 0
AreKeyed tables rows = (name : TableName) (key : Key) (row : Texts) → rows name key ≡ Some row → IsKeyedRow tables name key row

-- What is true after every list of accepted acts.
pub record IsReachable (tables : List DemoTable) (past : List Accepted) : Type 0 where
  pub orderly : IsOrderly tables past
  pub fit : IsFitAfter tables past
  pub keyed : AreKeyed (log_tables tables) (committed_rows (log_tables tables) past)

-- Each message can be encoded, is of a table of the store, and has no error but one of content.
pub record AreSendable (tables : List DemoTable) (messages : List Message) : Type 0 where
  pub changes : AllByRecursion (IsChangeOf (log_tables tables)) messages
  pub few : AllByRecursion (HasFewFaults (log_tables tables)) messages
