-- The steps of sessions, and whether each is accepted: the first refusal that applies, in the order of the lines below, or else the act.
use Rattle.std.specs.Prelude.{ℕ, ◌+◌, ◌&&◌, not, Bool, false, if◌then◌else◌, Option, None}
use Rattle.std.specs.Prelude.{Some, is_some, option_map, Result, Ok, List, [], ◌∷◌}
use Rattle.dbl_pgmsg.specs.declared.messages.Message.{Message}
use Rattle.dbl_model_table.specs.declared.named_cell.NamedCell.{NamedCell}
use Rattle.dbl_model_table.specs.declared.table.TableName.{TableName}
use Rattle.dbl_model_table.specs.declared.row.Key.{Key}
use Rattle.dbl_model_table.specs.Tables.{same_name}
use Rattle.dbl_model_table.specs.Keys.{same_key}
use Rattle.dbl_source_log.specs.Relations.{first_oid}
use Rattle.dbl_source_log.specs.Texts.{Texts, key_in}
use Rattle.dbl_tables_rows.specs.declared.demo_table.DemoTable.{DemoTable}
use Rattle.dbl_tables_rows.specs.declared.error.StepError.{StepError}
use Rattle.dbl_tables_rows.specs.declared.error.StepError.TheVariants as errors
use Rattle.dbl_tables_rows.specs.Acts.{Accepted, is_open, messages_by}
use Rattle.dbl_tables_rows.specs.Acts.Accepted.{Began, Did, Committed, RolledBack}
use Rattle.dbl_tables_rows.specs.Seen.{seen_rows}
use Rattle.dbl_tables_rows.specs.Locks.{key_holder, table_holder}
use Rattle.dbl_tables_rows.specs.Cells.{row_given, key_given, key_set, row_set, is_readable_row, is_readable_key, is_readable_set}
use Rattle.dbl_tables_rows.specs.Sending.{raw_of, log_tables, insert_message, update_message}
use Rattle.dbl_tables_rows.specs.Sending.{delete_message, truncate_message, is_too_long, is_too_large}
use Rattle.dbl_tables_rows.specs.Refusals.{◌>>=◌, refuse_step_if, some_or_refuse, refuse_by}

-- A step of a session, which names a row by its cells or its key, and tables by their names.
pub data Step : Type 0 where
  Begin : List ℕ → Step
  Commit : List ℕ → Step
  Rollback : List ℕ → Step
  Insert : List ℕ → TableName → List NamedCell → Step
  Update : List ℕ → TableName → List NamedCell → List NamedCell → Step
  Delete : List ℕ → TableName → List NamedCell → Step
  Truncate : List ℕ → List TableName → Step

-- ---- tables

-- A table with its OID.
pub record FoundTable : Type 0 where
  pub oid : ℕ
  pub table : DemoTable

-- The table of this name, if the first of the tables has this OID.
abbrev pub found_from : ℕ → List DemoTable → TableName → Option FoundTable
found_from oid [] name = None
found_from oid (table ∷ tables) name = if same_name table.info.name name then Some (record { oid = oid; table = table })
    else found_from (oid + 1) tables name

-- The table of this name, with its OID.
abbrev pub found : List DemoTable → TableName → Option FoundTable
found tables name = found_from first_oid tables name

-- The row that a session sees at a key of a table.
abbrev pub seen : List DemoTable → List Accepted → List ℕ → FoundTable → Key → Option Texts
seen tables past session at key = seen_rows (log_tables tables) past session at.table.info.name key

-- The other session that blocks a session's change of these keys.
abbrev pub in_the_way : List DemoTable → List Accepted → List ℕ → FoundTable → List Key → Option (List ℕ)
in_the_way tables past session at keys = key_holder (log_tables tables) past session at.table.info.name keys

-- ---- sessions

-- The verdict on a begin: the session must not be open.
abbrev pub begin_judged : List Accepted → List ℕ → Result Accepted StepError
begin_judged past session = do
  _ ← refuse_step_if (is_open session past) errors.AlreadyOpen
  Ok (Began session)

-- The verdict on a commit or rollback: the session must be open.
abbrev pub end_judged : List Accepted → List ℕ → Accepted → Result Accepted StepError
end_judged past session act = do
  _ ← refuse_step_if (not (is_open session past)) errors.NotOpen
  Ok act

-- The table that an open session names, or a refusal.
abbrev pub table_judged : List DemoTable → List Accepted → List ℕ → TableName → Result FoundTable StepError
table_judged tables past session name = do
  _ ← refuse_step_if (not (is_open session past)) errors.NotOpen
  some_or_refuse (found tables name) errors.UnknownTable

-- ---- rows

-- The verdict on an insert: its cells readable, its message not too large, its key not locked by others, and no row with it.
abbrev pub insert_in : List DemoTable → List Accepted → List ℕ → FoundTable → List NamedCell → Texts → Result Accepted StepError
insert_in tables past session at cells row = do
  _ ← refuse_step_if (not (is_readable_row (raw_of at.table) cells)) errors.BadRow
  _ ← refuse_step_if (is_too_large at.table (messages_by session past) (insert_message at.oid row)) errors.BadRow
  _ ← refuse_by (in_the_way tables past session at (key_in (raw_of at.table) row ∷ []))
  _ ← refuse_step_if (is_some (seen tables past session at (key_in (raw_of at.table) row))) errors.RowExists
  Ok (Did session (insert_message at.oid row))

-- The verdict on an insert into the table of this name.
abbrev pub insert_judged : List DemoTable → List Accepted → List ℕ → TableName → List NamedCell → Result Accepted StepError
insert_judged tables past session name cells = do
  at ← table_judged tables past session name
  insert_in tables past session at cells (row_given (raw_of at.table) cells)

-- Whether a message is too large, if there is one.
abbrev pub is_too_large_if : DemoTable → List Message → Option Message → Bool
is_too_large_if table messages None = false
is_too_large_if table messages (Some message) = is_too_large table messages message

-- The message of an update of this row.
abbrev pub updating : FoundTable → List NamedCell → Texts → Message
updating at set before = update_message at.oid at.table before (row_set (raw_of at.table).columns set before)

-- The verdict on an update: its cells readable, its message not too large, neither key locked by others, the row there, and no other row
-- with the new key.
abbrev pub update_in : List DemoTable → List Accepted → List ℕ → FoundTable → List NamedCell → List NamedCell → Key → Key
    → Result Accepted StepError
update_in tables past session at key set from to = do
  _ ← refuse_step_if (not (is_readable_key (raw_of at.table) key && is_readable_set (raw_of at.table) set)) errors.BadRow
  _ ← refuse_step_if (is_too_large_if at.table (messages_by session past) (option_map (updating at set) (seen tables past session at from)))
      errors.BadRow
  _ ← refuse_by (in_the_way tables past session at (from ∷ to ∷ []))
  before ← some_or_refuse (seen tables past session at from) errors.NoRow
  _ ← refuse_step_if (not (same_key from to) && is_some (seen tables past session at to)) errors.RowExists
  Ok (Did session (updating at set before))

-- The verdict on an update of the table of this name.
abbrev pub update_judged : List DemoTable → List Accepted → List ℕ → TableName → List NamedCell → List NamedCell → Result Accepted StepError
update_judged tables past session name key set = do
  at ← table_judged tables past session name
  update_in tables past session at key set (key_given (raw_of at.table) key) (key_set (raw_of at.table) key set)

-- The verdict on a delete of the row with a key, by the same rules as an update's.
abbrev pub delete_in : List DemoTable → List Accepted → List ℕ → FoundTable → List NamedCell → Key → Result Accepted StepError
delete_in tables past session at key from = do
  _ ← refuse_step_if (not (is_readable_key (raw_of at.table) key)) errors.BadRow
  _ ← refuse_step_if
      (is_too_large_if at.table (messages_by session past) (option_map (delete_message at.oid at.table) (seen tables past session at from)))
      errors.BadRow
  _ ← refuse_by (in_the_way tables past session at (from ∷ []))
  before ← some_or_refuse (seen tables past session at from) errors.NoRow
  Ok (Did session (delete_message at.oid at.table before))

-- The verdict on a delete from the table of this name.
abbrev pub delete_judged : List DemoTable → List Accepted → List ℕ → TableName → List NamedCell → Result Accepted StepError
delete_judged tables past session name key = do
  at ← table_judged tables past session name
  delete_in tables past session at key (key_given (raw_of at.table) key)

-- ---- truncates

-- The OIDs of tables, or a refusal if one doesn't exist.
abbrev pub oids_found : List DemoTable → List TableName → Result (List ℕ) StepError
oids_found tables [] = Ok []
oids_found tables (name ∷ names) = do
  at ← some_or_refuse (found tables name) errors.UnknownTable
  oids ← oids_found tables names
  Ok (at.oid ∷ oids)

-- The verdict on a truncate: its tables there, its message not too long, and none of them or their keys locked by others.
abbrev pub truncate_judged : List DemoTable → List Accepted → List ℕ → List TableName → Result Accepted StepError
truncate_judged tables past session names = do
  _ ← refuse_step_if (not (is_open session past)) errors.NotOpen
  oids ← oids_found tables names
  _ ← refuse_step_if (is_too_long (messages_by session past) (truncate_message oids)) errors.BadRow
  _ ← refuse_by (table_holder (log_tables tables) past session names)
  Ok (Did session (truncate_message oids))

-- ---- all steps

-- The verdict on a step after some acts: the new act, or the first refusal.
abbrev pub judged : List DemoTable → List Accepted → Step → Result Accepted StepError
judged tables past (Begin session) = begin_judged past session
judged tables past (Commit session) = end_judged past session (Committed session)
judged tables past (Rollback session) = end_judged past session (RolledBack session)
judged tables past (Insert session name cells) = insert_judged tables past session name cells
judged tables past (Update session name key set) = update_judged tables past session name key set
judged tables past (Delete session name key) = delete_judged tables past session name key
judged tables past (Truncate session names) = truncate_judged tables past session names
