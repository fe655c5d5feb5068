-- What a store has after an alteration of a table: the sessions and the rows of other tables as before, and the table's columns and rows
-- altered.
use Rattle.std.specs.Prelude.{◌≡◌, ℕ, false, if◌then◌else◌, Option, None, option_map, List, map}
use Rattle.dbl_model_table.specs.declared.row.Key.{Key}
use Rattle.dbl_model_table.specs.declared.table.RawRow.{RawRow}
use Rattle.dbl_model_table.specs.declared.table.RawTable.{RawTable}
use Rattle.dbl_model_table.specs.declared.table.TableName.{TableName}
use Rattle.dbl_model_table.specs.Tables.{same_name}
use Rattle.dbl_source_log.specs.declared.logged.LogTable.{LogTable}
use Rattle.dbl_source_log.specs.Alterations.{row_among}
use Rattle.dbl_source_log.specs.Texts.{Texts}
use Rattle.dbl_tables_rows.specs.declared.demo_table.DemoTable.{DemoTable}
use Rattle.dbl_tables_rows.specs.Acts.{Accepted, is_open, messages_by}
use Rattle.dbl_tables_rows.specs.Seen.{committed_rows}
use Rattle.dbl_tables_rows.specs.Selects.{AreRisingKeys}
use Rattle.dbl_tables_rows.specs.Sending.{raw_of, log_tables}
use Rattle.dbl_tables_rows.specs.Steps.{FoundTable}
use Rattle.dbl_tables_altered.specs.declared.alteration.Alteration.{Alteration}
use Rattle.dbl_tables_altered.specs.Alterations.{raw_after, row_after}

-- ---- acts

-- After two lists of acts the same sessions are open, with the same changes since their begin, and the same rows are committed.
pub record AreAlike (tables : List LogTable) (a b : List Accepted) : Type 0 where
  pub opened : (session : List ℕ) → is_open session a ≡ is_open session b
  pub messages : (session : List ℕ) → messages_by session a ≡ messages_by session b
  pub rows : (name : TableName) (key : Key) → committed_rows tables a name key ≡ committed_rows tables b name key

-- ---- tables

-- A table after an alteration: its columns are altered, and it is sent as before.
pub record IsTableAfter (alteration : Alteration) (table after : DemoTable) : Type 0 where
  pub raw : raw_of after ≡ raw_after alteration (raw_of table)
  pub full : after.full ≡ table.full
  pub toast : after.toast ≡ table.toast

-- A table, or the altered one if it has its name.
abbrev pub replaced : DemoTable → DemoTable → DemoTable
replaced after table = if same_name table.info.name after.info.name then after else table

-- Acts over the tables after an alteration of one of them: each session is as it was, the rows of the altered table are altered, and those
-- of the other tables are as they were.
pub record IsReopened (tables : List DemoTable) (past : List Accepted) (at : FoundTable) (alteration : Alteration) (new : List DemoTable)
    (acts : List Accepted) : Type 0 where
  pub after : DemoTable
  pub changed : IsTableAfter alteration at.table after
  pub tables_are : new ≡ map (replaced after) tables
  pub opened : (session : List ℕ) → is_open session acts ≡ is_open session past
  pub messages : (session : List ℕ) → messages_by session acts ≡ messages_by session past
  pub rows : (key : Key) → committed_rows (log_tables new) acts at.table.info.name key
      ≡ option_map (row_after alteration (raw_of at.table).columns) (committed_rows (log_tables tables) past at.table.info.name key)
  pub others : (other : TableName) (key : Key) → same_name at.table.info.name other ≡ false
      → committed_rows (log_tables new) acts other key ≡ committed_rows (log_tables tables) past other key

-- ---- the log

-- All rows of a table, each once, in the order of their keys.
pub record AreAllRows (raw : RawTable) (at : Key → Option Texts) (list : List RawRow) : Type 0 where
  pub ordered : AreRisingKeys raw None list
  pub each : (key : Key) → row_among raw list key ≡ at key

-- The rows that the log has for an alteration: all rows of the altered table, in its new columns.
abbrev pub AreLoggedRows : List DemoTable → List Accepted → FoundTable → Alteration → List RawRow → Type 0
AreLoggedRows tables past at alteration list =
    AreAllRows (raw_after alteration (raw_of at.table))
    (λ key. option_map (row_after alteration (raw_of at.table).columns)
    (committed_rows (log_tables tables) past at.table.info.name key))
    list
