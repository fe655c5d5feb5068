-- The committed rows, and those that a session sees with its own changes. PostgreSQL's manual, "Transaction Isolation", Read Committed.
use Rattle.std.specs.Prelude.{ℕ, List}
use Rattle.dbl_source_log.specs.ModelHistory.History.{RawChange}
use Rattle.dbl_source_log.specs.declared.logged.LogTable.{LogTable}
use Rattle.dbl_source_log.specs.TextRows.{TextRows, text_rows_with}
use Rattle.dbl_source_log.specs.RawChanges.{changes_from}
use Rattle.dbl_source_log.specs.Histories.{rows_of}
use Rattle.dbl_tables_rows.specs.Acts.{Accepted, messages_by, accepted_log}

-- The rows of all tables that are committed.
abbrev pub committed_rows : List LogTable → List Accepted → TextRows
committed_rows tables past = rows_of tables (accepted_log past)

-- The changes of rows that the messages of a session report.
abbrev pub changes_by : List LogTable → List Accepted → List ℕ → List RawChange
changes_by tables past session = changes_from tables (committed_rows tables past) (messages_by session past)

-- The rows of all tables that a session sees.
abbrev pub seen_rows : List LogTable → List Accepted → List ℕ → TextRows
seen_rows tables past session = text_rows_with tables (changes_by tables past session) (committed_rows tables past)
