-- A log as a source's history.
use Rattle.std.specs.Prelude.{ℕ, ◌+◌, List, [], ◌∷◌, map}
use Rattle.dbl_source_model.specs.ModelHistory.History.{RawBody, RawCommit, History}
use Rattle.dbl_source_model.specs.ModelHistory.History as raw
use Rattle.dbl_source_log.specs.declared.logged.LogTable.{LogTable}
use Rattle.dbl_source_log.specs.declared.logged.Logged.{Logged}
use Rattle.dbl_source_log.specs.declared.logged.Logged.TheVariants.{Changes, Mark, Alter}
use Rattle.dbl_source_log.specs.Numbers.{lsn_of, end_lsn_of, xid_of, time_of}
use Rattle.dbl_source_log.specs.Relations.{catalogue}
use Rattle.dbl_source_log.specs.TextRows.{TextRows, no_text_rows}
use Rattle.dbl_source_log.specs.Alterations.{altered_table, tables_after, altered_text_rows}
use Rattle.dbl_source_log.specs.RawChanges.{changes_from, text_rows_from}

-- The contents of a commit, given the tables and rows just before it.
abbrev pub body_at : List LogTable → TextRows → Logged → RawBody
body_at tables rows (Changes ms) = raw.Changes (changes_from tables rows ms)
body_at tables rows (Mark value) = raw.Mark value
body_at tables rows (Alter name columns list) = raw.Alter name columns list

-- Commit n, given the tables and rows just before it.
abbrev pub raw_commit_at : List LogTable → TextRows → ℕ → Logged → RawCommit
raw_commit_at tables rows n
    entry = record { lsn = lsn_of n; end_lsn = end_lsn_of n; time = time_of n; xid = xid_of n; body = body_at tables rows entry }

-- The rows after a commit, given the tables and rows just before it.
abbrev pub text_rows_at : List LogTable → TextRows → Logged → TextRows
text_rows_at tables rows (Changes ms) = text_rows_from tables rows ms
text_rows_at tables rows (Mark value) = rows
text_rows_at tables rows (Alter name columns list) = altered_text_rows (map (altered_table name columns) tables) name list rows

-- The commits from n on, given the tables and rows just before them.
abbrev pub commits_from : List LogTable → TextRows → ℕ → List Logged → List RawCommit
commits_from tables rows n [] = []
commits_from tables rows n (entry ∷ log) =
    raw_commit_at tables rows n entry ∷ commits_from (tables_after entry tables) (text_rows_at tables rows entry) (n + 1) log

-- The rows after a log, given the tables and rows before it.
abbrev pub text_rows_through : List LogTable → TextRows → List Logged → TextRows
text_rows_through tables rows [] = rows
text_rows_through tables rows (entry ∷ log) = text_rows_through (tables_after entry tables) (text_rows_at tables rows entry) log

-- The rows after a whole log.
abbrev pub rows_of : List LogTable → List Logged → TextRows
rows_of tables log = text_rows_through tables no_text_rows log

-- The history of a log whose tables are these before all commits: commit n of the log, from 1, is commit n of the history.
abbrev pub history_of : List LogTable → List Logged → History
history_of tables log = record { tables = catalogue tables; commits = commits_from tables no_text_rows 1 log }
