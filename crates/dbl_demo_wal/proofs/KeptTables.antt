-- No entry of a log of commits, watermarks and confirmed positions alters a table: its tables are the workload's at every place.
use Rattle.std.proofs.Common.{◌≡◌, ℕ, ◌+◌, List, [], ◌∷◌, take, drop, reverse, ap}
use Rattle.std.specs.List.{AllByRecursion}
use Rattle.dbl_base.specs.declared.lsn.Lsn.{Lsn}
use Rattle.dbl_pgmsg.specs.declared.messages.Message.{Message}
use Rattle.dbl_tables_laws.specs.SourceLog.declared.logged.LogTable.{LogTable}
use Rattle.dbl_tables_laws.specs.SourceLog.declared.logged.Logged.{Logged}
use Rattle.dbl_tables_laws.specs.SourceLog.declared.logged.Logged.TheVariants.{Changes, Mark, Alter}
use Rattle.dbl_tables_laws.specs.SourceLog.declared.reader_position.ReaderPosition.{ReaderPosition}
use Rattle.dbl_tables_laws.specs.SourceLog.Alterations.{IsUnaltered, tables_through}
use Rattle.dbl_tables_laws.specs.SourceLog.Fair.{AreFairEntries, IsFairEntry}
use Rattle.dbl_tables_laws.specs.SourceLog.Histories.{history_of}
use Rattle.dbl_tables_laws.specs.SourceLog.Numbers.{commits_upto}
use Rattle.dbl_tables_laws.specs.SourceLog.Sent.{index_of, sent_after, tables_at, told_from}
use Rattle.dbl_tables_laws.specs.SourceModel.Growth.{KeepsColumns}
use Rattle.dbl_source_log.proofs.AlterationLemmas.{take_unaltered, through_unaltered}
use Rattle.dbl_source_log.proofs.LogLemmas.{keeps_columns}
use Rattle.dbl_demo_wal.specs.declared.entry.Entry.{Entry}
use Rattle.dbl_demo_wal.specs.declared.entry.Entry.TheVariants.{Commits, Marks, Confirms}
use Rattle.dbl_demo_wal.specs.Sound.{logged_in}

pub logged_kept : (entries : List Entry) → IsUnaltered (logged_in entries)
logged_kept [] = tt
logged_kept (Commits steps messages ∷ entries) = (tt, logged_kept entries)
logged_kept (Marks steps value ∷ entries) = (tt, logged_kept entries)
logged_kept (Confirms upto ∷ entries) = logged_kept entries

-- ---- of a workload's log

pub columns_kept : (tables : List LogTable) (entries : List Entry) → KeepsColumns (history_of tables (logged_in entries))
columns_kept tables entries = keeps_columns tables (logged_in entries) (logged_kept entries)

pub tables_whole : (tables : List LogTable) (entries : List Entry) → tables_through (logged_in entries) tables ≡ tables
tables_whole tables entries = through_unaltered (logged_in entries) tables (logged_kept entries)

pub tables_front : (tables : List LogTable) (entries : List Entry) (k : ℕ) → tables_through (take k (logged_in entries)) tables ≡ tables
tables_front tables entries k = take_unaltered k (logged_in entries) tables (logged_kept entries)

pub tables_here : (tables : List LogTable) (entries : List Entry) (place : ReaderPosition) → tables_at tables (logged_in entries) place ≡ tables
tables_here tables entries place = tables_front tables entries (index_of place)

-- ---- of every log that alters no table

pub sent_plain : (tables : List LogTable) (after : Lsn) (log : List Logged) → IsUnaltered log → sent_after tables after log ≡ reverse (told_from tables (commits_upto after + 1) (drop (commits_upto after) log) [])
sent_plain tables after log kept =
    ap (λ (ts : List LogTable). reverse (told_from ts (commits_upto after + 1) (drop (commits_upto after) log) [])) (take_unaltered (commits_upto after) log tables kept)

-- what is fair of each entry by its tables is so by the first ones
pub fair_each : (tables : List LogTable) (log : List Logged) → IsUnaltered log → AreFairEntries tables log → AllByRecursion (IsFairEntry tables) log
fair_each tables [] kept fair = tt
fair_each tables (Changes ms ∷ log) kept fair = (fair.0, fair_each tables log kept.1 fair.1)
fair_each tables (Mark value ∷ log) kept fair = (fair.0, fair_each tables log kept.1 fair.1)
fair_each tables (Alter name columns rows ∷ log) kept fair = absurd kept.0
