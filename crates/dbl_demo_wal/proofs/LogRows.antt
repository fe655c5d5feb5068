-- The rows after a fit log that alters no table stand at their keys, and their texts are UTF-8; the first part of a fit log is one; and
-- watermarks change no row.
use Rattle.std.proofs.Common.{◌≡◌, List, [], ◌∷◌, ◌++◌, map, refl, sym, subst, arith, length-append}
use Rattle.dbl_pgmsg.specs.declared.messages.Message.{Message}
use Rattle.dbl_tables_laws.specs.SourceLog.declared.logged.LogTable.{LogTable}
use Rattle.dbl_tables_laws.specs.SourceLog.declared.logged.Logged.{Logged}
use Rattle.dbl_tables_laws.specs.SourceLog.declared.logged.Logged.TheVariants.{Changes, Mark, Alter}
use Rattle.dbl_tables_laws.specs.SourceLog.Alterations.{IsUnaltered, tables_after}
use Rattle.dbl_tables_laws.specs.SourceLog.RawChanges.{changes_from}
use Rattle.dbl_tables_laws.specs.SourceLog.TextRows.{TextRows, no_text_rows}
use Rattle.dbl_tables_laws.specs.SourceLog.Histories.{text_rows_at, text_rows_through}
use Rattle.dbl_tables_laws.specs.SourceLog.FitLogs.{AreFitEntries, AreFitLog, IsFitEntry}
use Rattle.dbl_tables_laws.proofs.SourceLogFitLogLemmas.{message_rows}
use Rattle.dbl_source_log.proofs.AlterationLemmas.{unaltered_front}
use Rattle.dbl_demo_wal.specs.declared.entry.Entry.{Entry}
use Rattle.dbl_demo_wal.specs.declared.entry.Entry.TheVariants.{Commits, Marks, Confirms}
use Rattle.dbl_tables_laws.specs.Reachable.{AreKeyed}
use Rattle.dbl_tables_laws.proofs.KeyedLemmas.{keyed_since}
use Rattle.dbl_tables_laws.proofs.RangeLemmas.{AreRowsInRange, rows_since_ranged}
use Rattle.dbl_demo_wal.specs.Sound.{session_commits, logged_in}

front_entries : (tables : List LogTable) (log more : List Logged) (rows : TextRows) → AreFitEntries tables rows (log ++ more) → AreFitEntries tables rows log
front_entries tables [] more rows fit = tt
front_entries tables (entry ∷ log) more rows fit = (fit.0, front_entries (tables_after entry tables) log more (text_rows_at tables rows entry) fit.1)

module _ (tables : List LogTable) where
  changes_keyed : (rows : TextRows) (ms : List Message) → IsFitEntry tables rows (Changes ms) → AreKeyed tables rows → AreKeyed tables (text_rows_at tables rows (Changes ms))
  changes_keyed rows ms fit keyed = subst (AreKeyed tables) (sym (message_rows tables ms rows)) (keyed_since tables (changes_from tables rows ms) rows fit.changes keyed)

  changes_ranged : (rows : TextRows) (ms : List Message) → IsFitEntry tables rows (Changes ms) → AreRowsInRange rows → AreRowsInRange (text_rows_at tables rows (Changes ms))
  changes_ranged rows ms fit ranged = subst AreRowsInRange (sym (message_rows tables ms rows)) (rows_since_ranged tables (changes_from tables rows ms) rows fit.ranges.1 ranged)

  pub log_keyed : (log : List Logged) (rows : TextRows) → IsUnaltered log → AreFitEntries tables rows log → AreKeyed tables rows → AreKeyed tables (text_rows_through tables rows log)
  log_keyed [] rows kept fit keyed = keyed
  log_keyed (Changes ms ∷ log) rows kept fit keyed = log_keyed log (text_rows_at tables rows (Changes ms)) kept.1 fit.1 (changes_keyed rows ms fit.0 keyed)
  log_keyed (Mark value ∷ log) rows kept fit keyed = log_keyed log rows kept.1 fit.1 keyed
  log_keyed (Alter name columns list ∷ log) rows kept fit keyed = absurd kept.0

  pub log_ranged : (log : List Logged) (rows : TextRows) → IsUnaltered log → AreFitEntries tables rows log → AreRowsInRange rows → AreRowsInRange (text_rows_through tables rows log)
  log_ranged [] rows kept fit ranged = ranged
  log_ranged (Changes ms ∷ log) rows kept fit ranged = log_ranged log (text_rows_at tables rows (Changes ms)) kept.1 fit.1 (changes_ranged rows ms fit.0 ranged)
  log_ranged (Mark value ∷ log) rows kept fit ranged = log_ranged log rows kept.1 fit.1 ranged
  log_ranged (Alter name columns list ∷ log) rows kept fit ranged = absurd kept.0

  pub front_fit : (log more : List Logged) → AreFitLog tables (log ++ more) → AreFitLog tables log
  front_fit log more fit = record {
    short = (let short = fit.short in omega (arith, short, length-append log more));
    ranges = fit.ranges;
    opening = fit.opening;
    distinct = fit.distinct;
    unaltered = unaltered_front log more fit.unaltered;
    entries = front_entries tables log more no_text_rows fit.entries;
  }

  pub without_marks : (entries : List Entry) (rows : TextRows) → text_rows_through tables rows (logged_in entries) ≡ text_rows_through tables rows (map Changes (session_commits entries))
  without_marks [] rows = refl
  without_marks (Commits steps messages ∷ entries) rows = without_marks entries (text_rows_at tables rows (Changes messages))
  without_marks (Marks steps value ∷ entries) rows = without_marks entries rows
  without_marks (Confirms upto ∷ entries) rows = without_marks entries rows
