-- The log of a wal is fit and fair, as its serial run is: watermarks and confirmed positions change no row.
use Rattle.std.proofs.Common.{◌≡◌, ℕ, ◌<◌, ◌≤◌, ◌^◌, List, [], ◌∷◌, length, map, sym, subst, arith}
use Rattle.std.specs.List.{AllByRecursion}
use Rattle.dbl_pgmsg.specs.declared.messages.Message.{Message}
use Rattle.dbl_tables_laws.specs.SourceLog.declared.logged.LogTable.{LogTable}
use Rattle.dbl_tables_laws.specs.SourceLog.declared.logged.Logged.TheVariants.{Changes}
use Rattle.dbl_tables_laws.specs.SourceLog.TextRows.{TextRows, no_text_rows}
use Rattle.dbl_tables_laws.specs.SourceLog.Histories.{text_rows_at}
use Rattle.dbl_tables_laws.specs.SourceLog.FitLogs.{AreFitEntries, AreFitLog}
use Rattle.dbl_tables_laws.specs.SourceLog.Fair.{AreFairEntries, IsFairLog}
use Rattle.dbl_source_log.proofs.FitLogLemmas.{fit_histories}
use Rattle.dbl_demo_wal.specs.declared.entry.Entry.{Entry}
use Rattle.dbl_demo_wal.specs.declared.entry.Entry.TheVariants.{Commits, Marks, Confirms}
use Rattle.dbl_demo_wal.specs.Entries.{FitsWalEntry}
use Rattle.dbl_tables_laws.specs.Laws.{SerialRunsAreFit, SerialRunsAreFair}
use Rattle.dbl_tables_laws.proofs.RangedLemmas.{runs_fit}
use Rattle.dbl_tables_laws.proofs.SendableLemmas.{runs_fair}
use Rattle.dbl_demo_wal.specs.Workloads.{session_steps_at, log_at, workload_rows}
use Rattle.dbl_demo_wal.specs.Sound.{session_commits, logged_in, steps_in}
use Rattle.dbl_demo_wal.specs.Wals.{Wal, IsWal}
use Rattle.dbl_demo_wal.specs.Standings.{tables_of}
use Rattle.dbl_demo_wal.specs.SoundLaws.{WalsAreFit, WalsAreFair, WalsHaveFitHistories, WorkloadsAreInRange}
use Rattle.dbl_demo_wal.proofs.KeptTables.{logged_kept}
use Rattle.dbl_demo_wal.proofs.RangeLaws.{workload_in_range}
use Rattle.dbl_demo_wal.proofs.SerialLaws.{sound_serial}

-- ---- watermarks between commits

with_marks : (tables : List LogTable) (rows : TextRows) (entries : List Entry) → AllByRecursion FitsWalEntry entries → AreFitEntries tables rows (map Changes (session_commits entries)) → AreFitEntries tables rows (logged_in entries)
with_marks tables rows [] fits are = tt
with_marks tables rows (Commits steps messages ∷ entries) fits are = (are.0, with_marks tables (text_rows_at tables rows (Changes messages)) entries fits.1 are.1)
with_marks tables rows (Marks steps value ∷ entries) fits are = (record { ranges = fits.0.stored.utf8; changes = tt; alters = tt }, with_marks tables rows entries fits.1 are)
with_marks tables rows (Confirms upto ∷ entries) fits are = with_marks tables rows entries fits.1 are

fair_with_marks : (tables : List LogTable) (entries : List Entry) → AreFairEntries tables (map Changes (session_commits entries)) → AreFairEntries tables (logged_in entries)
fair_with_marks tables [] are = tt
fair_with_marks tables (Commits steps messages ∷ entries) are = (are.0, fair_with_marks tables entries are.1)
fair_with_marks tables (Marks steps value ∷ entries) are = (tt, fair_with_marks tables entries are)
fair_with_marks tables (Confirms upto ∷ entries) are = fair_with_marks tables entries are

-- no more commits than entries
few_commits : (entries : List Entry) → length (session_commits entries) ≤ length entries
few_commits [] = omega arith
few_commits (Commits steps messages ∷ entries) = omega (arith, few_commits entries)
few_commits (Marks steps value ∷ entries) = omega (arith, few_commits entries)
few_commits (Confirms upto ∷ entries) = omega (arith, few_commits entries)

few_logged : (entries : List Entry) → length (logged_in entries) ≤ length entries
few_logged [] = omega arith
few_logged (Commits steps messages ∷ entries) = omega (arith, few_logged entries)
few_logged (Marks steps value ∷ entries) = omega (arith, few_logged entries)
few_logged (Confirms upto ∷ entries) = omega (arith, few_logged entries)

-- ---- wals, by the laws of serial runs

module _ (fit : SerialRunsAreFit) (fair : SerialRunsAreFair) (ranges : WorkloadsAreInRange) (bytes : List ℕ) (wal : Wal) (is : IsWal bytes wal) where
  serial_is : session_commits wal.entries ≡ log_at wal.workload (steps_in wal.entries)
  serial_is = sound_serial wal.workload wal.entries is.are.sound.each is.are.sound.begun

  fit_of : AreFitLog (tables_of wal) (logged_in wal.entries)
  fit_of =
      let ranged = ranges wal.script wal.workload is.are.workload (steps_in wal.entries) in
      let run : AreFitLog (tables_of wal) (map Changes (session_commits wal.entries)) =
      subst (λ (log : List (List Message)). AreFitLog (tables_of wal) (map Changes log)) (sym serial_is)
      (fit wal.workload.tables (workload_rows wal.workload) (session_steps_at wal.workload (steps_in wal.entries)) ranged.described.can ranged.described.ranges ranged.rows ranged.steps
      (subst (λ (log : List (List Message)). length log < 2 ^ 40) serial_is (omega (arith, few_commits wal.entries, is.few)))) in
      record {
        short = omega (arith, few_logged wal.entries, is.few);
        ranges = run.ranges;
        opening = run.opening;
        distinct = run.distinct;
        unaltered = logged_kept wal.entries;
        entries = with_marks (tables_of wal) no_text_rows wal.entries is.are.fits run.entries;
      }

  fair_of : IsFairLog (tables_of wal) (logged_in wal.entries)
  fair_of =
      let ranged = ranges wal.script wal.workload is.are.workload (steps_in wal.entries) in
      let run : IsFairLog (tables_of wal) (map Changes (session_commits wal.entries)) =
      subst (λ (log : List (List Message)). IsFairLog (tables_of wal) (map Changes log)) (sym serial_is)
      (fair wal.workload.tables (workload_rows wal.workload) (session_steps_at wal.workload (steps_in wal.entries)) ranged.described ranged.rows ranged.steps) in
      record { named = run.named; relations = run.relations; entries = fair_with_marks (tables_of wal) wal.entries run.entries; unaltered = logged_kept wal.entries }

pub wal_is_fit : WalsAreFit
wal_is_fit = fit_of runs_fit runs_fair workload_in_range

pub wal_is_fair : WalsAreFair
wal_is_fair = fair_of runs_fit runs_fair workload_in_range

pub wal_has_fit_history : WalsHaveFitHistories
wal_has_fit_history bytes wal is = fit_histories (tables_of wal) (logged_in wal.entries) (wal_is_fit bytes wal is)
