-- The stores of a workload of which nothing was done are kept.
use Rattle.std.proofs.Common.{◌≡◌, ◌∙◌, ℕ, ◌+◌, None, List, [], ◌∷◌, map, refl, sym, ap, subst}
use Rattle.std.specs.List.{AllByRecursion}
use Rattle.dbl_base.specs.declared.lsn.Lsn.{Lsn}
use Rattle.dbl_pgmsg.specs.declared.messages.Message.{Message}
use Rattle.dbl_source.specs.SourceLog.declared.logged.LogTable.{LogTable}
use Rattle.dbl_source.specs.SourceLog.declared.logged.Logged.{Logged}
use Rattle.dbl_source.specs.SourceLog.declared.logged.Logged.TheVariants.{Changes}
use Rattle.dbl_source.specs.SourceLog.Histories.{commits_from, history_of, text_rows_at}
use Rattle.dbl_source.specs.SourceLog.TextRows.{TextRows, no_text_rows}
use Rattle.dbl_demo_laws.specs.DemoWal.declared.entry.Entry.{Entry}
use Rattle.dbl_demo_laws.specs.DemoWal.Sound.{confirmed_from, confirmed_in, logged_in}
use Rattle.dbl_demo_laws.specs.DemoWal.Standings.{tables_of}
use Rattle.dbl_demo_laws.specs.DemoWal.Wals.{Wal}
use Rattle.dbl_demo_laws.specs.DemoWal.Workloads.{log_at}
use Rattle.dbl_demo_laws.proofs.DemoWalFitLaws.{wal_has_fit_history}
use Rattle.dbl_capture_laws.specs.Faithful.Faithful.{HasNoMark}
use Rattle.dbl_demo_laws.specs.Made.{first_entries}
use Rattle.dblog_promise.specs.Contents.{Contents}
use Rattle.dblog_promise.specs.PromiseLaws.{FreshStoresAreKept}

changes_alone : (log : List (List Message)) → logged_in (first_entries log) ≡ map Changes log
changes_alone [] = refl
changes_alone (ms ∷ log) = ap (λ (rest : List Logged). Changes ms ∷ rest) (changes_alone log)

no_marks : (tables : List LogTable) (rows : TextRows) (n : ℕ) (log : List (List Message)) → AllByRecursion (λ commit. HasNoMark commit.body) (commits_from tables rows n (map Changes log))
no_marks tables rows n [] = tt
no_marks tables rows n (ms ∷ log) = (tt, no_marks tables (text_rows_at tables rows (Changes ms)) (n + 1) log)

none_confirmed : (lsn : Lsn) (log : List (List Message)) → confirmed_from lsn (first_entries log) ≡ lsn
none_confirmed lsn [] = refl
none_confirmed lsn (ms ∷ log) = none_confirmed lsn log

unmarked_at : (wal : Wal) (entries : List Entry) → entries ≡ first_entries (log_at wal.workload 0) → AllByRecursion (λ commit. HasNoMark commit.body) (history_of (tables_of wal) (logged_in entries)).commits
unmarked_at wal entries are =
    let log = log_at wal.workload 0 in
    let here = no_marks (tables_of wal) no_text_rows 1 log in
    let logged = subst (λ (l : List Logged). AllByRecursion (λ commit. HasNoMark commit.body) (history_of (tables_of wal) l).commits) (sym (changes_alone log)) here in
    subst (λ (es : List Entry). AllByRecursion (λ commit. HasNoMark commit.body) (history_of (tables_of wal) (logged_in es)).commits) (sym are) logged

pub fresh_stores_are_kept : FreshStoresAreKept
fresh_stores_are_kept script w t f fresh log store =
    let wal = fresh.0 in
    let first = fresh.2 in
    let held : Contents = record { wal = wal; groups = []; offset = None } in (
      held,
      record {
        read = record { source = fresh.1; log = log; store = store };
        script_is = first.script;
        empty = refl;
        unstored = refl;
        kept = record {
          fit = wal_has_fit_history w wal fresh.1;
          faithful = record {
            empty = refl;
            unmarked = unmarked_at wal wal.entries first.entries;
            unconfirmed = ap (λ (es : List Entry). (confirmed_in es).0) first.entries ∙ ap (λ (l : Lsn). l.0) (none_confirmed (record { 0 = 0 }) (log_at wal.workload 0));
          };
        };
      },
    )
