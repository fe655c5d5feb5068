-- What a select answers that takes its rows between two runs of steps.
use Rattle.std.proofs.Common.{◌≡◌, ◌∙◌, ℕ, ◌+◌, ◌-◌, ◌≤◌, Option, None, Some, List, [], ◌++◌, length, map, sym, ap, subst, arith, append_assoc}
use Rattle.std.specs.Prelude.{IfSome}
use Rattle.std.proofs.lemmas.List.{append-nil}
use Rattle.std.proofs.lemmas.List.Elements.{filter_map-append}
use Rattle.dbl_pgmsg.specs.declared.messages.Message.{Message}
use Rattle.dbl_script.specs.ModelTable.declared.row.Key.{Key}
use Rattle.dbl_script.specs.ModelTable.declared.table.RawRow.{RawRow}
use Rattle.dbl_script.specs.ModelTable.declared.table.TableInfo.{TableInfo}
use Rattle.dbl_script.specs.ModelTable.declared.table.TableName.{TableName}
use Rattle.dbl_script.specs.ModelTable.Infos.{number_of}
use Rattle.dbl_script.specs.ModelTable.Rows.{Rows}
use Rattle.dbl_tables_laws.specs.ModelHistory.Fit.{AreInfosOf}
use Rattle.dbl_tables_laws.specs.SourceModel.declared.selected.Selected.{Selected}
use Rattle.dbl_tables_laws.specs.SourceModel.Selected.{AreFirstOf, Selects, rows_up_to}
use Rattle.dbl_source_log.proofs.SourceModelPlainLemmas.{AreTypedRowsAt, rows_of_typed, version_kept}
use Rattle.dbl_tables_laws.proofs.SourceModelGrowthLemmas.{grown_length, same_rows}
use Rattle.dbl_tables_laws.specs.SourceLog.declared.logged.Logged.TheVariants.{Changes}
use Rattle.dbl_tables_laws.specs.SourceLog.FitLogs.{AreFitLog}
use Rattle.dbl_tables_laws.specs.SourceLog.Histories.{rows_of}
use Rattle.dbl_tables_laws.specs.SourceLog.TextRows.{TextRows, no_text_rows}
use Rattle.dbl_tables_laws.proofs.SourceLogLogLemmas.{length-history}
use Rattle.dbl_tables_laws.specs.TablesRows.Seen.{committed_rows}
use Rattle.dbl_tables_laws.specs.TablesRows.Sending.{log_tables}
use Rattle.dbl_tables_laws.specs.TablesRows.Steps.{FoundTable, found}
use Rattle.dbl_demo_wal.specs.declared.entry.Entry.{Entry}
use Rattle.dbl_tables_laws.proofs.FirstLemmas.{first_rows_one}
use Rattle.dbl_demo_wal.specs.Groups.{released}
use Rattle.dbl_demo_wal.specs.CrashState.{added_by, with_entries}
use Rattle.dbl_demo_wal.specs.Sound.{IsSilent, logged_by, logged_in}
use Rattle.dbl_demo_wal.specs.Standings.{history_in, tables_of}
use Rattle.dbl_demo_wal.specs.Wals.{Wal, IsWal}
use Rattle.dbl_demo_wal.specs.Workloads.{acts_at, steps_of}
use Rattle.dbl_demo_wal.proofs.FitLaws.{wal_is_fit}
use Rattle.dbl_demo_wal.proofs.GroupLemmas.{released_are, released_plus}
use Rattle.dbl_demo_wal.proofs.GrowsLemmas.{history_grows}
use Rattle.dbl_demo_wal.proofs.ReleaseLaws.{steps_run}
use Rattle.dbl_demo_wal.specs.SelectLaws.{AreOneAt, RowsShownAreOne, SelectsAreAnswered}
use Rattle.dbl_demo_wal.specs.Shown.{AreRowsShown, ShownAt}
use Rattle.dbl_demo_wal.proofs.KeptTables.{columns_kept}
use Rattle.dbl_demo_wal.proofs.LogRows.{front_fit, without_marks}
use Rattle.dbl_demo_wal.proofs.PlaceLemmas.{none_here, rows_here}

-- ---- one list

pub rows_one : RowsShownAreOne
rows_one tables past name above limit a b of_a of_b = by (found tables name) of_a of_b
  where
    by : (o : Option FoundTable) → ShownAt (committed_rows (log_tables tables) past) above limit o a → ShownAt (committed_rows (log_tables tables) past) above limit o b → AreOneAt o above a b
    by None none none_too = none ∙ sym none_too
    by (Some at) first second = first_rows_one at.table.info (committed_rows (log_tables tables) past at.table.info.name) above limit a b first second

-- ---- the rows of a wal, and of one that goes on

-- the store's committed rows are those of the log, where nothing is missing in it
rows_committed : (wal : Wal) (done : ℕ) → IsSilent wal.workload wal.entries done → committed_rows (tables_of wal) (acts_at wal.workload done) ≡ rows_of (tables_of wal) (logged_in wal.entries)
rows_committed wal done silent =
    ap (λ (log : List (List Message)). rows_of (tables_of wal) (map Changes log)) silent.none_between ∙ sym (without_marks (tables_of wal) wal.entries no_text_rows)

module _ (bytes : List ℕ) (wal : Wal) (more : List Entry) (is : IsWal bytes (with_entries wal more)) where
  front_is_fit : AreFitLog (tables_of wal) (logged_in wal.entries)
  front_is_fit =
      front_fit (tables_of wal) (logged_in wal.entries) (logged_in more)
      (subst (AreFitLog (tables_of wal)) (filter_map-append logged_by wal.entries more) (wal_is_fit bytes (with_entries wal more) is))

module _ (wal : Wal) (name : TableName) (above : Option Key) (limit : ℕ) (rows : List RawRow) where
  -- rows at a place stay what they were
  still : (next : Wal) (place : ℕ) → ((infos : List TableInfo) → rows_up_to infos (history_in next) place ≡ rows_up_to infos (history_in wal) place) → ((infos : List TableInfo) → AreInfosOf (history_in next) infos → AreInfosOf (history_in wal) infos)
      → ((infos : List TableInfo) → AreInfosOf (history_in wal) infos → AreTypedRowsAt (history_in wal) place name above limit rows infos)
      → (infos : List TableInfo) → AreInfosOf (history_in next) infos → AreTypedRowsAt (history_in next) place name above limit rows infos
  still next place same captures are infos captured = by (number_of infos name) (are infos (captures infos captured))
    where
      by : (o : Option ℕ) → IfSome o (λ t. (info : TableInfo) × AreFirstOf infos t info (rows_up_to infos (history_in wal) place) above limit rows)
          → IfSome o (λ t. (info : TableInfo) × AreFirstOf infos t info (rows_up_to infos (history_in next) place) above limit rows)
      by None told = tt
      by (Some t) told = (told.0, subst (λ (at : Rows). AreFirstOf infos t told.0 at above limit rows) (sym (same infos)) told.1)

-- ---- the call

module _ (bytes : List ℕ) (wal : Wal) (done between upto : ℕ) (silent : IsSilent wal.workload wal.entries done) (first_le : done ≤ between) (second_le : between ≤ upto) (within : upto ≤ length (steps_of wal.workload)) where
  abbrev first : List Entry
  first = released wal.workload done between

  abbrev second : List Entry
  second = released wal.workload between upto

  abbrev middle : Wal
  middle = with_entries wal first

  abbrev whole : Wal
  whole = with_entries middle second

  silent_between : IsSilent wal.workload middle.entries between
  silent_between =
      let total : done + (between - done) ≡ between = omega (arith, first_le) in
      subst (λ (n : ℕ). IsSilent wal.workload middle.entries n) total (steps_run wal.workload wal.entries done (between - done) silent (omega (arith, total, second_le, within))).silent

  whole_is : with_entries wal (added_by wal done upto []) ≡ whole
  whole_is =
      ap (λ (l : List Entry). let x : Wal = record wal { entries = l } in x)
      (ap (λ (l : List Entry). wal.entries ++ l) (append-nil (released wal.workload done upto) ∙ released_plus wal.workload done between upto first_le second_le) ∙ sym (append_assoc wal.entries first second))

  module _ (is : IsWal bytes whole) (name : TableName) (above : Option Key) (limit : ℕ) (answer : Selected) (first_version : answer.version ≡ 1) (shown : AreRowsShown wal.workload.tables (acts_at wal.workload between) name above limit answer.rows) where
    abbrev rows : List RawRow
    rows = answer.rows

    fit : AreFitLog (tables_of wal) (logged_in middle.entries)
    fit = front_is_fit bytes middle second is

    shown_here : ShownAt (rows_of (tables_of wal) (logged_in middle.entries)) above limit (found wal.workload.tables name) rows
    shown_here = subst (λ (at : TextRows). ShownAt at above limit (found wal.workload.tables name) rows) (rows_committed middle between silent_between) shown

    answered : Selects name above limit (history_in wal) (history_in whole) answer
    answered =
        let before = history_grows wal first (released_are wal.workload done between) in
        let subsequent = history_grows middle second (released_are wal.workload between upto) in
        let place : length (history_in middle).commits ≡ length (logged_in middle.entries) = length-history (tables_of wal) (logged_in middle.entries) in
        record {
          absent = none_here wal.workload.tables (logged_in middle.entries) fit name above limit rows shown_here;
          place = length (logged_in middle.entries);
          not_before = omega (arith, place, grown_length (history_in wal) (history_in middle) before);
          not_after = omega (arith, place, grown_length (history_in middle) (history_in whole) subsequent);
          version = first_version ∙ sym (version_kept (history_in whole) (length (logged_in middle.entries)) name (columns_kept (tables_of whole) whole.entries) (wal_is_fit bytes whole is).opening);
          are =
              rows_of_typed (history_in whole) (length (logged_in middle.entries)) name above limit rows (columns_kept (tables_of whole) whole.entries)
              (still middle name above limit rows whole (length (logged_in middle.entries)) (λ infos. same_rows infos (history_in middle) (history_in whole) (length (logged_in middle.entries)) subsequent (omega (arith, place)))
              (λ infos captured. record { distinct = captured.distinct; each = captured.each }) (rows_here wal.workload.tables (logged_in middle.entries) fit name above limit rows shown_here));
        }

pub selects_answered : SelectsAreAnswered
selects_answered bytes wal done between upto name above limit answer first_version silent first_le second_le within is shown =
    let same = whole_is bytes wal done between upto silent first_le second_le within in
    subst (λ (x : Wal). Selects name above limit (history_in wal) (history_in x) answer) (sym same)
    (answered bytes wal done between upto silent first_le second_le within (subst (IsWal bytes) same is) name above limit answer first_version shown)
