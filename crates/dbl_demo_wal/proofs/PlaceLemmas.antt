-- The rows that are shown of a fit log's tables are those of its history after all of its commits.
use Rattle.std.proofs.Common.{◌≡◌, ◌∙◌, ℕ, ◌+◌, Bool, true, false, Option, Some, None, List, [], ◌∷◌, length, refl, sym, ap, subst}
use Rattle.std.specs.Prelude.{IfSome, if◌then◌else◌, not, option_map, slice_get}
use Rattle.dbl_script.specs.ModelTable.declared.row.Key.{Key}
use Rattle.dbl_script.specs.ModelTable.declared.row.Row.{Row}
use Rattle.dbl_script.specs.ModelTable.declared.table.RawRow.{RawRow}
use Rattle.dbl_script.specs.ModelTable.declared.table.TableInfo.{TableInfo}
use Rattle.dbl_script.specs.ModelTable.declared.table.TableName.{TableName}
use Rattle.dbl_script.specs.ModelTable.Infos.{IsInfoOf, column_types, number_of}
use Rattle.dbl_script.specs.ModelTable.Tables.{is_watermark, same_name}
use Rattle.dbl_tables_laws.proofs.ModelTableInfoLemmas.{good_name, not_true, one_info}
use Rattle.dbl_tables_laws.proofs.ModelTableLists.{and_right, position_from-at}
use Rattle.dbl_tables_laws.specs.ModelHistory.Fit.{AreInfosOf, IsKeyOf}
use Rattle.dbl_tables_laws.specs.ModelHistory.History.{entry_of}
use Rattle.dbl_tables_laws.specs.ModelHistory.KeyedRows.{AreFirst}
use Rattle.dbl_tables_laws.specs.SourceModel.Selected.{AreFirstOf, rows_up_to}
use Rattle.dbl_source_log.proofs.SourceModelPlainLemmas.{AreTypedRowsAt}
use Rattle.dbl_tables_laws.specs.SourceLog.declared.logged.LogTable.{LogTable}
use Rattle.dbl_tables_laws.specs.SourceLog.declared.logged.Logged.{Logged}
use Rattle.dbl_tables_laws.specs.SourceLog.FitLogs.{AreFitLog, IsTextKey}
use Rattle.dbl_tables_laws.specs.SourceLog.Histories.{history_of, rows_of}
use Rattle.dbl_tables_laws.specs.SourceLog.Relations.{first_oid}
use Rattle.dbl_tables_laws.specs.SourceLog.TextRows.{no_text_rows, log_table_named}
use Rattle.dbl_tables_laws.specs.SourceLog.Texts.{key_in, raw_key}
use Rattle.dbl_tables_laws.proofs.SourceLogFitLogLemmas.{their_rows}
use Rattle.dbl_tables_laws.proofs.SourceLogRowTexts.{IsHere, entry_named, here_at}
use Rattle.dbl_tables_laws.proofs.SourceLogThemselvesLemmas.{name_same}
use Rattle.dbl_tables_laws.specs.TablesRows.declared.demo_table.DemoTable.{DemoTable}
use Rattle.dbl_tables_laws.specs.TablesRows.Selects.{AreShown}
use Rattle.dbl_tables_laws.specs.TablesRows.Sending.{log_table, log_tables, raw_of}
use Rattle.dbl_tables_laws.specs.TablesRows.Steps.{FoundTable, found, found_from}
use Rattle.dbl_tables_laws.proofs.KeyedLemmas.{keyed_none}
use Rattle.dbl_tables_laws.proofs.RangeLemmas.{raw_key_ranged}
use Rattle.dbl_demo_wal.specs.Shown.{ShownAt}
use Rattle.dbl_demo_wal.proofs.FirstRows.{first_values}
use Rattle.dbl_tables_laws.proofs.SourceLogKeyTexts.{key_fit}
use Rattle.dbl_demo_wal.proofs.KeyTexts.{rows_are}
use Rattle.dbl_demo_wal.proofs.LogRows.{log_keyed, log_ranged}

-- ---- tables by their names

-- a table of the store is found as that of the log
named_is : (oid : ℕ) (tables : List DemoTable) (name : TableName) → log_table_named (log_tables tables) name ≡ option_map (λ (at : FoundTable). log_table at.table) (found_from oid tables name)
named_is oid [] name = refl
named_is oid (t ∷ tables) name = by (same_name t.info.name name) (named_is (oid + 1) tables name)
  where
    by : (b : Bool) → log_table_named (log_tables tables) name ≡ option_map (λ (at : FoundTable). log_table at.table) (found_from (oid + 1) tables name)
        → (if b then Some (log_table t) else log_table_named (log_tables tables) name) ≡ option_map (λ (at : FoundTable). log_table at.table) (if b then Some (record { oid = oid; table = t }) else found_from (oid + 1) tables name)
    by true rest = refl
    by false rest = rest

found_name : (oid : ℕ) (tables : List DemoTable) (name : TableName) (at : FoundTable) → found_from oid tables name ≡ Some at → at.table.info.name ≡ name
found_name oid [] name at is = cc
found_name oid (t ∷ tables) name at is = by (same_name t.info.name name) refl is (found_name (oid + 1) tables name at)
  where
    by : (b : Bool) → same_name t.info.name name ≡ b → (if b then Some (record { oid = oid; table = t }) else found_from (oid + 1) tables name) ≡ Some at → (found_from (oid + 1) tables name ≡ Some at → at.table.info.name ≡ name) → at.table.info.name ≡ name
    by true same told later = let e : record { oid = oid; table = t } ≡ at = cc in ap (λ (f : FoundTable). f.table.info.name) (sym e) ∙ name_same t.info.name name same
    by false other told later = later told

-- the table of the watermarks can't be captured
plain : (info : TableInfo) → is_watermark info.name ≡ false
plain info = not_true (is_watermark info.name) (and_right _ (not (is_watermark info.name)) (good_name info))

module _ (tables : List DemoTable) (log : List Logged) (fit : AreFitLog (log_tables tables) log) where
  abbrev logs : List LogTable
  logs = log_tables tables

  module _ (at : FoundTable) (own : log_table_named logs at.table.info.name ≡ Some (log_table at.table)) where
    -- a row that stands there has a key of the table's
    row_fit : (row : RawRow) → rows_of logs log at.table.info.name (key_in (raw_of at.table) row.cells) ≡ Some row.cells → IsKeyOf at.table.info (key_in (raw_of at.table) row.cells)
    row_fit row is =
        let kept = log_keyed logs log no_text_rows fit.unaltered fit.entries (keyed_none logs) at.table.info.name (key_in (raw_of at.table) row.cells) row.cells is in
        let e : kept.table ≡ log_table at.table = (let there = kept.there in cc) in
        key_fit (log_table at.table) at.table.info refl (raw_key (raw_of at.table) row.cells) (subst (λ (t : LogTable). IsTextKey t.raw (raw_key t.raw row.cells)) e kept.text_key)
        (raw_key_ranged (raw_of at.table) row.cells (log_ranged logs log no_text_rows fit.unaltered fit.entries (λ name key r none. cc) at.table.info.name (key_in (raw_of at.table) row.cells) row.cells is))

    module _ (infos : List TableInfo) (captured : AreInfosOf (history_of logs log) infos) (t : ℕ) (there : slice_get infos t ≡ Some at.table.info) where
      first_of : (above : Option Key) (limit : ℕ) (rows : List RawRow) → AreShown at.table.info (rows_of logs log at.table.info.name) above limit rows → AreFirstOf infos t at.table.info (rows_up_to infos (history_of logs log) (length log)) above limit rows
      first_of above limit rows shown = record {
        captured = there;
        none_above = shown.none_above;
        first = λ key.
            subst (λ (l : List (Key × Row)). AreFirst at.table.info (rows_up_to infos (history_of logs log) (length log) t) above limit l) (sym (rows_are (log_table at.table) at.table.info refl infos t there rows))
            (first_values (raw_of at.table) (column_types at.table.info) at.table.info (rows_of logs log at.table.info.name) (rows_up_to infos (history_of logs log) (length log) t)
            (λ k is_key. their_rows logs log infos t at.table.info k fit captured there is_key) row_fit above limit rows (shown.first key));
      }

  -- ---- a table that is captured

  module _ (infos : List TableInfo) (captured : AreInfosOf (history_of logs log) infos) (name : TableName) where
    catalogued : AreInfosOf (history_of logs []) infos
    catalogued = record { distinct = captured.distinct; each = captured.each }

    captured_plain : (t : ℕ) → number_of infos name ≡ Some t → is_watermark name ≡ false
    captured_plain t number =
        let there = position_from-at (λ (x : TableInfo). same_name x.name name) 0 infos t number in
        ap is_watermark (sym (name_same there.2.0.name name there.2.2)) ∙ plain there.2.0

    here : (t : ℕ) → number_of infos name ≡ Some t → IsHere logs infos name t
    here t number = here_at logs infos catalogued name t (captured_plain t number) number

    abbrev Answers : Option Key → ℕ → List RawRow → ℕ → Type 0
    Answers above limit rows t = (info : TableInfo) × AreFirstOf infos t info (rows_up_to infos (history_of logs log) (length log)) above limit rows

    answers_at : (above : Option Key) (limit : ℕ) (rows : List RawRow) (t : ℕ) → number_of infos name ≡ Some t → (o : Option FoundTable) → found tables name ≡ o → ShownAt (rows_of logs log) above limit o rows → Answers above limit rows t
    answers_at above limit rows t number None none shown =
        let h = here t number in
        let never : None ≡ Some h.table = sym (named_is first_oid tables name ∙ ap (option_map (λ (at : FoundTable). log_table at.table)) none) ∙ h.found in
        cc
    answers_at above limit rows t number (Some at) is shown =
        let h = here t number in
        let named : at.table.info.name ≡ name = found_name first_oid tables name at is in
        let own : log_table_named logs name ≡ Some (log_table at.table) = named_is first_oid tables name ∙ ap (option_map (λ (f : FoundTable). log_table f.table)) is in
        let both : Some h.table ≡ Some (log_table at.table) = sym h.found ∙ own in
        let same : h.table ≡ log_table at.table = cc in
        let info : h.info ≡ at.table.info = one_info (raw_of at.table) h.info at.table.info (subst (λ (x : LogTable). IsInfoOf x.raw h.info) same h.is_info) refl in
        let there : slice_get infos t ≡ Some at.table.info = h.there ∙ ap (λ (i : TableInfo). Some i) info in
        (at.table.info, first_of at (ap (log_table_named logs) named ∙ own) infos captured t there above limit rows shown)

  pub rows_here : (name : TableName) (above : Option Key) (limit : ℕ) (rows : List RawRow) → ShownAt (rows_of logs log) above limit (found tables name) rows
      → (infos : List TableInfo) → AreInfosOf (history_of logs log) infos → AreTypedRowsAt (history_of logs log) (length log) name above limit rows infos
  rows_here name above limit rows shown infos captured = by (number_of infos name) refl
    where
      by : (o : Option ℕ) → number_of infos name ≡ o → IfSome o (Answers infos captured name above limit rows)
      by None none = tt
      by (Some t) number = answers_at infos captured name above limit rows t number (found tables name) refl shown

  -- a table that the catalogue doesn't show has none
  pub none_here : (name : TableName) (above : Option Key) (limit : ℕ) (rows : List RawRow) → ShownAt (rows_of logs log) above limit (found tables name) rows → entry_of (history_of logs log) name ≡ None → rows ≡ []
  none_here name above limit rows shown absent = by (found tables name) refl shown
    where
      by : (o : Option FoundTable) → found tables name ≡ o → ShownAt (rows_of logs log) above limit o rows → rows ≡ []
      by None none told = told
      by (Some at) is told =
          let named : at.table.info.name ≡ name = found_name first_oid tables name at is in
          let shows : is_watermark name ≡ false = ap is_watermark (sym named) ∙ plain at.table.info in
          let own : log_table_named logs name ≡ Some (log_table at.table) = named_is first_oid tables name ∙ ap (option_map (λ (f : FoundTable). log_table f.table)) is in
          let entry : None ≡ Some (raw_of at.table) = sym absent ∙ entry_named logs name shows ∙ ap (option_map (λ (x : LogTable). x.raw)) own in
          cc
