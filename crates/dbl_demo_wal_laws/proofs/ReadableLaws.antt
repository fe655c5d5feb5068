-- Each row at each point of a log is readable: it is a row of texts that encode values.
use Rattle.std.proofs.Common.{◌≡◌, ◌∙◌, ℕ, zero, suc, ◌+◌, false, Option, Some, None, List, [], ◌∷◌, ◌++◌, length, map, take, drop, refl, sym, ap, subst, arith}
use Rattle.std.specs.Prelude.{not, option_map, slice_get}
use Rattle.std.proofs.lemmas.List.{length-map, take_all, take-append-drop}
use Rattle.dbl_value_types.specs.declared.value.Val.{Val}
use Rattle.dbl_value_types.specs.Faults.{value_fault}
use Rattle.dbl_model_table.specs.declared.change.Commit.{Commit}
use Rattle.dbl_model_table.specs.declared.row.Key.{Key}
use Rattle.dbl_model_table.specs.declared.table.RawTable.{RawTable}
use Rattle.dbl_model_table.specs.declared.table.TableInfo.{TableInfo}
use Rattle.dbl_model_table.specs.Infos.{catalogue_of, column_types}
use Rattle.dbl_model_table.specs.Rows.{all_changes, no_rows, rows_from}
use Rattle.dbl_model_table.specs.Tables.{is_watermark}
use Rattle.dbl_model_table.proofs.InfoLemmas.{good_name, not_true, typed_columns}
use Rattle.dbl_model_table.proofs.Lists.{and_right}
use Rattle.dbl_model_history.specs.Fit.{AreInfosOf, IsKeyOf}
use Rattle.dbl_model_history.specs.History.{RawCommit}
use Rattle.dbl_model_history.specs.Typed.{typed, typed_cells, typed_commit}
use Rattle.dbl_model_history.proofs.RowKeys.{keyed-none, keyed_from}
use Rattle.dbl_source_log.proofs.FitLogLemmas.{fit_histories, their_rows}
use Rattle.dbl_source_log.proofs.LogLemmas.{length-history}
use Rattle.dbl_source_log.proofs.RowTexts.{IsHere, here_at, number_at}
use Rattle.dbl_tables_laws.specs.SourceModel.Selected.{rows_up_to}
use Rattle.dbl_tables_laws.specs.SourceLog.declared.logged.LogTable.{LogTable}
use Rattle.dbl_tables_laws.specs.SourceLog.declared.logged.Logged.{Logged}
use Rattle.dbl_tables_laws.specs.SourceLog.Alterations.{tables_after}
use Rattle.dbl_tables_laws.specs.SourceLog.FitLogs.{AreFitLog}
use Rattle.dbl_tables_laws.specs.SourceLog.Histories.{commits_from, history_of, raw_commit_at, rows_of, text_rows_at}
use Rattle.dbl_tables_laws.specs.SourceLog.Texts.{Texts}
use Rattle.dbl_tables_laws.specs.SourceLog.TextRows.{TextRows, no_text_rows}
use Rattle.dbl_tables_laws.proofs.SpelledLemmas.{AreRowsSpelled, AreSpelled}
use Rattle.dbl_demo_wal.specs.Sound.{logged_in, session_commits, steps_in}
use Rattle.dbl_demo_wal.specs.Standings.{history_in, tables_of}
use Rattle.dbl_demo_wal.specs.Wals.{Wal, IsWal}
use Rattle.dbl_demo_wal.specs.Workloads.{session_steps_at, workload_rows}
use Rattle.dbl_demo_wal.proofs.FitLaws.{wal_is_fit}
use Rattle.dbl_demo_wal.proofs.LogRows.{front_fit}
use Rattle.dbl_demo_wal.proofs.RangeLaws.{described_tables}
use Rattle.dbl_demo_wal.proofs.SerialLaws.{sound_serial}
use Rattle.dbl_tables_laws.specs.TablesRows.Serial.{initial_steps}
use Rattle.dbl_demo_wal_laws.specs.Readable.{HasValidTexts, RowsAreReadable, RowsOfWalsAreReadable}
use Rattle.dbl_demo_wal_laws.proofs.CellLemmas.{cells_valid}
use Rattle.dbl_demo_wal_laws.proofs.SpelledCommits.{AreSpelledCommits, commits_spelled, front_spelled}

-- ---- the rows after the first commits are those of the log of these

front_commits : (tables : List LogTable) (rows : TextRows) (n : ℕ) (log : List Logged) (count : ℕ) → take count (commits_from tables rows n log) ≡ commits_from tables rows n (take count log)
front_commits tables rows n log zero = refl
front_commits tables rows n [] (suc count) = refl
front_commits tables rows n (entry ∷ log) (suc count) = ap (λ (cs : List RawCommit). raw_commit_at tables rows n entry ∷ cs) (front_commits (tables_after entry tables) (text_rows_at tables rows entry) (n + 1) log count)

take-map : {A B : Type 0} (f : A → B) (xs : List A) (count : ℕ) → take count (map f xs) ≡ map f (take count xs)
take-map f xs zero = refl
take-map f [] (suc count) = refl
take-map f (x ∷ xs) (suc count) = ap (λ ys. f x ∷ ys) (take-map f xs count)

module _ (tables : List LogTable) (infos : List TableInfo) (table : ℕ) (key : Key) where
  front_rows : (log : List Logged) (count : ℕ) → rows_up_to infos (history_of tables log) count table key ≡ rows_from infos no_rows (all_changes (typed infos (history_of tables (take count log)))) table key
  front_rows log count =
      ap (λ (cs : List Commit). rows_from infos no_rows (all_changes cs) table key)
      (take-map (typed_commit infos) (history_of tables log).commits count ∙ ap (map (typed_commit infos)) (front_commits tables no_text_rows 1 log count))

  whole_rows : (log : List Logged) → rows_up_to infos (history_of tables log) (length log) table key ≡ rows_from infos no_rows (all_changes (typed infos (history_of tables log))) table key
  whole_rows log =
      ap (λ (cs : List Commit). rows_from infos no_rows (all_changes cs) table key)
      (take_all (length log) (typed infos (history_of tables log)) (omega (arith, length-map (history_of tables log).commits (typed_commit infos), length-history tables log)))

-- ---- the rows of a fit log whose texts encode values

-- the table of the watermarks isn't captured
plain : (info : TableInfo) → is_watermark info.name ≡ false
plain info = not_true (is_watermark info.name) (and_right _ (not (is_watermark info.name)) (good_name info))

module _ (tables : List LogTable) (log : List Logged) (fit : AreFitLog tables log) (spelled : AreRowsSpelled tables (rows_of tables log)) (infos : List TableInfo) (captured : AreInfosOf (history_of tables []) infos) where
  captured_here : AreInfosOf (history_of tables log) infos
  captured_here = record { distinct = captured.distinct; each = captured.each }

  module _ (table : ℕ) (info : TableInfo) (there : slice_get infos table ≡ Some info) (key : Key) (cells : List Val)
      (row : rows_from infos no_rows (all_changes (typed infos (history_of tables log))) table key ≡ Some cells) where
    is_key : IsKeyOf info key
    is_key =
        let kept = keyed_from infos no_rows (all_changes (typed infos (history_of tables log))) (keyed-none infos) ((fit_histories tables log fit).fit infos captured_here) in
        let at = kept.each table key cells row in
        let both : Some at.info ≡ Some info = sym at.captured ∙ there in
        subst (λ (i : TableInfo). IsKeyOf i key) (let same : at.info ≡ info = cc in same) at.is_key

    as_texts : option_map (typed_cells (column_types info)) (rows_of tables log info.name key) ≡ Some cells
    as_texts = sym (their_rows tables log infos table info key fit captured_here there is_key) ∙ (whole_rows tables infos table key log ∙ row)

    here : IsHere tables infos info.name table
    here = here_at tables infos captured info.name table (plain info) (number_at infos table info captured.distinct there)

    valid : HasValidTexts info cells
    valid number column text at is = by (rows_of tables log info.name key) refl as_texts
      where
        by : (o : Option Texts) → rows_of tables log info.name key ≡ o → option_map (typed_cells (column_types info)) o ≡ Some cells → value_fault column.ty text ≡ None
        by None none told = cc
        by (Some texts) stands told =
            let h = here in
            let read : typed_cells (column_types info) texts ≡ cells = (let some : Some (typed_cells (column_types info) texts) ≡ Some cells = told in cc) in
            let both : Some h.info ≡ Some info = sym h.there ∙ there in
            let same : h.info ≡ info = cc in
            let entry : record h.table.raw { version = 1 } ≡ catalogue_of info = sym h.is_info ∙ ap catalogue_of same in
            let fine : AreSpelled (catalogue_of info).columns texts = subst (λ (r : RawTable). AreSpelled r.columns texts) entry (spelled info.name key texts h.table stands h.found) in
            cells_valid info.columns texts number column text (typed_columns info) fine at (ap (λ (vs : List Val). slice_get vs number) read ∙ is)

-- ---- logs of workloads

module _ (bytes : List ℕ) (wal : Wal) (is : IsWal bytes wal) where
  serial_spelled : AreSpelledCommits (tables_of wal) no_text_rows (session_commits wal.entries)
  serial_spelled =
      subst (AreSpelledCommits (tables_of wal) no_text_rows) (sym (sound_serial wal.workload wal.entries is.are.sound.each is.are.sound.begun))
      (commits_spelled wal.workload.tables (described_tables wal.script wal.workload is.are.workload).can (initial_steps (workload_rows wal.workload) ++ session_steps_at wal.workload (steps_in wal.entries)))

  front_is_fit : (count : ℕ) → AreFitLog (tables_of wal) (take count (logged_in wal.entries))
  front_is_fit count =
      front_fit (tables_of wal) (take count (logged_in wal.entries)) (drop count (logged_in wal.entries))
      (subst (AreFitLog (tables_of wal)) (sym (take-append-drop count (logged_in wal.entries))) (wal_is_fit bytes wal is))

  all_readable : (infos : List TableInfo) → AreInfosOf (history_in wal) infos → RowsAreReadable infos (history_in wal)
  all_readable infos captured place table info key cells there row =
      valid (tables_of wal) (take place (logged_in wal.entries)) (front_is_fit place)
      (front_spelled (tables_of wal) wal.entries no_text_rows place serial_spelled (λ name k r t none at. cc))
      infos (record { distinct = captured.distinct; each = captured.each }) table info there key cells
      (sym (front_rows (tables_of wal) infos table key (logged_in wal.entries) place) ∙ row)

pub rows_readable : RowsOfWalsAreReadable
rows_readable bytes wal infos is = all_readable bytes wal is infos
