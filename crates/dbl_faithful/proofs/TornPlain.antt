-- A log that is aged from an inserting commit on, and has records of a later watermark alone, is aged from before the commit too.
use Rattle.std.proofs.Common.{◌≡◌, ◌∙◌, inl, inr, ◌+◌, ◌≤◌, ◌<◌, ℕ, max, List, [], ◌∷◌, ◌++◌, Option, Some, None, length, refl, sym, ap, ap₂, subst, arith, length-append, le_refl}
use Rattle.std.specs.Prelude.{IsSomeAnd, option_map, option_and_then, unwrap_or, slice_get}
use Rattle.std.proofs.Math.Seq.{take-append_seam}
use Rattle.dbl_value_types.specs.declared.value.Val.{Val}
use Rattle.dbl_record.specs.declared.record.Record.{Record}
use Rattle.dbl_model_table.specs.declared.identity.Identity.{Identity}
use Rattle.dbl_model_table.specs.declared.row.Key.{Key}
use Rattle.dbl_model_table.specs.declared.row.Row.{Row}
use Rattle.dbl_model_table.specs.declared.table.TableInfo.{TableInfo}
use Rattle.dbl_model_table.specs.declared.change.Change.{Change}
use Rattle.dbl_model_table.specs.declared.change.Change.TheVariants.{Insert}
use Rattle.dbl_model_table.specs.declared.change.Commit.{Commit}
use Rattle.dbl_model_table.specs.Infos.{key_places}
use Rattle.dbl_model_table.specs.Keys.{key_at}
use Rattle.dbl_model_table.specs.Rows.{IsWholeFor, Rows, no_rows, rows_from, rows_at, changes_of, all_changes, moment_at}
use Rattle.dbl_consume_laws.specs.ModelHistory.Fit.{IsFitInsert, IsFit, AreFit}
use Rattle.dbl_consume_laws.specs.ModelHistory.Image.{row_json_texts}
use Rattle.dbl_model_table.specs.Infos.{columns_of}
use Rattle.dbl_consume_laws.specs.ModelHistory.WholeChanges.{IsTouched}
use Rattle.dbl_consume_laws.proofs.ModelHistoryRowLemmas.{all_changes-append, AreFit-at}
use Rattle.dbl_consume_laws.proofs.ModelHistoryWholeLemmas.{whole_by_case}
use Rattle.dbl_consume_laws.specs.Commits.{moment_after, AreFitCommits}
use Rattle.dbl_consume_laws.specs.Moments.{last_moment, span_end}
use Rattle.dbl_consume_laws.specs.KnownKeys.{IsKnown}
use Rattle.dbl_consume_laws.specs.Ages.{held_cell, source_cell, HadValueWithin, AreAged, IsAged}
use Rattle.dbl_consume_laws.proofs.AgeingCells.{aged_wider}
use Rattle.dbl_consume_laws.proofs.Lists.{slice_get-seam}
use Rattle.dbl_consume_laws.proofs.Moments.{AreAt, reach_at}
use Rattle.dbl_faithful.proofs.Items.{first_some}

-- ---- numbers

one_place : (s place e : ℕ) → s ≤ place → place < e → e ≡ s + 1 → place ≡ s
one_place s place e low high size = omega (arith, low, high, size)

greater : (s m : ℕ) → m ≡ s + 1 → max s m ≡ m
greater s m e = omega (arith, e)

same_max : (a m : ℕ) → a ≡ m → max m (max a m) ≡ m
same_max a m e = omega (arith, e)

outer_max : (s m : ℕ) → m ≡ s + 1 → max s (max s m) ≡ s + 1
outer_max s m e = omega (arith, e)

at_most : (a m : ℕ) → a ≡ m → a ≤ m
at_most a m e = omega (arith, e)

nothing_more : (a k w : ℕ) → k ≡ 0 → w ≡ a + k → w ≡ a
nothing_more a k w none e = omega (arith, none, e)

module _ (identity : Identity) (infos : List TableInfo) (before : List Commit) (low late mark : Commit) (table : ℕ) (row : Row) (low_is : changes_of low ≡ []) (late_is : changes_of late ≡ Insert table row ∷ []) (facts : AreFitCommits infos (before ++ low ∷ late ∷ mark ∷ [])) (start : ℕ)
    (start_is : moment_at (before ++ low ∷ late ∷ mark ∷ []) start ≡ moment_after before) (late_at : moment_at (before ++ low ∷ late ∷ mark ∷ []) late.lsn.0 ≡ moment_after (before ++ low ∷ late ∷ [])) (records : List Record) (some : 0 < length records)
    (all_at : AreAt infos (before ++ low ∷ late ∷ mark ∷ []) (moment_after (before ++ low ∷ late ∷ [])) records)
    (aged : IsAged identity infos (before ++ low ∷ late ∷ mark ∷ []) (moment_at (before ++ low ∷ late ∷ mark ∷ []) late.lsn.0) records (moment_at (before ++ low ∷ late ∷ mark ∷ []) late.lsn.0)) where
  abbrev commits : List Commit
  commits = before ++ low ∷ late ∷ mark ∷ []

  abbrev front : List Commit
  front = before ++ low ∷ late ∷ []

  abbrev s : ℕ
  s = moment_after before

  abbrev m : ℕ
  m = moment_after front

  changes_are : all_changes front ≡ all_changes before ++ Insert table row ∷ []
  changes_are =
      all_changes-append before (low ∷ late ∷ [])
      ∙ ap₂ (λ (l k : List Change). all_changes before ++ (l ++ (k ++ []))) low_is late_is

  one_more : m ≡ s + 1
  one_more = ap length changes_are ∙ length-append (all_changes before) (Insert table row ∷ [])

  -- ---- the row that the insert makes wasn't there before

  flat : all_changes commits ≡ all_changes before ++ Insert table row ∷ (changes_of mark ++ [])
  flat =
      all_changes-append before (low ∷ late ∷ mark ∷ [])
      ∙ ap₂ (λ (l k : List Change). all_changes before ++ (l ++ (k ++ (changes_of mark ++ [])))) low_is late_is

  inserted : slice_get (all_changes commits) s ≡ Some (Insert table row)
  inserted = ap (λ (l : List Change). slice_get l s) flat ∙ slice_get-seam (all_changes before) (Insert table row) (changes_of mark ++ [])

  rows_are : rows_at infos (all_changes commits) s ≡ rows_from infos no_rows (all_changes before)
  rows_are =
      ap (λ (l : List Change). rows_at infos l s) flat
      ∙ ap (rows_from infos no_rows) (take-append_seam (all_changes before) (Insert table row ∷ (changes_of mark ++ [])))

  fits : IsFit infos (rows_from infos no_rows (all_changes before)) (Insert table row)
  fits = AreFit-at infos no_rows (all_changes before) (Insert table row) (changes_of mark ++ []) (subst (AreFit infos no_rows) flat facts.fit)

  absent : rows_at infos (all_changes commits) s table (key_at (key_places infos table) row.cells) ≡ None
  absent = by (slice_get infos table) refl fits
    where
      by : (o : Option TableInfo) → slice_get infos table ≡ o → IsSomeAnd o (λ info. IsFitInsert info (rows_from infos no_rows (all_changes before) table) row)
          → rows_at infos (all_changes commits) s table (key_at (key_places infos table) row.cells) ≡ None
      by None is fit_here = elim fit_here [ ]
      by (Some info) is fit_here =
          ap (λ (at : Rows). at table (key_at (key_places infos table) row.cells)) rows_are
          ∙ (ap (λ (o : Option TableInfo). rows_from infos no_rows (all_changes before) table (key_at (unwrap_or (option_map (λ (i : TableInfo). i.key) o) []) row.cells)) is ∙ fit_here.absent)

  touched_gone : (e t : ℕ) (key : Key) (column : List ℕ) → e ≡ s + 1 → IsTouched infos (all_changes commits) s e t key → HadValueWithin (source_cell infos (all_changes commits) t key column) s e None
  touched_gone e t key column size touched =
      let here : touched.place ≡ s = one_place s touched.place e touched.not_before touched.before size in
      let one : touched.change ≡ Insert table row = first_some touched.change (Insert table row) (sym touched.is ∙ (ap (slice_get (all_changes commits)) here ∙ inserted)) in
      let case = (whole_by_case infos (Insert table row) t key).0 (subst (λ (c : Change). IsWholeFor infos c t key) one touched.whole) in
      record { moment = s; not_before = le_refl s; not_after = room s e size; is = ap₂ (λ (u : ℕ) (k : Key). source_cell infos (all_changes commits) u k column s) (sym case.0) (sym case.1) ∙ ap (λ (r : Option (List Val)). option_and_then (λ texts. texts column) (option_map (row_json_texts (columns_of infos table)) r)) absent }
    where
      room : (a b : ℕ) → b ≡ a + 1 → a ≤ b
      room a b is = omega (arith, is)

  reaches : (far : ℕ) → last_moment infos commits far records ≡ max far m
  reaches far = reach_at infos commits m far records some all_at

  -- ---- it is aged

  old_aged : IsAged identity infos commits (moment_at commits late.lsn.0) records m
  old_aged = subst (IsAged identity infos commits (moment_at commits late.lsn.0) records) late_at aged

  old_end : span_end infos commits (moment_at commits late.lsn.0) records m ≡ m
  old_end = ap (max m) (reaches (moment_at commits late.lsn.0)) ∙ same_max (moment_at commits late.lsn.0) m late_at

  new_end : span_end infos commits s records s ≡ s + 1
  new_end = ap (max s) (reaches s) ∙ outer_max s m one_more

  aged_one : AreAged identity infos (all_changes commits) s s (s + 1) records
  aged_one = record {
    each = λ topic text t key column names.
        aged_wider (IsKnown identity infos (all_changes commits) (moment_at commits late.lsn.0) records m t key) (IsKnown identity infos (all_changes commits) s records (s + 1) t key)
        (source_cell infos (all_changes commits) t key column) m s m (s + 1) (held_cell identity records topic text column)
        (λ known. elim known [ inl told ↦ inl (inl told) | inr touched ↦ inr (touched_gone (s + 1) t key column refl touched) ])
        (low_room s m one_more) (at_most m (s + 1) one_more)
        ((subst (λ (end : ℕ). AreAged identity infos (all_changes commits) (moment_at commits late.lsn.0) m end records) old_end old_aged).each topic text t key column names);
  }
    where
      low_room : (a b : ℕ) → b ≡ a + 1 → a ≤ b
      low_room a b is = omega (arith, is)

  pub torn_aged : IsAged identity infos commits (moment_at commits start) records (moment_at commits start)
  torn_aged = subst (λ (x : ℕ). IsAged identity infos commits x records x) (sym start_is) (subst (λ (end : ℕ). AreAged identity infos (all_changes commits) s s end records) (sym new_end) aged_one)
