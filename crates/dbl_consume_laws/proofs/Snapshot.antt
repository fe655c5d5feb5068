-- Any prefix of the records of a closed window that is right at its high watermark.
use Rattle.std.proofs.Common.{◌≡◌, ◌∙◌, ◌⊎◌, inl, inr, ◌+◌, ◌≤◌, ℕ, zero, suc, ℤ, max, List, [], ◌∷◌, ◌++◌, Bool, true, false, cond, Option, Some, None, length, take, refl, sym, ap, ap₂, subst, arith, append_assoc, append-nil}
use Rattle.std.specs.Prelude.{IsTrue, IsSome, IsSomeAnd, IfSome, option_map, unwrap_or, slice_get}
use Rattle.std.specs.List.{AllByRecursion}
use Rattle.std.specs.Str.{bytes_eq}
use Rattle.dbl_value_types.specs.declared.column_type.PgType.{PgType}
use Rattle.dbl_value_types.specs.declared.value.Val.{Val}
use Rattle.dbl_value_types.specs.Values.{json_of, IsCellOf}
use Rattle.dbl_record.specs.declared.acts.HeldCell.{HeldCell}
use Rattle.dbl_record.specs.declared.acts.HeldCell.TheVariants.{Known, Unknown}
use Rattle.dbl_record.specs.declared.record.Record.{Record}
use Rattle.dbl_model_table.specs.declared.identity.Identity.{Identity}
use Rattle.dbl_model_table.specs.declared.row.Key.{Key}
use Rattle.dbl_model_table.specs.declared.row.Row.{Row}
use Rattle.dbl_model_table.specs.declared.table.TableInfo.{TableInfo}
use Rattle.dbl_model_table.specs.declared.change.Cell.TheVariants.{Given}
use Rattle.dbl_model_table.specs.declared.change.Change.{Change}
use Rattle.dbl_model_table.specs.declared.change.Commit.{Commit}
use Rattle.dbl_model_table.specs.Infos.{column_types, topic_of}
use Rattle.dbl_model_table.specs.Keys.{same_key, key_of}
use Rattle.dbl_model_table.specs.Rows.{rows_at, changes_of, all_changes}
use Rattle.dbl_model_history.specs.Fit.{IsKeyOf}
use Rattle.dbl_model_history.specs.FitsInfos.{AreCellsOf}
use Rattle.dbl_model_history.specs.Image.{Names, key_text}
use Rattle.dbl_model_history.specs.KeyBounds.{IsUpTo}
use Rattle.dbl_model_history.specs.KeyedRows.{row_in}
use Rattle.dbl_model_history.specs.Ranges.{IsValueInRange, AreValuesInRange, IsMomentInRange}
use Rattle.dbl_model_event.specs.Snapshots.{read_record, read_records, progress_record, chunk_records, FitsChunk}
use Rattle.dbl_model_table.proofs.Lists.{bool_case, same_text, text_itself}
use Rattle.dbl_model_table.proofs.KeyLemmas.{same_key-is}
use Rattle.dbl_model_history.proofs.BoundLemmas.{bounds_part}
use Rattle.dbl_model_history.proofs.ImageLemmas.{names_one}
use Rattle.dbl_model_history.proofs.RangeLemmas.{spelled_in_range}
use Rattle.dbl_consume_laws.specs.Cells.{Stay, cell_after, cell_op, named_column_cell}
use Rattle.dbl_consume_laws.specs.Laws.{IsNotPlaceholder}
use Rattle.dbl_consume_laws.specs.Prints.{ReportsProgress}
use Rattle.dbl_consume_laws.specs.Snapshots.{IsReadInRange}
use Rattle.dbl_consume_laws.proofs.Clashes.{snapshots_lack_placeholders}
use Rattle.dbl_consume_laws.proofs.Prints.{through_in_range, progress_is_read_once, progress_records_tell, table_topics_tell_none}
use Rattle.dbl_consume_laws.proofs.ReadRows.{read_rows_change_cells, progress_changes_no_cell}
use Rattle.dbl_consume_laws.specs.Commits.{AreFitCommits}
use Rattle.dbl_consume_laws.specs.Moments.{changes_through, place_moment, record_moment, last_moment, span_end}
use Rattle.dbl_consume_laws.specs.KnownKeys.{IsTold, IsKnown}
use Rattle.dbl_consume_laws.specs.Ages.{held_cell, source_cell, HadValueWithin, IsAgedCell, AreAged, IsAged}
use Rattle.dbl_consume_laws.specs.Windows.{IsRightWindow}
use Rattle.dbl_consume_laws.specs.SnapshotLaws.{PartsOfSnapshotsKeepAge}
use Rattle.dbl_consume_laws.proofs.AgeingCells.{Life, aged_wider}
use Rattle.dbl_consume_laws.proofs.KnownKeys.{IsQuiet, told_more, told_cases, told_one, known_quiet}
use Rattle.dbl_consume_laws.proofs.AgeingRows.{held-one}
use Rattle.dbl_consume_laws.proofs.Moments.{place_moment-at, last_moment-one}
use Rattle.dbl_consume_laws.proofs.Deliver.{commit_in_range}
use Rattle.dbl_consume_laws.proofs.Effects.{text_in, image-text}

-- ---- one cell

-- a row that is set to what the source has at the moment
aged_read : (topics texts : Bool) (o : Option Val) (K L : Type 0) (f : Life) (m d : ℕ) (h : Option HeldCell) → (topics ≡ true → texts ≡ true → f m ≡ option_map json_of o) → (L → K) → m ≤ d → IsAgedCell K f m d h
    → IsAgedCell L f m d (cell_after (cond topics (cond texts (cell_op (option_map Given o)) Stay) Stay) h)
aged_read true true None K L f m d h same less room fit = λ l. record { moment = m; not_before = omega arith; not_after = room; is = same refl refl }
aged_read true true (Some v) K L f m d h same less room fit = record { moment = m; not_before = omega arith; not_after = room; is = same refl refl }
aged_read true false o K L f m d h same less room fit = aged_wider K L f m m d d h (λ l. inl (less l)) (omega arith) (omega arith) fit
aged_read false texts o K L f m d h same less room fit = aged_wider K L f m m d d h (λ l. inl (less l)) (omega arith) (omega arith) fit

true_false : {X : Type 0} → false ≡ true → X
true_false e = cc

-- a cell that is held as the source has it is so after such a row, and after its own row for any cell that was held
settled_read : (topics texts : Bool) (o : Option Val) (now : Option (List ℕ)) (h : Option HeldCell) → (topics ≡ true → texts ≡ true → now ≡ option_map json_of o) → (h ≡ option_map Known now) ⊎ ((topics ≡ true) × (texts ≡ true))
    → cell_after (cond topics (cond texts (cell_op (option_map Given o)) Stay) Stay) h ≡ option_map Known now
settled_read true true None now h same was = sym (ap (option_map Known) (same refl refl))
settled_read true true (Some v) now h same was = sym (ap (option_map Known) (same refl refl))
settled_read true false o now h same (inl was) = was
settled_read true false o now h same (inr bad) = true_false bad.1
settled_read false texts o now h same (inl was) = was
settled_read false texts o now h same (inr bad) = true_false bad.0

-- a key that becomes known, where the cell is held as the source has it or the source has none
aged_told : (K L : Type 0) (f : Life) (m d : ℕ) (h : Option HeldCell) → m ≤ d → (L → K ⊎ ((h ≡ option_map Known (f m)) ⊎ (f m ≡ None))) → IsAgedCell K f m d h → IsAgedCell L f m d h
aged_told K L f m d None room more fit = λ l. by (more l)
  where
    here : f m ≡ None → HadValueWithin f m d None
    here is = record { moment = m; not_before = omega arith; not_after = room; is = is }

    none : (o : Option (List ℕ)) → None ≡ option_map Known o → o ≡ None
    none None e = refl
    none (Some v) e = cc

    by : K ⊎ ((None ≡ option_map Known (f m)) ⊎ (f m ≡ None)) → HadValueWithin f m d None
    by (inl k) = fit k
    by (inr (inl e)) = here (none (f m) e)
    by (inr (inr is)) = here is
aged_told K L f m d (Some (Known v)) room more fit = fit
aged_told K L f m d (Some Unknown) room more fit = (fit.0, λ l. by (more l))
  where
    never : (o : Option (List ℕ)) → Some Unknown ≡ option_map Known o → ⊥
    never None e = cc
    never (Some v) e = cc

    by : K ⊎ ((Some Unknown ≡ option_map Known (f m)) ⊎ (f m ≡ None)) → HadValueWithin f m d None
    by (inl k) = fit.1 k
    by (inr (inl e)) = absurd (never (f m) e)
    by (inr (inr is)) = record { moment = m; not_before = omega arith; not_after = room; is = is }

-- ---- numbers

mark_moment : (a : ℕ) → a + 0 ≡ a
mark_moment a = omega arith

span_kept : (m far moment later : ℕ) → later ≡ max far moment → moment ≡ m → max m later ≡ max m far
span_kept m far moment later is at = omega (arith, is, at)

within_span : (m far : ℕ) → m ≤ max m far
within_span m far = omega arith

-- ---- ranges

cell_in_range : (ty : PgType) (v : Val) → IsCellOf ty v → IsValueInRange v
cell_in_range ty v (inl null) = subst IsValueInRange (sym null) tt
cell_in_range ty v (inr spelled) = spelled_in_range ty spelled.text v spelled.utf8 spelled.spells

pub cells_in_range : (types : List PgType) (values : List Val) → AreCellsOf types values → AreValuesInRange values
cells_in_range [] [] are = tt
cells_in_range [] (v ∷ values) are = elim are [ ]
cells_in_range (ty ∷ types) [] are = elim are [ ]
cells_in_range (ty ∷ types) (v ∷ values) are = (cell_in_range ty v are.0, cells_in_range types values are.1)

-- ---- rows

-- what is so of a row that was read
pub record IsRightRow (identity : Identity) (infos : List TableInfo) (changes : List Change) (moment t : ℕ) (info : TableInfo) (mark : Commit) (now : ℤ) (entry : Key × Row) : Type 0 where
  pub range : IsReadInRange entry mark now
  pub lacks : AllByRecursion (IsNotPlaceholder identity.placeholder) entry.1.cells
  pub is_key : IsKeyOf info entry.0
  pub right : rows_at infos changes moment t entry.0 ≡ Some entry.1.cells

no_row_in : (key : Key) → IsSome (row_in [] key) → ⊥
no_row_in key some = cc

-- ---- a watermark among the commits

module _ (identity : Identity) (infos : List TableInfo) (before : List Commit) (mark : Commit) (later : List Commit) (facts : AreFitCommits infos (before ++ mark ∷ later)) (none : changes_of mark ≡ []) (start : ℕ) where
  abbrev commits : List Commit
  commits = before ++ mark ∷ later

  abbrev cs : List Change
  cs = all_changes commits

  abbrev m : ℕ
  m = length (all_changes before)

  at_mark : (ordinal : ℕ) → place_moment infos commits (mark.lsn.0, ordinal) ≡ m
  at_mark ordinal = place_moment-at infos before mark later 0 ordinal facts.rise ∙ (ap (λ (l : List Change). length (all_changes before) + changes_through infos l ordinal) none ∙ mark_moment (length (all_changes before)))

  -- a record of the watermark leaves the span
  same_span : (records : List Record) (item : Record) → record_moment infos commits item ≡ m → span_end infos commits start (records ++ item ∷ []) m ≡ span_end infos commits start records m
  same_span records item at = span_kept m (last_moment infos commits start records) (record_moment infos commits item) (last_moment infos commits start (records ++ item ∷ [])) (last_moment-one infos commits start records item) at

  -- ---- of one table

  module _ (now : ℤ) (in_time : IsMomentInRange now) (t : ℕ) (info : TableInfo) (captured : slice_get infos t ≡ Some info) where
    abbrev pub IsGoodRow : Key × Row → Type 0
    IsGoodRow entry = IsRightRow identity infos cs m t info mark now entry

    module _ (entry : Key × Row) (good : IsGoodRow entry) (ordinal : ℕ) where
      abbrev item : Record
      item = read_record identity info mark now ordinal entry

      quiet : IsQuiet identity item
      quiet = λ other through done tells. table_topics_tell_none identity info other item through done refl tells

      -- the source's cell at the topic and text of the row
      here : (topic text : List ℕ) (table : ℕ) (key : Key) (column : List ℕ) → Names identity infos topic text table key → bytes_eq (topic_of identity info) topic ≡ true → bytes_eq (key_text info entry.0) text ≡ true
          → source_cell infos cs table key column m ≡ option_map json_of (named_column_cell info.columns entry.1.cells column)
      here topic text table key column names topics texts =
          let its : Names identity infos topic text t entry.0 =
          record { info = info; captured = captured; is_key = good.is_key; topic_is = same_text (topic_of identity info) topic topics; text_is = same_text (key_text info entry.0) text texts } in
          let one = names_one identity infos topic text table t key entry.0 facts.distinct names its in
          ap₂ (λ u k. source_cell infos cs u k column m) one.0 one.1
          ∙ (image-text infos (rows_at infos cs m) t info entry.0 column captured
          ∙ ap (λ (o : Option (List Val)). text_in info o column) good.right)

      held_read : (records : List Record) (topic text column : List ℕ)
          → held_cell identity (records ++ item ∷ []) topic text column
          ≡ cell_after (cond (bytes_eq (topic_of identity info) topic) (cond (bytes_eq (key_text info entry.0) text) (cell_op (option_map Given (named_column_cell info.columns entry.1.cells column))) Stay) Stay) (held_cell identity records topic text column)
      held_read records topic text column =
          held-one identity topic text column records item
          ∙ ap (λ op. cell_after op (held_cell identity records topic text column)) (read_rows_change_cells identity t info mark now ordinal entry topic text column good.range good.lacks)

      -- one row more
      row_more : (records : List Record) → IsAged identity infos commits start records m → IsAged identity infos commits start (records ++ item ∷ []) m
      row_more records aged = subst (λ (d : ℕ). AreAged identity infos cs start m d (records ++ item ∷ [])) (sym (same_span records item (at_mark ordinal))) (record {
        each = λ topic text table key column names. (
            let d : ℕ = span_end infos commits start records m in
            subst (λ (h : Option HeldCell). IsAgedCell (IsKnown identity infos cs start (records ++ item ∷ []) d table key) (source_cell infos cs table key column) m d h) (sym (held_read records topic text column))
            (aged_read (bytes_eq (topic_of identity info) topic) (bytes_eq (key_text info entry.0) text) (named_column_cell info.columns entry.1.cells column)
            (IsKnown identity infos cs start records d table key) (IsKnown identity infos cs start (records ++ item ∷ []) d table key) (source_cell infos cs table key column) m d (held_cell identity records topic text column)
            (here topic text table key column names) (known_quiet identity infos table key cs start records (item ∷ []) d (quiet, tt)) (within_span m (last_moment infos commits start records)) (aged.each topic text table key column names)));
      })

    -- ---- keys that may become known

    -- it is known already, or it is held as the source has it, or the source has no row there
    abbrev pub IsSettled : List Record → Key → Type 0
    IsSettled records key = (topic text : List ℕ) → Names identity infos topic text t key
        → IsKnown identity infos cs start records m t key ⊎ (((column : List ℕ) → held_cell identity records topic text column ≡ option_map Known (source_cell infos cs t key column m)) ⊎ (rows_at infos cs m t key ≡ None))

    -- a row more leaves what is settled
    still_settled : (entry : Key × Row) (good : IsGoodRow entry) (ordinal : ℕ) (records : List Record) (key : Key) → IsSettled records key → IsSettled (records ++ read_record identity info mark now ordinal entry ∷ []) key
    still_settled entry good ordinal records key settled topic text names = elim (settled topic text names) [
      | inl known ↦ inl (elim known [ inl told ↦ inl (told_more identity infos t key records (read_record identity info mark now ordinal entry ∷ []) told) | inr touched ↦ inr touched ])
      | inr (inl same) ↦ inr (inl (λ column.
          held_read entry good ordinal records topic text column
          ∙ settled_read (bytes_eq (topic_of identity info) topic) (bytes_eq (key_text info entry.0) text) (named_column_cell info.columns entry.1.cells column) (source_cell infos cs t key column m) (held_cell identity records topic text column)
          (here entry good ordinal topic text t key column names) (inl (same column))))
      | inr (inr gone) ↦ inr (inr gone)
    ]

    -- and settles its own key
    now_settled : (entry : Key × Row) (good : IsGoodRow entry) (ordinal : ℕ) (records : List Record) (key : Key) → entry.0 ≡ key → IsSettled (records ++ read_record identity info mark now ordinal entry ∷ []) key
    now_settled entry good ordinal records key same topic text names =
        let one : Some info ≡ Some names.info = sym captured ∙ names.captured in
        let info_is : info ≡ names.info = cc in
        let topic_is : topic_of identity info ≡ topic = ap (topic_of identity) info_is ∙ names.topic_is in
        let text_is : key_text info entry.0 ≡ text = ap₂ (λ i k. key_text i k) info_is same ∙ names.text_is in
        let topics : bytes_eq (topic_of identity info) topic ≡ true = ap (bytes_eq (topic_of identity info)) (sym topic_is) ∙ text_itself (topic_of identity info) in
        let texts : bytes_eq (key_text info entry.0) text ≡ true = ap (bytes_eq (key_text info entry.0)) (sym text_is) ∙ text_itself (key_text info entry.0) in
        inr (inl (λ column.
        held_read entry good ordinal records topic text column
        ∙ settled_read (bytes_eq (topic_of identity info) topic) (bytes_eq (key_text info entry.0) text) (named_column_cell info.columns entry.1.cells column) (source_cell infos cs t key column m) (held_cell identity records topic text column)
        (here entry good ordinal topic text t key column names) (inr (topics, texts))))

    -- ---- the progress record

    module _ (through : Option Key) (done : Bool) (of_table : IfSome through (IsKeyOf info)) (ordinal : ℕ) where
      abbrev last_item : Record
      last_item = progress_record identity info mark ordinal through done

      -- what it tells
      told_now : (table : ℕ) (key : Key) → IsTold identity infos (last_item ∷ []) table key → (table ≡ t) × (IsTrue done ⊎ IsUpTo through key)
      told_now table key told =
          let its : ReportsProgress identity told.info last_item told.through told.done = subst (λ (r : Record). ReportsProgress identity told.info r told.through told.done) (told_one identity infos table key last_item told) told.tells in
          let one = progress_is_read_once identity infos table t told.info info last_item told.through through told.done done facts.distinct told.captured captured its (progress_records_tell identity info mark ordinal through done of_table) in
          (one.0, subst (λ (b : Bool). IsTrue b ⊎ IsUpTo through key) one.2 (subst (λ (last : Option Key). IsTrue told.done ⊎ IsUpTo last key) one.1 told.covers))

      cell_gone : (table : ℕ) (key : Key) (column : List ℕ) → slice_get infos table ≡ Some info → rows_at infos cs m table key ≡ None → source_cell infos cs table key column m ≡ None
      cell_gone table key column at gone = image-text infos (rows_at infos cs m) table info key column at ∙ ap (λ (o : Option (List Val)). text_in info o column) gone

      progress_more : (records : List Record) → ((key : Key) → IsKeyOf info key → IsTrue done ⊎ IsUpTo through key → IsSettled records key) → IsAged identity infos commits start records m → IsAged identity infos commits start (records ++ last_item ∷ []) m
      progress_more records settled aged = subst (λ (d : ℕ). AreAged identity infos cs start m d (records ++ last_item ∷ [])) (sym (same_span records last_item (at_mark ordinal))) (record {
        each = λ topic text table key column names. (
            let d : ℕ = span_end infos commits start records m in
            let held : held_cell identity (records ++ last_item ∷ []) topic text column ≡ held_cell identity records topic text column =
            held-one identity topic text column records last_item ∙ ap (λ op. cell_after op (held_cell identity records topic text column)) (progress_changes_no_cell identity info mark ordinal through done topic text column) in
            subst (λ (h : Option HeldCell). IsAgedCell (IsKnown identity infos cs start (records ++ last_item ∷ []) d table key) (source_cell infos cs table key column) m d h) (sym held)
            (aged_told (IsKnown identity infos cs start records d table key) (IsKnown identity infos cs start (records ++ last_item ∷ []) d table key) (source_cell infos cs table key column) m d (held_cell identity records topic text column)
            (within_span m (last_moment infos commits start records)) (more records settled topic text table key column names d (within_span m (last_moment infos commits start records))) (aged.each topic text table key column names)));
      })
        where
          new_key : (records : List Record) → ((key : Key) → IsKeyOf info key → IsTrue done ⊎ IsUpTo through key → IsSettled records key) → (topic text : List ℕ) (key : Key) (column : List ℕ) → Names identity infos topic text t key → (d : ℕ) → m ≤ d → IsTrue done ⊎ IsUpTo through key
              → IsKnown identity infos cs start records d t key ⊎ ((held_cell identity records topic text column ≡ option_map Known (source_cell infos cs t key column m)) ⊎ (source_cell infos cs t key column m ≡ None))
          new_key records settled topic text key column names d room covers =
              let one : Some names.info ≡ Some info = sym names.captured ∙ captured in
              let info_is : names.info ≡ info = cc in
              elim (settled key (subst (λ (i : TableInfo). IsKeyOf i key) info_is names.is_key) covers topic text names) [
                | inl (inl told) ↦ inl (inl told)
                | inl (inr t1) ↦ inl (inr (record { place = t1.place; change = t1.change; not_before = t1.not_before; before = omega (arith, t1.before, room); is = t1.is; whole = t1.whole }))
                | inr (inl same) ↦ inr (inl (same column))
                | inr (inr gone) ↦ inr (inr (cell_gone t key column captured gone))
              ]

          more : (records : List Record) → ((key : Key) → IsKeyOf info key → IsTrue done ⊎ IsUpTo through key → IsSettled records key) → (topic text : List ℕ) (table : ℕ) (key : Key) (column : List ℕ) → Names identity infos topic text table key → (d : ℕ) → m ≤ d
              → IsKnown identity infos cs start (records ++ last_item ∷ []) d table key
              → IsKnown identity infos cs start records d table key ⊎ ((held_cell identity records topic text column ≡ option_map Known (source_cell infos cs table key column m)) ⊎ (source_cell infos cs table key column m ≡ None))
          more records settled topic text table key column names d room (inr touched) = inl (inr touched)
          more records settled topic text table key column names d room (inl told) = elim (told_cases identity infos table key records (last_item ∷ []) told) [
            | inl old ↦ inl (inl old)
            | inr new ↦ (
                let fresh = told_now table key new in
                subst (λ (u : ℕ). IsKnown identity infos cs start records d u key ⊎ ((held_cell identity records topic text column ≡ option_map Known (source_cell infos cs u key column m)) ⊎ (source_cell infos cs u key column m ≡ None))) (sym fresh.0)
                (new_key records settled topic text key column (subst (λ (u : ℕ). Names identity infos topic text u key) fresh.0 names) d room fresh.1))
          ]

    -- ---- the rows and the progress record

    chunk_keeps : (rows : List (Key × Row)) (through : Option Key) (done : Bool) → AllByRecursion IsGoodRow rows → IfSome through (IsKeyOf info) → (ordinal last : ℕ) (records : List Record) → IsAged identity infos commits start records m
        → ((key : Key) → IsKeyOf info key → IsTrue done ⊎ IsUpTo through key → IsSome (row_in rows key) ⊎ IsSettled records key) → (n : ℕ)
        → IsAged identity infos commits start (records ++ take n (read_records identity info mark now ordinal rows ++ progress_record identity info mark last through done ∷ [])) m
    chunk_keeps rows through done good of_table ordinal last records aged cover zero = subst (λ (l : List Record). IsAged identity infos commits start l m) (sym (append-nil records)) aged
    chunk_keeps [] through done good of_table ordinal last records aged cover (suc zero) =
        progress_more through done of_table last records (λ key is_key covers. elim (cover key is_key covers) [ inl some ↦ absurd (no_row_in key some) | inr settled ↦ settled ]) aged
    chunk_keeps [] through done good of_table ordinal last records aged cover (suc (suc n)) =
        progress_more through done of_table last records (λ key is_key covers. elim (cover key is_key covers) [ inl some ↦ absurd (no_row_in key some) | inr settled ↦ settled ]) aged
    chunk_keeps (entry ∷ rows) through done good of_table ordinal last records aged cover (suc n) =
        let item : Record = read_record identity info mark now ordinal entry in
        let subsequent : List Record = read_records identity info mark now (ordinal + 1) rows ++ progress_record identity info mark last through done ∷ [] in
        subst (λ (l : List Record). IsAged identity infos commits start l m) (append_assoc records (item ∷ []) (take n subsequent))
        (chunk_keeps rows through done good.1 of_table (ordinal + 1) last (records ++ item ∷ []) (row_more entry good.0 ordinal records aged)
        (λ key is_key covers. elim (cover key is_key covers) [
          | inl some ↦ elim (bool_case (same_key entry.0 key)) [
            | inl same ↦ inr (now_settled entry good.0 ordinal records key (same_key-is entry.0 key same))
            | inr other ↦ inl (subst (λ (b : Bool). IsSome (cond b (Some entry.1.cells) (row_in rows key))) other some)
          ]
          | inr settled ↦ inr (still_settled entry good.0 ordinal records key settled)
        ]) n)

-- ---- a right window

-- each of its rows is a right one
right_rows : (identity : Identity) (infos : List TableInfo) (before : List Commit) (mark : Commit) (later : List Commit) (facts : AreFitCommits infos (before ++ mark ∷ later)) (now : ℤ) (in_time : IsMomentInRange now)
    (t : ℕ) (info : TableInfo) (rows : List (Key × Row))
    → AllByRecursion (λ e. AreCellsOf (column_types info) e.1.cells × (key_of info e.1.cells ≡ e.0)) rows → AllByRecursion (λ e. IsKeyOf info e.0) rows
    → AllByRecursion (λ e. AllByRecursion (IsNotPlaceholder identity.placeholder) e.1.cells) rows
    → AllByRecursion (λ e. rows_at infos (all_changes (before ++ mark ∷ later)) (length (all_changes before)) t e.0 ≡ Some e.1.cells) rows
    → AllByRecursion (IsRightRow identity infos (all_changes (before ++ mark ∷ later)) (length (all_changes before)) t info mark now) rows
right_rows identity infos before mark later facts now in_time t info [] fits keys lacks right = tt
right_rows identity infos before mark later facts now in_time t info (entry ∷ rows) fits keys lacks right = (
  record {
    range = record {
      key_fits = through_in_range info (Some entry.0) keys.0;
      row_fits = cells_in_range (column_types info) entry.1.cells fits.0.0;
      commit_fits = commit_in_range identity infos before mark later facts;
      moment_fits = in_time;
    };
    lacks = lacks.0;
    is_key = keys.0;
    right = right.0;
  },
  right_rows identity infos before mark later facts now in_time t info rows fits.1 keys.1 lacks.1 right.1,
)

some_or_none : {X : Type 0} (o : Option X) → IsSome o ⊎ (o ≡ None)
some_or_none None = inr refl
some_or_none (Some x) = inl refl

pub parts_of_snapshots_keep_age : PartsOfSnapshotsKeepAge
parts_of_snapshots_keep_age identity infos commits before mark later start low above closed records snapshot now n next none in_time whole clear right subsequent told aged =
    let facts : AreFitCommits infos (before ++ mark ∷ later) = subst (AreFitCommits infos) next.spelled next.fit in
    let info : TableInfo = whole.info in
    let t : ℕ = closed.table in
    let window_here : IsRightWindow infos (all_changes (before ++ mark ∷ later)) low (length (all_changes before)) above closed = subst (λ (l : List Commit). IsRightWindow infos (all_changes l) low (length (all_changes before)) above closed) next.spelled right in
    let fits : IsSomeAnd (slice_get infos t) (λ i. FitsChunk i closed) = subst (λ (o : Option TableInfo). IsSomeAnd o (λ i. FitsChunk i closed)) (sym whole.captured) whole.fits in
    let rows_good = right_rows identity infos before mark later facts now in_time t info closed.rows whole.fits.rows whole.keys (snapshots_lack_placeholders identity infos closed fits clear) window_here.right in
    let chunk : List Record = chunk_records identity info closed.rows closed.through closed.done mark now in
    let listed : snapshot ≡ chunk = whole.records_are ∙ ap (λ (o : Option TableInfo). unwrap_or (option_map (λ i. chunk_records identity i closed.rows closed.through closed.done mark now) o) []) whole.captured in
    let cover : (key : Key) → IsKeyOf info key → IsTrue closed.done ⊎ IsUpTo closed.through key → IsSome (row_in closed.rows key) ⊎ IsSettled identity infos before mark later facts none start now in_time t info whole.captured records key =
    (λ key is_key covers. elim (some_or_none (row_in closed.rows key)) [
      | inl some ↦ inl some
      | inr lacking ↦ inr (λ topic text names. let parted = bounds_part above key in elim parted.either [
        | inl above_it ↦ elim (window_here.missing info key whole.captured is_key above_it covers lacking) [
          | inl touched ↦ inl (inr (record { place = touched.place; change = touched.change; not_before = omega (arith, touched.not_before, subsequent); before = touched.before; is = touched.is; whole = touched.whole }))
          | inr gone ↦ inr (inr gone)
        ]
        | inr up_to ↦ inl (inl (told key up_to))
      ])
    ]) in
    subst (λ (l : List Commit). IsAged identity infos l start (records ++ take n snapshot) (length (all_changes before))) (sym next.spelled)
    (subst (λ (l : List Record). IsAged identity infos (before ++ mark ∷ later) start (records ++ take n l) (length (all_changes before))) (sym listed)
    (chunk_keeps identity infos before mark later facts none start now in_time t info whole.captured closed.rows closed.through closed.done rows_good whole.fits.through 0 (length closed.rows) records
    (subst (λ (l : List Commit). IsAged identity infos l start records (length (all_changes before))) next.spelled aged) cover n))
