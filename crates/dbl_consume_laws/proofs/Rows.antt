-- What aged cells amount to for whole rows.
use Rattle.std.proofs.Common.{◌≡◌, ◌∙◌, inl, inr, ◌+◌, ◌≤◌, ◌<◌, ℕ, zero, suc, max, true, List, [], ◌∷◌, Option, Some, None, length, refl, sym, ap, subst, arith}
use Rattle.std.specs.Prelude.{nat_lt, IsSome, option_map, option_and_then, slice_get}
use Rattle.std.specs.List.{list_all}
use Rattle.std.specs.Str.{bytes_eq}
use Rattle.std.proofs.lemmas.Bool.Decides.{Decides-ltb}
use Rattle.std.proofs.lemmas.List.{length-map}
use Rattle.dbl_value_types.specs.declared.value.Val.{Val}
use Rattle.dbl_value_types.specs.Values.{json_of}
use Rattle.dbl_record.specs.declared.acts.HeldCell.{HeldCell}
use Rattle.dbl_record.specs.declared.acts.HeldCell.TheVariants.{Known, Unknown}
use Rattle.dbl_record.specs.Consumers.{HeldCells, held_at}
use Rattle.dbl_record.specs.declared.record.Record.{Record}
use Rattle.dbl_model_table.specs.declared.identity.Identity.{Identity}
use Rattle.dbl_model_table.specs.declared.row.Key.{Key}
use Rattle.dbl_model_table.specs.declared.table.TableInfo.{TableInfo}
use Rattle.dbl_model_table.specs.declared.change.Commit.{Commit}
use Rattle.dbl_model_table.specs.Tables.{column_names}
use Rattle.dbl_model_table.specs.Infos.{name_at, column_of, columns_of, width}
use Rattle.dbl_model_table.specs.Rows.{all_changes, rows}
use Rattle.dbl_model_history.specs.Image.{Names, row_json_texts}
use Rattle.dbl_model_table.proofs.Lists.{and_left, is_some-position_from, position_from-at, slice_get-lt}
use Rattle.dbl_model_table.proofs.InfoLemmas.{sound_key, places_within, has_name}
use Rattle.dbl_model_history.proofs.RowKeys.{is_some_value, keyed_at}
use Rattle.dbl_consume_laws.specs.Laws.{HoldsJsonTexts}
use Rattle.dbl_consume_laws.specs.Commits.{AreFitCommits}
use Rattle.dbl_consume_laws.specs.Moments.{last_moment, span_end}
use Rattle.dbl_consume_laws.specs.KnownKeys.{IsKnown}
use Rattle.dbl_consume_laws.specs.Ages.{held_row, held_cell, source_cell, HadValueWithin, IsAgedCell, IsAged}
use Rattle.dbl_consume_laws.specs.SnapshotLaws.{AgedCellsAgree, AgedRecordsAgree}
use Rattle.dbl_consume_laws.specs.RowLaws.{WasAbsent, LackedRowsWereAbsent, UnknownRowsWereThere, KnownCellsWereSo}
use Rattle.dbl_consume_laws.proofs.AgeingCells.{aged_one}
use Rattle.dbl_consume_laws.proofs.Effects.{text_in, image-text}

-- ---- a column that a table has

-- the first of some places that are all within a table
first_within : (n : ℕ) (places : List ℕ) → nat_lt 0 (length places) ≡ true → list_all (λ place. nat_lt place n) places ≡ true → (place : ℕ) × (place < n)
first_within n [] some within = cc
first_within n (place ∷ places) some within = (place, (Decides-ltb place n).0 (and_left (nat_lt place n) (list_all (λ p. nat_lt p n) places) within))

-- the name of its first key column, which is one of a column
pub some_column : (info : TableInfo) → (column : List ℕ) × IsSome (column_of info.columns column)
some_column info =
    let sound = sound_key info in
    let first = first_within (length info.columns) info.key (and_left _ _ (and_left _ _ (and_left _ _ sound))) (places_within info) in
    let name : List ℕ = name_at info.columns first.0 in
    (name, is_some-position_from (bytes_eq name) 0 (column_names info.columns) ∙ has_name info.columns first.0 first.1)

-- what is as wide as a table has an item in each column
pub wide_item : {X : Type 0} (info : TableInfo) (items : List X) (column : List ℕ) → length items ≡ width info → IsSome (column_of info.columns column) → (x : X) × (option_and_then (slice_get items) (column_of info.columns column) ≡ Some x)
wide_item {X = X} info items column wide named =
    let place = is_some_value (column_of info.columns column) named in
    let found = position_from-at (bytes_eq column) 0 (column_names info.columns) place.0 place.1 in
    let under : found.0 < length (column_names info.columns) = slice_get-lt (column_names info.columns) found.0 found.2.0 found.2.1 in
    let inside : place.0 < length items = place_inside place.0 found.0 (length (column_names info.columns)) (length items) (width info) found.1 under (length-map info.columns (λ column. column.name)) wide in
    let value = item_within items place.0 inside in
    (value.0, ap (option_and_then (slice_get items)) place.1 ∙ value.1)
  where
    place_inside : (p j n l w : ℕ) → p ≡ 0 + j → j < n → n ≡ w → l ≡ w → p < l
    place_inside p j n l w is lt names wide = omega (arith, is, lt, names, wide)

    item_within : (xs : List X) (i : ℕ) → i < length xs → (x : X) × (slice_get xs i ≡ Some x)
    item_within [] i lt = absurd (omega (arith, lt))
    item_within (x ∷ xs) zero lt = (x, refl)
    item_within (x ∷ xs) (suc i) lt = item_within xs i (omega (arith, lt))

-- a row as wide as its table has a cell in each column
pub wide_cell : (info : TableInfo) (cells : List Val) (column : List ℕ) → length cells ≡ width info → IsSome (column_of info.columns column) → (text : List ℕ) × (text_in info (Some cells) column ≡ Some text)
wide_cell info cells column wide named = let cell = wide_item info cells column wide named in (json_of cell.0, ap (option_map json_of) cell.1)

-- ---- rows of a fit history

never : (now in_row : Option (List ℕ)) (text : List ℕ) → now ≡ in_row → in_row ≡ Some text → now ≡ None → ⊥
never now in_row text here there gone = cc

module _ (identity : Identity) (infos : List TableInfo) (commits : List Commit) (facts : AreFitCommits infos commits) (topic text : List ℕ) (table : ℕ) (key : Key) (names : Names identity infos topic text table key) where
  -- where a column's cell isn't there, no row is
  no_row : (moment : ℕ) (column : List ℕ) → IsSome (column_of names.info.columns column) → source_cell infos (all_changes commits) table key column moment ≡ None → rows infos commits moment table key ≡ None
  no_row moment column named gone = by (rows infos commits moment table key) refl
    where
      by : (row : Option (List Val)) → rows infos commits moment table key ≡ row → row ≡ None
      by None is = refl
      by (Some cells) is =
          let own = (keyed_at infos (all_changes commits) moment facts.fit).each table key cells is in
          let one : Some own.info ≡ Some names.info = sym own.captured ∙ names.captured in
          let info_is : own.info ≡ names.info = cc in
          let there = wide_cell names.info cells column (own.wide ∙ ap width info_is) named in
          let cell : source_cell infos (all_changes commits) table key column moment ≡ text_in names.info (Some cells) column =
          image-text infos (rows infos commits moment) table names.info key column names.captured ∙ ap (λ (o : Option (List Val)). text_in names.info o column) is in
          absurd (never (source_cell infos (all_changes commits) table key column moment) (text_in names.info (Some cells) column) there.0 cell there.1 gone)

  -- a cell that is there is in a column of the table
  named_column : (moment : ℕ) (column cell : List ℕ) → source_cell infos (all_changes commits) table key column moment ≡ Some cell → IsSome (column_of names.info.columns column)
  named_column moment column cell is = by (rows infos commits moment table key) (column_of names.info.columns column) (sym (image-text infos (rows infos commits moment) table names.info key column names.captured) ∙ is)
    where
      by : (row : Option (List Val)) (place : Option ℕ) → option_and_then (λ cells. option_map json_of (option_and_then (slice_get cells) place)) row ≡ Some cell → IsSome place
      by None place e = cc
      by (Some cells) None e = cc
      by (Some cells) (Some i) e = refl

  module _ (start from : ℕ) (records : List Record) (aged : IsAged identity infos commits start records from) where
    abbrev end : ℕ
    end = span_end infos commits start records from

    abbrev IsKnownHere : Type 0
    IsKnownHere = IsKnown identity infos (all_changes commits) start records end table key

    absent_by : (column : List ℕ) → IsSome (column_of names.info.columns column) → HadValueWithin (source_cell infos (all_changes commits) table key column) from end None → WasAbsent infos commits from end table key
    absent_by column named h = record { moment = h.moment; not_before = h.not_before; not_after = h.not_after; absent = no_row h.moment column named h.is }

    -- the age of a cell, by what is held of it
    as_held : (column : List ℕ) (held : Option HeldCell) → held_cell identity records topic text column ≡ held → IsAgedCell IsKnownHere (source_cell infos (all_changes commits) table key column) from end held
    as_held column held is = subst (IsAgedCell IsKnownHere (source_cell infos (all_changes commits) table key column) from end) is (aged.each topic text table key column names)

    lacking : IsKnownHere → held_row identity records topic text ≡ None → WasAbsent infos commits from end table key
    lacking known is =
        let column = some_column names.info in
        absent_by column.0 column.1 (as_held column.0 None (ap (λ (row : Option HeldCells). held_at row column.0) is) known)

    unknown : (column : List ℕ) → IsKnownHere → held_cell identity records topic text column ≡ Some Unknown → WasAbsent infos commits from end table key
    unknown column known is =
        let h = as_held column (Some Unknown) is in
        absent_by column (named_column h.0.1.moment column h.0.0 h.0.1.is) (h.1 known)

pub lacked_rows_were_absent : LackedRowsWereAbsent
lacked_rows_were_absent identity infos commits start from records topic text table key facts aged names known (inl is) = lacking identity infos commits facts topic text table key names start from records aged known is
lacked_rows_were_absent identity infos commits start from records topic text table key facts aged names known (inr column) = unknown identity infos commits facts topic text table key names start from records aged column.0 known column.1

pub unknown_rows_were_there : UnknownRowsWereThere
unknown_rows_were_there identity infos commits start from records topic text table key column aged names is =
    let h : IsAgedCell (IsKnown identity infos (all_changes commits) start records (span_end infos commits start records from) table key) (source_cell infos (all_changes commits) table key column) from (span_end infos commits start records from) (Some Unknown) =
    subst (IsAgedCell (IsKnown identity infos (all_changes commits) start records (span_end infos commits start records from) table key) (source_cell infos (all_changes commits) table key column) from (span_end infos commits start records from)) is (aged.each topic text table key column names) in
    record { moment = h.0.1.moment; not_before = h.0.1.not_before; not_after = h.0.1.not_after; present = some_row (rows infos commits h.0.1.moment table key) h.0.0 h.0.1.is }
  where
    -- a row that has a cell is there
    some_row : (row : Option (List Val)) (cell : List ℕ) → option_and_then (λ texts. texts column) (option_map (row_json_texts (columns_of infos table)) row) ≡ Some cell → IsSome row
    some_row None cell e = cc
    some_row (Some cells) cell e = refl

pub known_cells_were_so : KnownCellsWereSo
known_cells_were_so identity infos commits start from records topic key_text table key column text aged names is =
    subst (IsAgedCell (IsKnown identity infos (all_changes commits) start records (span_end infos commits start records from) table key) (source_cell infos (all_changes commits) table key column) from (span_end infos commits start records from)) is (aged.each topic key_text table key column names)

-- ---- equality where the span is one moment

one_moment : (m far : ℕ) → far ≤ m → max m far ≤ m
one_moment m far le = omega (arith, le)

end_is : (m far : ℕ) → far ≤ m → m ≡ max m far
end_is m far le = omega (arith, le)

-- each cell is held as the source has it
pub cells_agree : AgedCellsAgree
cells_agree identity infos commits start moment records topic text table key aged low names known column =
    let far : ℕ = last_moment infos commits start records in
    let at_end : IsKnown identity infos (all_changes commits) start records (span_end infos commits start records moment) table key =
    subst (λ (to : ℕ). IsKnown identity infos (all_changes commits) start records to table key) (end_is moment far low) known in
    elim (aged_one (IsKnown identity infos (all_changes commits) start records (span_end infos commits start records moment) table key) (source_cell infos (all_changes commits) table key column) moment (span_end infos commits start records moment) (held_cell identity records topic text column)
    (one_moment moment far low) (aged.each topic text table key column names) at_end) [
      | inl none ↦ none.0 ∙ sym (ap (option_map Known) none.1)
      | inr some ↦ some.1 ∙ sym (ap (option_map Known) some.2)
    ]

unheld : (o : Option (List ℕ)) → None ≡ option_map Known o → o ≡ None
unheld None e = refl
unheld (Some v) e = cc

some_is : {X : Type 0} (o : Option X) → o ≡ None → IsSome o → ⊥
some_is None none some = cc
some_is (Some x) none some = cc

pub aged_records_agree : AgedRecordsAgree
aged_records_agree identity infos commits start moment records topic text table key facts aged named low names known = by (held_row identity records topic text) refl (rows infos commits moment table key) refl
  where
    agree : (column : List ℕ) → held_cell identity records topic text column ≡ option_map Known (source_cell infos (all_changes commits) table key column moment)
    agree = cells_agree identity infos commits start moment records topic text table key aged low names known

    by : (held : Option HeldCells) → held_row identity records topic text ≡ held → (row : Option (List Val)) → rows infos commits moment table key ≡ row → HoldsJsonTexts held (option_map (row_json_texts (columns_of infos table)) row)
    by None is None at = tt
    by None is (Some cells) at =
        let column = some_column names.info in
        let none : source_cell infos (all_changes commits) table key column.0 moment ≡ None =
        unheld (source_cell infos (all_changes commits) table key column.0 moment) (sym (ap (λ (h : Option HeldCells). held_at h column.0) is) ∙ agree column.0) in
        let gone : rows infos commits moment table key ≡ None = no_row identity infos commits facts topic text table key names moment column.0 column.1 none in
        let contra : Some cells ≡ None = sym at ∙ gone in
        absurd (cc)
    by (Some held) is None at =
        let own = named.each topic text held is in
        let column = some_column own.names.info in
        let none : held_at (Some held) column.0 ≡ None =
        sym (ap (λ (h : Option HeldCells). held_at h column.0) is)
        ∙ (agree column.0 ∙ ap (λ (o : Option (List Val)). option_map Known (option_and_then (λ texts. texts column.0) (option_map (row_json_texts (columns_of infos table)) o))) at) in
        absurd (some_is (held_at (Some held) column.0) none (own.columns column.0 column.1))
    by (Some held) is (Some cells) at = λ column.
        sym (ap (λ (h : Option HeldCells). held_at h column) is)
        ∙ (agree column ∙ ap (λ (o : Option (List Val)). option_map Known (option_and_then (λ texts. texts column) (option_map (row_json_texts (columns_of infos table)) o))) at)
