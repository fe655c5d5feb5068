-- The step of a history that one change is, and what its records do to a consumer's cells.
use Rattle.std.proofs.Common.{◌≡◌, ◌∙◌, ◌⊎◌, inl, inr, ℕ, ◌+◌, ◌≤◌, max, List, [], ◌∷◌, ◌++◌, Option, Some, None, length, sym, ap, subst, arith}
use Rattle.std.specs.Prelude.{slice_get}
use Rattle.std.specs.List.{AllByRecursion}
use Rattle.std.proofs.Math.Seq.{take-append_seam}
use Rattle.dbl_value_types.specs.declared.value.Val.{Val}
use Rattle.dbl_record.specs.declared.acts.HeldCell.{HeldCell}
use Rattle.dbl_record.specs.declared.record.Record.{Record}
use Rattle.dbl_model_table.specs.declared.identity.Identity.{Identity}
use Rattle.dbl_model_table.specs.declared.row.Key.{Key}
use Rattle.dbl_model_table.specs.declared.table.TableInfo.{TableInfo}
use Rattle.dbl_model_table.specs.declared.change.Change.{Change}
use Rattle.dbl_model_table.specs.Rows.{Rows, no_rows, rows_after, rows_from, rows_at, effect_of, IsWholeFor}
use Rattle.dbl_model_history.specs.Fit.{IsFit, AreFit}
use Rattle.dbl_model_history.specs.Image.{Names, image_at}
use Rattle.dbl_model_history.proofs.RowKeys.{AreKeyed, keyed_from, keyed-none}
use Rattle.dbl_model_history.proofs.RowLemmas.{rows_from-append}
use Rattle.dbl_consume_laws.specs.Cells.{Op, cell_after}
use Rattle.dbl_consume_laws.specs.Effects.{effect_op}
use Rattle.dbl_consume_laws.proofs.Consumers.{fit_left, fit_right}
use Rattle.dbl_consume_laws.specs.KnownKeys.{IsKnown}
use Rattle.dbl_consume_laws.specs.Ages.{held_cell, source_cell, IsAgedCell, AreAged}
use Rattle.dbl_consume_laws.proofs.Lists.{slice_get-seam, take_front_one}
use Rattle.dbl_consume_laws.proofs.AgeingCells.{Life, source_after, IsSound, IsPart, aged_after, aged_part}
use Rattle.dbl_consume_laws.proofs.KnownKeys.{IsQuiet, known_grows}
use Rattle.dbl_consume_laws.proofs.AgeingRows.{item_op, held_from, held-more, held-one}
use Rattle.dbl_consume_laws.proofs.Effects.{text_in, image-text, IsReady, cell-after, sound, ready}
use Rattle.dbl_consume_laws.proofs.Parts.{IsGone, IsPartOf}

left_of_max : (a b : ℕ) → a ≤ max a b
left_of_max a b = omega arith

right_of_max : (a b : ℕ) → b ≤ max a b
right_of_max a b = omega arith

-- a row that isn't there has no cell
gone_text : (info : TableInfo) (row : Option (List Val)) (column : List ℕ) → row ≡ None → text_in info row column ≡ None
gone_text info row column none = ap (λ (o : Option (List Val)). text_in info o column) none

module _ (identity : Identity) (infos : List TableInfo) (before : List Change) (c : Change) (after : List Change) (fit : AreFit infos no_rows (before ++ c ∷ after)) where
  abbrev pub cs : List Change
  cs = before ++ c ∷ after

  abbrev pub m : ℕ
  m = length before

  -- the rows just before the change
  abbrev pub at : Rows
  at = rows_from infos no_rows before

  pub fits_here : IsFit infos at c
  fits_here = (fit_right infos no_rows before (c ∷ after) fit).0

  keyed : AreKeyed infos at
  keyed = keyed_from infos no_rows before (keyed-none infos) (fit_left infos no_rows before (c ∷ after) fit)

  at_m : rows_at infos cs m ≡ at
  at_m = ap (rows_from infos no_rows) (take-append_seam before (c ∷ after))

  at_next : rows_at infos cs (m + 1) ≡ rows_after infos c at
  at_next = ap (rows_from infos no_rows) (take_front_one before c after) ∙ rows_from-append infos no_rows before (c ∷ [])

  is_c : slice_get cs m ≡ Some c
  is_c = slice_get-seam before c after

  -- ---- one captured table, key and column

  module _ (table : ℕ) (key : Key) (info : TableInfo) (captured : slice_get infos table ≡ Some info) (column : List ℕ) where
    abbrev life : Life
    life = source_cell infos cs table key column

    abbrev op : Op
    op = effect_op info (effect_of infos c table key) column

    is_ready : IsReady (effect_of infos c table key) (at table key)
    is_ready = ready infos at c table key keyed fits_here

    life_m : life m ≡ text_in info (at table key) column
    life_m = ap (λ (r : Rows). image_at infos r table key column) at_m ∙ image-text infos at table info key column captured

    life_next : life (m + 1) ≡ text_in info (rows_after infos c at table key) column
    life_next = ap (λ (r : Rows). image_at infos r table key column) at_next ∙ image-text infos (rows_after infos c at) table info key column captured

    pub next : life (m + 1) ≡ source_after op (life m)
    next = life_next ∙ (cell-after info (effect_of infos c table key) (at table key) column is_ready ∙ ap (source_after op) (sym life_m))

    pub is_sound : IsSound op (IsWholeFor infos c table key) (life m)
    is_sound = subst (IsSound op (IsWholeFor infos c table key)) (sym life_m) (sound info (effect_of infos c table key) (at table key) column is_ready)

    gone_here : IsGone (effect_of infos c table key) (at table key) → IsWholeFor infos c table key → (life m ≡ None) ⊎ (life (m + 1) ≡ None)
    gone_here gone whole = elim (gone whole) [
      | inl now ↦ inl (life_m ∙ gone_text info (at table key) column now)
      | inr then ↦ inr (life_next ∙ gone_text info (rows_after infos c at table key) column then)
    ]

    -- a part of the change by its effect on a row is one by the lives of cells
    pub part_here : (part : Op) → IsPartOf info column (effect_of infos c table key) (at table key) part → IsPart part op (IsWholeFor infos c table key) life m
    part_here part (inl stays) = inl (stays.0, gone_here stays.1)
    part_here part (inr same) = inr same

  -- ---- all cells

  -- the record is a part of the change at each cell
  abbrev pub IsItemPart : Record → Type 0
  IsItemPart item = (topic text : List ℕ) (table : ℕ) (key : Key) (column : List ℕ) (names : Names identity infos topic text table key)
      → IsPartOf names.info column (effect_of infos c table key) (at table key) (item_op identity item topic text column)

  -- the records do together to each cell what the change does
  abbrev pub DoAll : List Record → Type 0
  DoAll rs = (topic text : List ℕ) (table : ℕ) (key : Key) (column : List ℕ) (names : Names identity infos topic text table key) (held : Option HeldCell)
      → held_from identity topic text column held rs ≡ cell_after (effect_op names.info (effect_of infos c table key) column) held

  -- with one of the change's records appended, where the records reach the change
  pub one : (start from b : ℕ) (records : List Record) (item : Record) → from ≤ m → m ≤ b → IsItemPart item → IsQuiet identity item → AreAged identity infos cs start from b records → AreAged identity infos cs start from (max b (m + 1)) (records ++ item ∷ [])
  one start from b records item low reached part quiet aged = record {
    each = λ topic text table key column names. (
        let d : ℕ = max b (m + 1) in
        let L : Type 0 = IsKnown identity infos cs start (records ++ item ∷ []) d table key in
        subst (λ (h : Option HeldCell). IsAgedCell L (source_cell infos cs table key column) from d h) (sym (held-one identity topic text column records item))
        (aged_part (effect_op names.info (effect_of infos c table key) column) (item_op identity item topic text column)
        (IsKnown identity infos cs start records b table key) L (IsWholeFor infos c table key) (source_cell infos cs table key column) from m b d (held_cell identity records topic text column)
        (next table key names.info names.captured column) (is_sound table key names.info names.captured column)
        (known_grows identity infos table key cs start c m b records (item ∷ []) is_c reached (quiet, tt))
        low (left_of_max b (m + 1)) (right_of_max b (m + 1))
        (part_here table key names.info names.captured column (item_op identity item topic text column) (part topic text table key column names))
        (aged.each topic text table key column names)));
  }

  -- with all of the change's records appended
  pub all : (start b : ℕ) (records rs : List Record) → m ≤ b → DoAll rs → AllByRecursion (IsQuiet identity) rs → AreAged identity infos cs start m b records → AreAged identity infos cs start (m + 1) (max b (m + 1)) (records ++ rs)
  all start b records rs reached does quiet aged = record {
    each = λ topic text table key column names. (
        let d : ℕ = max b (m + 1) in
        let L : Type 0 = IsKnown identity infos cs start (records ++ rs) d table key in
        let held : Option HeldCell = held_cell identity records topic text column in
        let now : held_cell identity (records ++ rs) topic text column ≡ cell_after (effect_op names.info (effect_of infos c table key) column) held =
        held-more identity topic text column records rs ∙ does topic text table key column names held in
        subst (λ (h : Option HeldCell). IsAgedCell L (source_cell infos cs table key column) (m + 1) d h) (sym now)
        (aged_after (effect_op names.info (effect_of infos c table key) column)
        (IsKnown identity infos cs start records b table key) L (IsWholeFor infos c table key) (source_cell infos cs table key column) m b d held
        (next table key names.info names.captured column) (is_sound table key names.info names.captured column)
        (known_grows identity infos table key cs start c m b records rs is_c reached quiet)
        (left_of_max b (m + 1)) (right_of_max b (m + 1))
        (aged.each topic text table key column names)));
  }
