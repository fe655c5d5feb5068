-- The first rows above a key, as texts, are the first rows above it as values.
use Rattle.std.proofs.Common.{◌≡◌, ◌≢◌, ◌∙◌, ◌⊎◌, inl, inr, ℕ, ◌<◌, Bool, true, false, Option, Some, List, [], ◌∷◌, length, map, refl, sym, ap, subst, arith}
use Rattle.std.specs.Prelude.{if◌then◌else◌, option_map}
use Rattle.std.specs.List.{AllByRecursion}
use Rattle.std.specs.declared.cmp.Ordering.TheVariants.{Less}
use Rattle.std.proofs.lemmas.List.{length-map}
use Rattle.dbl_script.specs.Value.declared.column_type.PgType.{PgType}
use Rattle.dbl_script.specs.Value.declared.value.Val.{Val}
use Rattle.dbl_script.specs.ModelTable.declared.row.Key.{Key}
use Rattle.dbl_script.specs.ModelTable.declared.row.Row.{Row}
use Rattle.dbl_script.specs.ModelTable.declared.table.RawRow.{RawRow}
use Rattle.dbl_script.specs.ModelTable.declared.table.RawTable.{RawTable}
use Rattle.dbl_script.specs.ModelTable.declared.table.TableInfo.{TableInfo}
use Rattle.dbl_script.specs.ModelTable.Keys.{key_cmp, same_key}
use Rattle.dbl_tables_laws.proofs.ModelTableKeyLemmas.{same_key-other}
use Rattle.dbl_tables_laws.specs.ModelHistory.Fit.{IsKeyOf}
use Rattle.dbl_tables_laws.specs.ModelHistory.KeyBounds.{IsAbove, IsUpTo}
use Rattle.dbl_tables_laws.specs.ModelHistory.KeyedRows.{AreAbove, AreFirst, last_key, row_in}
use Rattle.dbl_tables_laws.specs.ModelHistory.Typed.{typed_cells}
use Rattle.dbl_tables_laws.proofs.ModelHistoryBoundLemmas.{not_below_itself, above_goes_on}
use Rattle.dbl_tables_laws.specs.SourceLog.Texts.{Texts, key_in}
use Rattle.dbl_tables_laws.specs.TablesRows.Selects.{AreFirstRows, AreRisingKeys, last_shown, row_shown}
use Rattle.dbl_tables_laws.proofs.FirstLemmas.{last_up, shown_apart, shown_first}
use Rattle.dbl_demo_wal.proofs.KeyTexts.{entry_as}

module _ (raw : RawTable) where
  abbrev key_as : RawRow → Key
  key_as row = key_in raw row.cells

  -- ---- each row stands in the table

  shown_after : (row : RawRow) (rows : List RawRow) (key : Key) → IsAbove (Some (key_as row)) key → row_shown raw (row ∷ rows) key ≡ row_shown raw rows key
  shown_after row rows key subsequent =
      let other : key_as row ≢ key = λ same. not_below_itself key (subst (λ (k : Key). key_cmp k key ≡ Less) same subsequent) in
      shown_apart raw row rows key (same_key-other (key_as row) key other)

  pub each_there : (at : Key → Option Texts) (bound : Option Key) (rows : List RawRow) → AreRisingKeys raw bound rows → ((key : Key) → IsAbove bound key → IsUpTo (last_shown raw bound rows) key → row_shown raw rows key ≡ at key)
      → AllByRecursion (λ row. at (key_as row) ≡ Some row.cells) rows
  each_there at bound [] rising right = tt
  each_there at bound (row ∷ rows) rising right = (
    sym (right (key_as row) rising.0 (last_up raw (key_as row) rows (key_as row) rising.1 (inl refl))) ∙ shown_first raw row rows,
    each_there at (Some (key_as row)) rows rising.1 (λ key subsequent up. sym (shown_after row rows key subsequent) ∙ right key (above_goes_on bound (key_as row) key rising.0 subsequent) up),
  )

  -- ---- the same rows as values

  module _ (types : List PgType) where
    abbrev entries : List RawRow → List (Key × Row)
    entries rows = map (entry_as raw types) rows

    row_in_is : (rows : List RawRow) (key : Key) → row_in (entries rows) key ≡ option_map (typed_cells types) (row_shown raw rows key)
    row_in_is [] key = refl
    row_in_is (row ∷ rows) key = by (same_key (key_as row) key) (row_in_is rows key)
      where
        by : (b : Bool) → row_in (entries rows) key ≡ option_map (typed_cells types) (row_shown raw rows key)
            → (if b then Some (typed_cells types row.cells) else row_in (entries rows) key) ≡ option_map (typed_cells types) (if b then Some row.cells else row_shown raw rows key)
        by true rest = refl
        by false rest = rest

    above_is : (bound : Option Key) (rows : List RawRow) → AreRisingKeys raw bound rows → AreAbove bound (entries rows)
    above_is bound [] rising = tt
    above_is bound (row ∷ rows) rising = (rising.0, above_is (Some (key_as row)) rows rising.1)

    last_is : (bound : Option Key) (rows : List RawRow) → last_shown raw bound rows ≡ last_key bound (entries rows)
    last_is bound [] = refl
    last_is bound (row ∷ rows) = last_is (Some (key_as row)) rows

    module _ (info : TableInfo) (texts : Key → Option Texts) (at : Key → Option (List Val)) (agree : (key : Key) → IsKeyOf info key → at key ≡ option_map (typed_cells types) (texts key))
        (fit : (row : RawRow) → texts (key_as row) ≡ Some row.cells → IsKeyOf info (key_as row)) where
      keys_fit : (rows : List RawRow) → AllByRecursion (λ row. texts (key_as row) ≡ Some row.cells) rows → AllByRecursion (λ entry. IsKeyOf info entry.0) (entries rows)
      keys_fit [] there = tt
      keys_fit (row ∷ rows) there = (fit row there.0, keys_fit rows there.1)

      pub first_values : (above : Option Key) (limit : ℕ) (rows : List RawRow) → AreFirstRows raw texts above limit rows → AreFirst info at above limit (entries rows)
      first_values above limit rows are = record {
        keys = keys_fit rows (each_there texts above rows are.ordered (λ key above_it up. are.right key above_it (inr up)));
        ordered = above_is above rows are.ordered;
        few = (let few = are.few in omega (arith, length-map rows (entry_as raw types), few));
        right = λ key is_key above_it range.
            row_in_is rows key ∙ ap (option_map (typed_cells types)) (are.right key above_it (as_shown key range)) ∙ sym (agree key is_key);
      }
        where
          as_shown : (key : Key) → (length (entries rows) < limit) ⊎ IsUpTo (last_key above (entries rows)) key → (length rows < limit) ⊎ IsUpTo (last_shown raw above rows) key
          as_shown key (inl fewer) = inl (omega (arith, length-map rows (entry_as raw types), fewer))
          as_shown key (inr up) = inr (subst (λ (bound : Option Key). IsUpTo bound key) (sym (last_is above rows)) up)
