-- The first rows above a key are one list.
use Rattle.std.proofs.Common.{◌≡◌, ◌≢◌, ◌∙◌, inl, inr, ℕ, ◌<◌, ◌≤◌, ◌-◌, suc, Bool, false, Option, Some, None, List, [], ◌∷◌, length, refl, sym, ap, subst, arith}
use Rattle.std.specs.Prelude.{if◌then◌else◌}
use Rattle.std.specs.Ordering.{is_eq, ordering_reverse}
use Rattle.std.specs.declared.cmp.Ordering.{Ordering}
use Rattle.std.specs.declared.cmp.Ordering.TheVariants.{Less, Equal, Greater}
use Rattle.dbl_tables_rows.specs.ModelTable.declared.row.Key.{Key}
use Rattle.dbl_tables_rows.specs.ModelTable.declared.table.RawRow.{RawRow}
use Rattle.dbl_tables_rows.specs.ModelTable.declared.table.RawTable.{RawTable}
use Rattle.dbl_tables_rows.specs.ModelTable.Infos.{catalogue_of}
use Rattle.dbl_tables_rows.specs.ModelTable.Keys.{key_cmp, same_key}
use Rattle.dbl_tables_rows.proofs.ModelTableKeyLemmas.{key_total, same_key-is, same_key-itself, same_key-other}
use Rattle.dbl_tables_rows.specs.ModelHistory.KeyBounds.{IsAbove, IsUpTo}
use Rattle.dbl_tables_rows.proofs.ModelHistoryBoundLemmas.{not_below_itself, bounds_part, above_goes_on}
use Rattle.dbl_tables_rows.specs.SourceLog.Texts.{Texts, key_in}
use Rattle.dbl_tables_rows.specs.Selects.{row_shown, AreRisingKeys, last_shown, AreFirstRows}
use Rattle.dbl_tables_laws.specs.Laws.{FirstRowsAreOneList}

up_to_more : (bound : Option Key) (more key : Key) → IsUpTo bound key → IsAbove bound more → IsUpTo (Some more) key
up_to_more None more key up above = elim up [ ]
up_to_more (Some bound) more key (inl same) above = inr (subst (λ (k : Key). key_cmp k more ≡ Less) (sym same) above)
up_to_more (Some bound) more key (inr below) above = inr (key_total.trans key bound more below above)

turned : (a b : Key) (o : Ordering) → key_cmp a b ≡ o → key_cmp b a ≡ ordering_reverse o
turned a b o is = key_total.antisymm b a ∙ ap ordering_reverse is

module _ (raw : RawTable) where
  abbrev key_of : RawRow → Key
  key_of row = key_in raw row.cells

  pub last_up : (bound : Key) (rows : List RawRow) (key : Key) → AreRisingKeys raw (Some bound) rows → IsUpTo (Some bound) key → IsUpTo (last_shown raw (Some bound) rows) key
  last_up bound [] key rising up = up
  last_up bound (row ∷ rows) key rising up = last_up (key_of row) rows key rising.1 (up_to_more (Some bound) (key_of row) key up rising.0)

  pub shown_apart : (row : RawRow) (rows : List RawRow) (key : Key) → same_key (key_of row) key ≡ false → row_shown raw (row ∷ rows) key ≡ row_shown raw rows key
  shown_apart row rows key apart = ap (λ (b : Bool). if b then Some row.cells else row_shown raw rows key) apart

  -- rows above a bound have none up to it
  shown_up_to : (bound : Option Key) (rows : List RawRow) (key : Key) → AreRisingKeys raw bound rows → IsUpTo bound key → row_shown raw rows key ≡ None
  shown_up_to bound [] key rising up = refl
  shown_up_to bound (row ∷ rows) key rising up =
      let other : key_of row ≢ key = λ same. (bounds_part bound key).not_both (subst (IsAbove bound) same rising.0) up in
      shown_apart row rows key (same_key-other (key_of row) key other) ∙ shown_up_to (Some (key_of row)) rows key rising.1 (up_to_more bound (key_of row) key up rising.0)

  pub shown_first : (row : RawRow) (rows : List RawRow) → row_shown raw (row ∷ rows) (key_of row) ≡ Some row.cells
  shown_first row rows = ap (λ (b : Bool). if b then Some row.cells else row_shown raw rows (key_of row)) (same_key-itself (key_of row))

  module _ (at : Key → Option Texts) where
    first_there : (above : Option Key) (limit : ℕ) (row : RawRow) (rows : List RawRow) → AreFirstRows raw at above limit (row ∷ rows) → at (key_of row) ≡ Some row.cells
    first_there above limit row rows are =
        sym (are.right (key_of row) are.ordered.0 (inr (last_up (key_of row) rows (key_of row) are.ordered.1 (inl refl)))) ∙ shown_first row rows

    first_after : (above : Option Key) (limit : ℕ) (row : RawRow) (rows : List RawRow) → AreFirstRows raw at above limit (row ∷ rows) → AreFirstRows raw at (Some (key_of row)) (limit - 1) rows
    first_after above limit row rows are = record {
      ordered = are.ordered.1;
      few = (let few : suc (length rows) ≤ limit = are.few in omega (arith, few));
      right = λ key subsequent range.
          let whole : row_shown raw (row ∷ rows) key ≡ at key = are.right key (above_goes_on above (key_of row) key are.ordered.0 subsequent) (elim range [
            | inl fewer ↦ inl (let few : suc (length rows) ≤ limit = are.few in let less : length rows < limit - 1 = fewer in omega (arith, few, less))
            | inr up ↦ inr up
          ]) in
          let other : key_of row ≢ key = λ same. not_below_itself key (subst (λ (k : Key). key_cmp k key ≡ Less) same subsequent) in
          sym (shown_apart row rows key (same_key-other (key_of row) key other)) ∙ whole;
    }

    none_before : (above : Option Key) (limit : ℕ) (d e : RawRow) (a b : List RawRow) → AreFirstRows raw at above limit (d ∷ a) → AreFirstRows raw at above limit (e ∷ b) → key_cmp (key_of d) (key_of e) ≡ Less → ⊥
    none_before above limit d e a b fa fb less =
        let there : row_shown raw (e ∷ b) (key_of d) ≡ at (key_of d) = fb.right (key_of d) fa.ordered.0 (inr (last_up (key_of e) b (key_of d) fb.ordered.1 (inr less))) in
        let none : row_shown raw (e ∷ b) (key_of d) ≡ None = shown_up_to (Some (key_of d)) (e ∷ b) (key_of d) (less, fb.ordered.1) (inl refl) in
        let contra : None ≡ Some d.cells = sym none ∙ (there ∙ first_there above limit d a fa) in
        cc

    not_empty : (above : Option Key) (limit : ℕ) (e : RawRow) (b : List RawRow) → AreFirstRows raw at above limit [] → AreFirstRows raw at above limit (e ∷ b) → ⊥
    not_empty above limit e b fa fb =
        let few : suc (length b) ≤ limit = fb.few in
        let none : None ≡ at (key_of e) = fa.right (key_of e) fb.ordered.0 (inl (omega (arith, few))) in
        let contra : None ≡ Some e.cells = none ∙ first_there above limit e b fb in
        cc

    first_one : (above : Option Key) (limit : ℕ) (a b : List RawRow) → AreFirstRows raw at above limit a → AreFirstRows raw at above limit b → a ≡ b
    first_one above limit [] [] fa fb = refl
    first_one above limit [] (e ∷ b) fa fb = absurd (not_empty above limit e b fa fb)
    first_one above limit (d ∷ a) [] fa fb = absurd (not_empty above limit d a fb fa)
    first_one above limit (d ∷ a) (e ∷ b) fa fb = by (key_cmp (key_of d) (key_of e)) refl (first_one (Some (key_of d)) (limit - 1) a b (first_after above limit d a fa))
      where
        by : (o : Ordering) → key_cmp (key_of d) (key_of e) ≡ o → (AreFirstRows raw at (Some (key_of d)) (limit - 1) b → a ≡ b) → d ∷ a ≡ e ∷ b
        by Less is same = absurd (none_before above limit d e a b fa fb is)
        by Greater is same = absurd (none_before above limit e d b a fb fa (turned (key_of d) (key_of e) Greater is))
        by Equal is same =
            let key : key_of d ≡ key_of e = same_key-is (key_of d) (key_of e) (ap is_eq is) in
            let found : Some d.cells ≡ Some e.cells = sym (first_there above limit d a fa) ∙ (ap at key ∙ first_there above limit e b fb) in
            let cells : d.cells ≡ e.cells = cc in
            let rest : a ≡ b = same (subst (λ (k : Key). AreFirstRows raw at (Some k) (limit - 1) b) (sym key) (first_after above limit e b fb)) in
            λ i. (record { cells = cells i }) ∷ rest i

pub first_rows_one : FirstRowsAreOneList
first_rows_one info at above limit a b fa fb = record {
  own = λ key. first_one (catalogue_of info) at above limit a b (fa.first key) (fb.first key);
  other = λ none. fa.none_above none ∙ sym (fb.none_above none);
}
