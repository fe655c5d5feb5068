-- A cell whose text encodes a value is one that does as it is read, too.
use Rattle.std.proofs.Common.{◌≡◌, ◌∙◌, ℕ, zero, suc, Bool, true, false, Option, Some, None, List, [], ◌∷◌, map, refl, sym, ap, subst}
use Rattle.std.specs.Prelude.{if◌then◌else◌, is_some, option_map, unwrap_or, slice_get}
use Rattle.dbl_value_types.specs.declared.column_type.PgType.{PgType}
use Rattle.dbl_value_types.specs.declared.column_type.PgType.TheVariants as type
use Rattle.dbl_value_types.specs.declared.value.Val.{Val}
use Rattle.dbl_value_types.specs.declared.value.Val.TheVariants as val
use Rattle.dbl_value_types.specs.Types.{is_column_type}
use Rattle.dbl_value_types.specs.Values.{value_of, is_uuid}
use Rattle.dbl_value_types.specs.Faults.{fault_of, value_fault}
use Rattle.dbl_value_types.proofs.TypeLemmas.{type_of-oid_of}
use Rattle.dbl_model_table.specs.declared.table.Column.{Column}
use Rattle.dbl_model_table.specs.Infos.{raw_column}
use Rattle.dbl_model_table.specs.Tables.{are_typed}
use Rattle.dbl_model_table.proofs.Lists.{and_left, and_right}
use Rattle.dbl_model_history.specs.Typed.{typed_cell, typed_cells}
use Rattle.dbl_tables_laws.specs.TablesRows.Cells.{spells_cell}
use Rattle.dbl_tables_laws.specs.TablesRows.Sending.{column_type}
use Rattle.dbl_tables_laws.specs.TablesRows.SourceLog.Texts.{Texts}
use Rattle.dbl_tables_laws.proofs.SpelledLemmas.{AreSpelled}

-- what another kind of value is read from isn't a text
none_mapped : {A : Type 0} (f : A → Val) (o : Option A) (text : List ℕ) → ((a : A) → f a ≡ val.Text text → ⊥) → option_map f o ≡ Some (val.Text text) → ⊥
none_mapped f None text never is = cc
none_mapped f (Some a) text never is = never a (let same : Some (f a) ≡ Some (val.Text text) = is in cc)

-- a text that is read as a text is read as itself
text_value : (ty : PgType) (given text : List ℕ) → value_of ty given ≡ Some (val.Text text) → value_of ty text ≡ Some (val.Text text)
text_value type.Bool given text is = absurd (none_mapped val.Bool _ text (λ a e. cc) is)
text_value type.Int2 given text is = absurd (none_mapped val.Int _ text (λ a e. cc) is)
text_value type.Int4 given text is = absurd (none_mapped val.Int _ text (λ a e. cc) is)
text_value type.Int8 given text is = absurd (none_mapped val.Int _ text (λ a e. cc) is)
text_value type.Text given text is = refl
text_value type.Varchar given text is = refl
text_value type.Bpchar given text is = refl
text_value type.Json given text is = refl
text_value type.Jsonb given text is = refl
text_value type.Numeric given text is = refl
text_value type.Uuid given text is = by (is_uuid given) refl is
  where
    by : (b : Bool) → is_uuid given ≡ b → (if b then Some (val.Text given) else None) ≡ Some (val.Text text) → value_of type.Uuid text ≡ Some (val.Text text)
    by true uuid told =
        let e : given ≡ text = cc in
        subst (λ (t : List ℕ). value_of type.Uuid t ≡ Some (val.Text t)) e (ap (λ (b : Bool). if b then Some (val.Text given) else None) uuid)
    by false uuid told = cc
text_value type.Bytea given text is = absurd (none_mapped val.Bytes _ text (λ a e. cc) is)
text_value type.Date given text is = absurd (none_mapped val.Date _ text (λ a e. cc) is)
text_value type.Time given text is = absurd (none_mapped _ _ text (λ a e. cc) is)
text_value type.Timestamp given text is = absurd (none_mapped val.Stamp _ text (λ a e. cc) is)
text_value type.Timestamptz given text is = absurd (none_mapped val.StampTz _ text (λ a e. cc) is)
text_value (type.Other oid) given text is = refl

-- a cell that is read as a text has no fault
cell_valid : (ty : PgType) (x : Option (List ℕ)) (text : List ℕ) → spells_cell ty x ≡ true → typed_cell ty x ≡ val.Text text → value_fault ty text ≡ None
cell_valid ty None text spells is = cc
cell_valid ty (Some given) text spells is = by (value_of ty given) refl spells is
  where
    by : (o : Option Val) → value_of ty given ≡ o → is_some o ≡ true → unwrap_or o (val.Text given) ≡ val.Text text → value_fault ty text ≡ None
    by None none some told = cc
    by (Some v) read some told =
        let here : value_of ty given ≡ Some (val.Text text) = read ∙ ap (λ (w : Val). Some w) told in
        ap (λ (o : Option Val). if is_some o then None else Some (fault_of ty text)) (text_value ty given text here)

-- the type of a column by its OID
own_type : (c : Column) → is_column_type c.ty ≡ true → column_type (raw_column c) ≡ c.ty
own_type c is = ap (λ (o : Option PgType). unwrap_or o type.Text) (type_of-oid_of c.ty is)

pub cells_valid : (columns : List Column) (texts : Texts) (number : ℕ) (column : Column) (text : List ℕ) → are_typed columns ≡ true → AreSpelled (map raw_column columns) texts
    → slice_get columns number ≡ Some column → slice_get (typed_cells (map (λ (c : Column). c.ty) columns) texts) number ≡ Some (val.Text text) → value_fault column.ty text ≡ None
cells_valid [] texts number column text typed spelled there is = cc
cells_valid (c ∷ columns) [] number column text typed spelled there is = cc
cells_valid (c ∷ columns) (x ∷ texts) zero column text typed spelled there is =
    let same : c ≡ column = cc in
    let own : column_type (raw_column c) ≡ c.ty = own_type c (and_left (is_column_type c.ty) (are_typed columns) typed) in
    let spells : spells_cell c.ty x ≡ true = ap (λ (ty : PgType). spells_cell ty x) (sym own) ∙ spelled.0 in
    let read : typed_cell c.ty x ≡ val.Text text = (let some : Some (typed_cell c.ty x) ≡ Some (val.Text text) = is in cc) in
    subst (λ (k : Column). value_fault k.ty text ≡ None) same (cell_valid c.ty x text spells read)
cells_valid (c ∷ columns) (x ∷ texts) (suc number) column text typed spelled there is =
    cells_valid columns texts number column text (and_right (is_column_type c.ty) (are_typed columns) typed) spelled.1 there is
