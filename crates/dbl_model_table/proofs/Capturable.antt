-- A catalogue entry without a fault has an info, and one that has an info has no fault.
use Rattle.std.proofs.Common.{◌≡◌, ◌∙◌, ℕ, Bool, true, false, not, ◌||◌, inl, inr, Option, Some, None, List, [], ◌∷◌, ◌++◌, length, map, refl, sym, ap}
use Rattle.std.specs.Prelude.{◌&&◌, nat_eq, nat_lt, is_some, option_map, if◌then◌else◌}
use Rattle.std.specs.List.{find, list_any, list_all}
use Rattle.std.specs.Str.{bytes_eq}
use Rattle.std.proofs.lemmas.List.{length-map}
use Rattle.std.proofs.lemmas.Bool.Decides.{Decides-ltb}
use Rattle.dbl_value_types.specs.Types.{oid_of, is_column_type}
use Rattle.dbl_value_types.proofs.TypeLemmas.{type_of-oid_of}
use Rattle.dbl_model_table.specs.declared.table.Column.{Column}
use Rattle.dbl_model_table.specs.declared.table.RawColumn.{RawColumn}
use Rattle.dbl_model_table.specs.declared.table.RawTable.{RawTable}
use Rattle.dbl_model_table.specs.declared.table.TableInfo.{TableInfo}
use Rattle.dbl_model_table.specs.declared.error.ModelError.{ModelError}
use Rattle.dbl_model_table.specs.declared.error.ModelError.TheVariants.{BadName, DuplicateColumn, FloatColumn, NoKey, KeyType}
use Rattle.dbl_model_table.specs.Tables.{is_good_name, are_distinct, column_names, type_at, is_key_type, are_typed, is_unfit}
use Rattle.dbl_model_table.specs.Infos.{raw_column, name_at, key_names, catalogue_of, IsInfoOf}
use Rattle.dbl_model_table.specs.Made.{raw_names, place_of, first_repeated, first_float, has_key, first_unfit, name_fault, column_fault, float_fault, key_fault, key_type_fault, first_fault, table_fault}
use Rattle.dbl_model_table.specs.Laws.{CapturableEntriesHaveAnInfo}
use Rattle.dbl_model_table.proofs.Lists.{bool_case, and_left, and_right, and_both, or_false, any-push, text_itself, same_text, is_some-position_from}
use Rattle.dbl_model_table.proofs.InfoLemmas.{good_name, distinct_columns, typed_columns, sound_key, places_within, has_name, not_true, place_one, key_names_distinct}
use Rattle.dbl_model_table.proofs.Making.{names_made, oid_of-type_of, type_of-typed, typed_of, no_float, is_float_column, placed, unfit_named, first_repeated-new, table_made, entry_made, passes}

-- ---- an info of an entry without a fault

none_found : {X : Type 0} (p : X → Bool) (x : X) (xs : List X) → find p (x ∷ xs) ≡ None → (p x ≡ false) × (find p xs ≡ None)
none_found p x xs h = step (p x) h
  where
    step : (b : Bool) → (if b then Some x else find p xs) ≡ None → (b ≡ false) × (find p xs ≡ None)
    step true e = cc
    step false e = (refl, e)

record AreColumns (raws : List RawColumn) : Type 0 where
  columns : List Column
  made : map raw_column columns ≡ raws
  typed : are_typed columns ≡ true

columns_made : (raws : List RawColumn) → find is_float_column raws ≡ None → AreColumns raws
columns_made [] none = record { columns = []; made = refl; typed = refl }
columns_made (r ∷ raws) none =
    let apart = none_found is_float_column r raws none in
    let ty = typed_of r.oid apart.0 in
    let rest = columns_made raws apart.1 in
    let oid : oid_of ty.0 ≡ r.oid = oid_of-type_of r.oid ty.0 ty.1 in
    let here : record { name = r.name; oid = oid_of ty.0 } ≡ r = λ i. record { name = r.name; oid = oid i } in
    record {
      columns = record { name = r.name; ty = ty.0 } ∷ rest.columns;
      made = ap (λ (c : RawColumn). c ∷ map raw_column rest.columns) here ∙ ap (λ (l : List RawColumn). r ∷ l) rest.made;
      typed = and_both _ _ (type_of-typed r.oid ty.0 ty.1) rest.typed;
    }

some_of : (o : Option ℕ) → is_some o ≡ true → (n : ℕ) × (o ≡ Some n)
some_of None h = cc
some_of (Some n) h = (n, refl)

places_made : (names key : List (List ℕ)) → list_all (λ name. list_any (bytes_eq name) names) key ≡ true → (places : List ℕ) × (map (place_of names) key ≡ map Some places)
places_made names [] h = ([], refl)
places_made names (name ∷ key) h =
    let at = some_of (place_of names name) (is_some-position_from (bytes_eq name) 0 names ∙ and_left _ _ h) in
    let rest = places_made names key (and_right (list_any (bytes_eq name) names) _ h) in
    (at.0 ∷ rest.0, ap (λ (o : Option ℕ). o ∷ map (place_of names) key) at.1 ∙ ap (λ (l : List (Option ℕ)). Some at.0 ∷ l) rest.1)

record IsFaultless (raw : RawTable) : Type 0 where
  good : is_good_name raw.name ≡ true
  new : first_repeated [] (raw_names raw.columns) ≡ None
  whole : find is_float_column raw.columns ≡ None
  key : has_key raw ≡ true
  fit : first_unfit raw ≡ None

none_first : (o : Option ModelError) (faults : List (Option ModelError)) → first_fault (o ∷ faults) ≡ None → (o ≡ None) × (first_fault faults ≡ None)
none_first None faults h = (refl, h)
none_first (Some e) faults h = cc

none_mapped : {A B : Type 0} (f : A → B) (o : Option A) → option_map f o ≡ None → o ≡ None
none_mapped f None h = refl
none_mapped f (Some x) h = cc

none_unless : (b : Bool) (e : ModelError) → (if b then None else Some e) ≡ None → b ≡ true
none_unless true e h = refl
none_unless false e h = cc

faultless : (raw : RawTable) → table_fault raw ≡ None → IsFaultless raw
faultless raw h =
    let name = none_first (name_fault raw) (column_fault raw ∷ float_fault raw ∷ key_fault raw ∷ key_type_fault raw ∷ []) h in
    let column = none_first (column_fault raw) (float_fault raw ∷ key_fault raw ∷ key_type_fault raw ∷ []) name.1 in
    let float = none_first (float_fault raw) (key_fault raw ∷ key_type_fault raw ∷ []) column.1 in
    let key = none_first (key_fault raw) (key_type_fault raw ∷ []) float.1 in
    let fit = none_first (key_type_fault raw) [] key.1 in
    record {
      good = none_unless (is_good_name raw.name) (BadName raw.name) name.0;
      new = none_mapped (DuplicateColumn raw.name) (first_repeated [] (raw_names raw.columns)) column.0;
      whole = none_mapped (λ column. column.name) (find is_float_column raw.columns) (none_mapped (FloatColumn raw.name) (first_float raw.columns) float.0);
      key = none_unless (has_key raw) (NoKey raw.name) key.0;
      fit = none_mapped (KeyType raw.name) (first_unfit raw) fit.0;
    }

info_made : (raw : RawTable) → table_fault raw ≡ None → (info : TableInfo) × IsInfoOf raw info
info_made raw none =
    let free = faultless raw none in
    let columns = columns_made raw.columns free.whole in
    let places = places_made (raw_names raw.columns) raw.key (and_right (nat_lt 0 (length raw.key)) _ (and_left _ _ free.key)) in
    let fit : find (is_unfit columns.columns) places.0 ≡ None = none_mapped (name_at columns.columns) (find (is_unfit columns.columns) places.0)
    (sym (unfit_named columns.columns raw.columns raw.key places.0 columns.made columns.typed places.1) ∙ free.fit) in (
      record {
        name = raw.name;
        columns = columns.columns;
        key = places.0;
        sound = table_made raw columns.columns places.0 free.good columns.made free.new places.1 free.key columns.typed fit;
      },
      entry_made raw raw.name columns.columns places.0 refl columns.made places.1,
    )

-- ---- an entry of an info has no fault

-- none of the names is among those before
abbrev AreApart : List (List ℕ) → List (List ℕ) → Type 0
AreApart before names = (x : List ℕ) → list_any (bytes_eq x) before ≡ true → list_any (bytes_eq x) names ≡ false

no_repeat : (before names : List (List ℕ)) → are_distinct bytes_eq names ≡ true → AreApart before names → first_repeated before names ≡ None
no_repeat before [] apart outside = refl
no_repeat before (name ∷ names) apart outside =
    let alone : list_any (bytes_eq name) names ≡ false = not_true (list_any (bytes_eq name) names) (and_left _ _ apart) in
    first_repeated-new before name names (elim (bool_case (list_any (bytes_eq name) before)) [
      | inl among ↦ (
          let both = or_false (bytes_eq name name) (list_any (bytes_eq name) names) (outside name among) in
          let contra : true ≡ false = sym (text_itself name) ∙ both.0 in
          cc)
      | inr new ↦ new
    ])
    ∙ no_repeat (before ++ name ∷ []) names (and_right (not (list_any (bytes_eq name) names)) _ apart) (λ x among. elim (bool_case (list_any (bytes_eq x) before)) [
      | inl before_it ↦ (or_false (bytes_eq x name) (list_any (bytes_eq x) names) (outside x before_it)).1
      | inr other ↦ (
          let here : bytes_eq x name ≡ true = sym (any-push (bytes_eq x) before name ∙ ap (λ (b : Bool). b || bytes_eq x name) other) ∙ among in
          ap (λ (y : List ℕ). list_any (bytes_eq y) names) (same_text x name here) ∙ alone)
    ])

key_named : (columns : List Column) (places : List ℕ) → list_all (λ place. nat_lt place (length columns)) places ≡ true
    → list_all (λ name. list_any (bytes_eq name) (column_names columns)) (map (name_at columns) places) ≡ true
key_named columns [] within = refl
key_named columns (place ∷ places) within =
    and_both _ _ (has_name columns place ((Decides-ltb place (length columns)).0 (and_left _ _ within))) (key_named columns places (and_right (nat_lt place (length columns)) _ within))

entry_has_key : (info : TableInfo) → has_key (catalogue_of info) ≡ true
entry_has_key info =
    let names : raw_names (map raw_column info.columns) ≡ column_names info.columns = sym (names_made info.columns (map raw_column info.columns) refl) in
    let some : nat_lt 0 (length (key_names info)) ≡ true = ap (λ (n : ℕ). nat_lt 0 n) (length-map info.key (name_at info.columns)) ∙ and_left _ _ (and_left _ _ (and_left _ _ (sound_key info))) in
    and_both _ _
    (and_both _ _ some (ap (λ (l : List (List ℕ)). list_all (λ name. list_any (bytes_eq name) l) (key_names info)) names ∙ key_named info.columns info.key (places_within info)))
    (key_names_distinct info)

-- the places of the key's names
pub places_again : (columns : List Column) (places : List ℕ) → are_distinct bytes_eq (column_names columns) ≡ true → list_all (λ place. nat_lt place (length columns)) places ≡ true
    → map (place_of (column_names columns)) (map (name_at columns) places) ≡ map Some places
places_again columns [] apart within = refl
places_again columns (place ∷ places) apart within =
    let lt = (Decides-ltb place (length columns)).0 (and_left _ _ within) in
    let at = some_of (place_of (column_names columns) (name_at columns place)) (is_some-position_from (bytes_eq (name_at columns place)) 0 (column_names columns) ∙ has_name columns place lt) in
    let named = placed columns (name_at columns place) at.0 at.1 in
    let same : at.0 ≡ place = place_one columns at.0 place apart named.1 lt named.0 in
    ap (λ (o : Option ℕ). o ∷ map (place_of (column_names columns)) (map (name_at columns) places)) (at.1 ∙ ap Some same)
    ∙ ap (λ (l : List (Option ℕ)). Some place ∷ l) (places_again columns places apart (and_right (nat_lt place (length columns)) _ within))

no_floats : (columns : List Column) → are_typed columns ≡ true → find is_float_column (map raw_column columns) ≡ None
no_floats [] typed = refl
no_floats (c ∷ columns) typed =
    ap (λ (b : Bool). if b then Some (raw_column c) else find is_float_column (map raw_column columns)) (no_float (oid_of c.ty) c.ty (type_of-oid_of c.ty (and_left _ _ typed)))
    ∙ no_floats columns (and_right (is_column_type c.ty) _ typed)

none_unfit : (columns : List Column) (places : List ℕ) → list_all (λ place. is_key_type (type_at columns place)) places ≡ true → find (is_unfit columns) places ≡ None
none_unfit columns [] all = refl
none_unfit columns (place ∷ places) all =
    ap (λ (b : Bool). if not b then Some place else find (is_unfit columns) places) (and_left _ _ all) ∙ none_unfit columns places (and_right (is_key_type (type_at columns place)) _ all)

all_pass : (a b c d e : Option ModelError) → a ≡ None → b ≡ None → c ≡ None → d ≡ None → e ≡ None → first_fault (a ∷ b ∷ c ∷ d ∷ e ∷ []) ≡ None
all_pass a b c d e ha hb hc hd he = passes a (b ∷ c ∷ d ∷ e ∷ []) ha ∙ (passes b (c ∷ d ∷ e ∷ []) hb ∙ (passes c (d ∷ e ∷ []) hc ∙ (passes d (e ∷ []) hd ∙ passes e [] he)))

pub no_fault : (info : TableInfo) → table_fault (catalogue_of info) ≡ None
no_fault info =
    let names : raw_names (map raw_column info.columns) ≡ column_names info.columns = sym (names_made info.columns (map raw_column info.columns) refl) in
    let new : first_repeated [] (raw_names (map raw_column info.columns)) ≡ None = ap (first_repeated []) names ∙ no_repeat [] (column_names info.columns) (distinct_columns info) (λ x among. cc) in
    let places : map (place_of (raw_names (map raw_column info.columns))) (key_names info) ≡ map Some info.key =
    ap (λ (l : List (List ℕ)). map (place_of l) (key_names info)) names ∙ places_again info.columns info.key (distinct_columns info) (places_within info) in
    let unfit : first_unfit (catalogue_of info) ≡ None = unfit_named info.columns (map raw_column info.columns) (key_names info) info.key refl (typed_columns info) places
    ∙ ap (option_map (name_at info.columns)) (none_unfit info.columns info.key (and_right (nat_lt 0 (length info.key) && list_all (λ place. nat_lt place (length info.columns)) info.key && are_distinct nat_eq info.key) _ (sound_key info))) in
    all_pass (name_fault (catalogue_of info)) (column_fault (catalogue_of info)) (float_fault (catalogue_of info)) (key_fault (catalogue_of info)) (key_type_fault (catalogue_of info))
    (ap (λ (b : Bool). if b then None else Some (BadName info.name)) (good_name info))
    (ap (option_map (DuplicateColumn info.name)) new)
    (ap (λ (o : Option RawColumn). option_map (FloatColumn info.name) (option_map (λ (c : RawColumn). c.name) o)) (no_floats info.columns (typed_columns info)))
    (ap (λ (b : Bool). if b then None else Some (NoKey info.name)) (entry_has_key info))
    (ap (option_map (KeyType info.name)) unfit)

pub capturable : CapturableEntriesHaveAnInfo
capturable raw = (info_made raw, λ of. ap table_fault (sym of.1) ∙ no_fault of.0)
