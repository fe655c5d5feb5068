-- Alterations that keep keys.
use Rattle.std.proofs.Common.{◌≡◌, ◌≢◌, ◌∙◌, ◌<◌, ℕ, zero, suc, ◌+◌, Bool, true, false, inl, inr, List, [], ◌∷◌, Option, Some, None, length, map, take, fold, refl, sym, ap, subst, arith}
use Rattle.std.specs.Prelude.{◌&&◌, not, nat_lt, if◌then◌else◌, IsSome, IsSomeAnd, option_map, option_and_then, unwrap_or, slice_get, bytes_eq}
use Rattle.std.specs.List.{AllByRecursion, list_any, list_all, position_from}
use Rattle.std.proofs.lemmas.Option.{slice_get-map}
use Rattle.std.proofs.lemmas.Bool.Decides.{Decides-ltb}
use Rattle.dbl_value_types.specs.declared.column_type.PgType.{PgType}
use Rattle.dbl_value_types.specs.declared.column_type.PgType.TheVariants as type
use Rattle.dbl_value_types.specs.Values.{is_column_type}
use Rattle.dbl_model_table.specs.declared.table.Column.{Column}
use Rattle.dbl_model_table.specs.declared.table.RawColumn.{RawColumn}
use Rattle.dbl_model_table.specs.declared.table.RawTable.{RawTable}
use Rattle.dbl_model_table.specs.declared.table.TableInfo.{TableInfo}
use Rattle.dbl_model_table.specs.declared.table.TableName.{TableName}
use Rattle.dbl_model_table.specs.declared.table.RawRow.{RawRow}
use Rattle.dbl_model_table.specs.declared.change.Body.TheVariants.{Changes}
use Rattle.dbl_model_table.specs.Tables.{same_name, are_distinct, column_names, type_at, are_typed, is_table}
use Rattle.dbl_model_table.specs.Made.{raw_names, place_of, column_named}
use Rattle.dbl_model_table.specs.Infos.{raw_column, name_at, key_names, key_types, catalogue_of, IsInfoOf, number_of}
use Rattle.dbl_model_table.proofs.Capturable.{places_again, capturable}
use Rattle.dbl_model_table.proofs.InfoLemmas.{distinct_columns, typed_columns, places_within, not_true, info_one, true_false}
use Rattle.dbl_model_table.proofs.Lists.{bool_case, and_left, and_right, or_false, same_text, text_itself, position_from-at}
use Rattle.dbl_model_table.proofs.Making.{names_made, names_placed}
use Rattle.dbl_model_history.specs.History.{RawBody, RawCommit, History, entry_of}
use Rattle.dbl_model_history.specs.History as raw
use Rattle.dbl_model_history.specs.InForce.{entry_after, IsAlike, captured_column, places_of, table_or, reshaped, Versioned, infos_by, alteration_in, versioned_commit, versioned_from, FollowsInfos, AreVersionsFrom, opening_infos}
use Rattle.dbl_model_history.specs.KeptKeys.{key_columns, KeepsKey, entry_in, KeepsKeyOf, KeepKeys, catalogue_at, captured_type, HasKeyOf, IsShapeOf, AreShapesOf, InfosHaveKeys, EntriesAreInForce, VersionsFollow, ShapesAreInForce, ShapesAreDescriptions}
use Rattle.dbl_model_history.proofs.InForceLemmas.{column_again, columns_again, kept, reshaped_itself}
use Rattle.dbl_model_history.proofs.RowKeys.{some_and}

-- ---- columns by name

captured_names : (columns : List RawColumn) → column_names (map captured_column columns) ≡ raw_names columns
captured_names [] = refl
captured_names (c ∷ columns) = ap (λ (l : List (List ℕ)). c.name ∷ l) (captured_names columns)

none_there : IsSome {T = RawColumn} None → ⊥
none_there some = cc

placed_by : (columns : List RawColumn) (name : List ℕ) → IsSome (column_named columns name) → (o : Option ℕ) → place_of (raw_names columns) name ≡ o
    → (place : ℕ) × (place_of (raw_names columns) name ≡ Some place) × (column_named columns name ≡ slice_get columns place)
placed_by columns name there None is = absurd (none_there (subst (λ (o : Option RawColumn). IsSome o) (ap (option_and_then (slice_get columns)) is) there))
placed_by columns name there (Some place) is = (place, is, ap (option_and_then (slice_get columns)) is)

-- the place of a column that has this name
placed_name : (columns : List RawColumn) (name : List ℕ) → IsSome (column_named columns name)
    → (place : ℕ) × (place_of (raw_names columns) name ≡ Some place) × (column_named columns name ≡ slice_get columns place)
placed_name columns name there = placed_by columns name there (place_of (raw_names columns) name) refl

type_placed : (columns : List RawColumn) (place : ℕ) → type_at (map captured_column columns) place ≡ captured_type (slice_get columns place)
type_placed columns place = ap (λ (o : Option Column). unwrap_or (option_map (λ column. column.ty) o) type.Text) (slice_get-map captured_column columns place) ∙ by (slice_get columns place)
  where
    by : (o : Option RawColumn) → unwrap_or (option_map (λ column. column.ty) (option_map captured_column o)) type.Text ≡ captured_type o
    by None = refl
    by (Some c) = refl

-- where the key's columns are in other columns of the table
record IsFound (columns : List RawColumn) (key : List (List ℕ)) : Type 0 where
  places : List ℕ
  at : map (place_of (column_names (map captured_column columns))) key ≡ map Some places
  types : map (type_at (map captured_column columns)) places ≡ map captured_type (key_columns columns key)

found_key : (columns : List RawColumn) (key : List (List ℕ)) → AllByRecursion (λ column. IsSome column) (key_columns columns key) → IsFound columns key
found_key columns [] there = record { places = []; at = refl; types = refl }
found_key columns (name ∷ key) there =
    let here = placed_name columns name there.0 in
    let rest = found_key columns key there.1 in
    let place : place_of (column_names (map captured_column columns)) name ≡ Some here.0 = ap (λ (l : List (List ℕ)). place_of l name) (captured_names columns) ∙ here.1 in
    let ty : type_at (map captured_column columns) here.0 ≡ captured_type (column_named columns name) = type_placed columns here.0 ∙ ap captured_type (sym here.2) in
    record {
      places = here.0 ∷ rest.places;
      at = ap (λ (o : Option ℕ). o ∷ map (place_of (column_names (map captured_column columns))) key) place ∙ ap (λ (l : List (Option ℕ)). Some here.0 ∷ l) rest.at;
      types = ap (λ (t : PgType). t ∷ map (type_at (map captured_column columns)) rest.places) ty ∙ ap (λ (l : List PgType). captured_type (column_named columns name) ∷ l) rest.types;
    }

-- ---- a table in other columns

-- whether a table has these parts
record HasParts (info : TableInfo) (of_columns : List Column) (of_key : List ℕ) (of_name : TableName) : Type 0 where
  name : info.name ≡ of_name
  columns : info.columns ≡ of_columns
  key : info.key ≡ of_key

made_of : (info : TableInfo) (columns : List Column) (key : List ℕ) (name : TableName) (b : Bool) (sound : is_table name columns key ≡ b) → b ≡ true → HasParts (table_or info columns key name b sound) columns key name
made_of info columns key name true sound is = record { name = refl; columns = refl; key = refl }
made_of info columns key name false sound is = cc

not_made : (info : TableInfo) (columns : List Column) (key : List ℕ) (name : TableName) (b : Bool) (sound : is_table name columns key ≡ b) → b ≡ false → table_or info columns key name b sound ≡ info
not_made info columns key name true sound is = cc
not_made info columns key name false sound is = refl

-- whether other columns make a table with the table's key
abbrev makes : List RawColumn → TableInfo → Bool
makes columns info = is_table info.name (map captured_column columns) (places_of (map captured_column columns) (key_names info))

made : (columns : List RawColumn) (info : TableInfo) → makes columns info ≡ true → HasParts (reshaped columns info) (map captured_column columns) (places_of (map captured_column columns) (key_names info)) info.name
made columns info is = made_of info (map captured_column columns) (places_of (map captured_column columns) (key_names info)) info.name (makes columns info) (λ i. makes columns info) is

unmade : (columns : List RawColumn) (info : TableInfo) → makes columns info ≡ false → reshaped columns info ≡ info
unmade columns info is = not_made info (map captured_column columns) (places_of (map captured_column columns) (key_names info)) info.name (makes columns info) (λ i. makes columns info) is

makes_alike : (columns : List RawColumn) (a b : TableInfo) → a.name ≡ b.name → key_names a ≡ key_names b → makes columns a ≡ makes columns b
makes_alike columns a b names keys =
    ap (λ (n : TableName). is_table n (map captured_column columns) (places_of (map captured_column columns) (key_names a))) names
    ∙ ap (λ (l : List (List ℕ)). is_table b.name (map captured_column columns) (places_of (map captured_column columns) l)) keys

-- only the name and the key's names count
reshaped_one : (columns : List RawColumn) (a b : TableInfo) → a.name ≡ b.name → key_names a ≡ key_names b → makes columns a ≡ true → reshaped columns a ≡ reshaped columns b
reshaped_one columns a b names keys is =
    let one = made columns a is in
    let two = made columns b (sym (makes_alike columns a b names keys) ∙ is) in
    info_one (reshaped columns a) (reshaped columns b) (one.name ∙ (names ∙ sym two.name)) (one.columns ∙ sym two.columns)
    (one.key ∙ (ap (places_of (map captured_column columns)) keys ∙ sym two.key))

module _ (columns : List RawColumn) (info : TableInfo) (there : AllByRecursion (λ column. IsSome column) (key_columns columns (key_names info))) (types : map captured_type (key_columns columns (key_names info)) ≡ key_types info) where
  abbrev cols : List Column
  cols = map captured_column columns

  found : IsFound columns (key_names info)
  found = found_key columns (key_names info) there

  key_is : places_of cols (key_names info) ≡ found.places
  key_is = kept (place_of (column_names cols)) (key_names info) found.places found.at

  names_again : map (name_at cols) (places_of cols (key_names info)) ≡ key_names info
  names_again = ap (map (name_at cols)) key_is ∙ names_placed cols (key_names info) found.places found.at

  types_again : map (type_at cols) (places_of cols (key_names info)) ≡ key_types info
  types_again = ap (map (type_at cols)) key_is ∙ (found.types ∙ types)

  alike_or : (b : Bool) (sound : is_table info.name cols (places_of cols (key_names info)) ≡ b) → IsAlike info (table_or info cols (places_of cols (key_names info)) info.name b sound)
  alike_or true sound = record { name = refl; keys = sym names_again; types = sym types_again }
  alike_or false sound = record { name = refl; keys = refl; types = refl }

  pub alike_reshaped : IsAlike info (reshaped columns info)
  alike_reshaped = alike_or (makes columns info) (λ i. makes columns info)

  -- in the same columns again it stays as it is
  pub reshaped_again : reshaped columns (reshaped columns info) ≡ reshaped columns info
  reshaped_again = elim (bool_case (makes columns info)) [
    | inl is ↦ sym (reshaped_one columns info (reshaped columns info) alike_reshaped.name alike_reshaped.keys is)
    | inr not_it ↦ ap (reshaped columns) (unmade columns info not_it)
  ]

-- a table with its entry's key, in other columns that keep it
module _ (table : RawTable) (info : TableInfo) (has : HasKeyOf table info) (columns : List RawColumn) (keeps : KeepsKey table columns) where
  there_now : AllByRecursion (λ column. IsSome column) (key_columns columns table.key)
  there_now = subst (AllByRecursion (λ (column : Option RawColumn). IsSome column)) (sym keeps) has.there

  there_named : AllByRecursion (λ column. IsSome column) (key_columns columns (key_names info))
  there_named = subst (λ (l : List (List ℕ)). AllByRecursion (λ (column : Option RawColumn). IsSome column) (key_columns columns l)) has.key there_now

  types_now : map captured_type (key_columns columns table.key) ≡ key_types info
  types_now = ap (map captured_type) keeps ∙ has.types

  types_named : map captured_type (key_columns columns (key_names info)) ≡ key_types info
  types_named = ap (λ (l : List (List ℕ)). map captured_type (key_columns columns l)) (sym has.key) ∙ types_now

  pub alike_now : IsAlike info (reshaped columns info)
  alike_now = alike_reshaped columns info there_named types_named

  pub key_now : (version : ℕ) → HasKeyOf (record table { columns = columns; version = version }) (reshaped columns info)
  key_now version = record { name = has.name ∙ alike_now.name; key = has.key ∙ alike_now.keys; types = types_now ∙ alike_now.types; there = there_now }

  pub shape_now : (version : ℕ) → IsShapeOf (record table { columns = columns; version = version }) (reshaped columns info)
  shape_now version = record { key = key_now version; shape = reshaped_again columns info there_named types_named }

-- ---- names

name_same : (a b : TableName) → same_name a b ≡ true → a ≡ b
name_same a b is =
    ap (λ (s : List ℕ). let n : TableName = record { schema = s; name = a.name } in n) (same_text a.schema b.schema (and_left _ _ is))
    ∙ ap (λ (s : List ℕ). let n : TableName = record { schema = b.schema; name = s } in n) (same_text a.name b.name (and_right _ _ is))

name_itself : (a : TableName) → same_name a a ≡ true
name_itself a = rw (text_itself a.schema, text_itself a.name) refl

none_named : (infos : List TableInfo) (name : TableName) (k : ℕ) (b : TableInfo) → list_any (same_name name) (map (λ (info : TableInfo). info.name) infos) ≡ false → slice_get infos k ≡ Some b → name ≡ b.name → ⊥
none_named [] name k b none at is = cc
none_named (x ∷ infos) name zero b none at is =
    let same : x ≡ b = cc in
    true_false (sym (name_itself name) ∙ (ap (same_name name) (is ∙ ap (λ (y : TableInfo). y.name) (sym same)) ∙ (or_false (same_name name x.name) (list_any (same_name name) (map (λ (info : TableInfo). info.name) infos)) none).0))
none_named (x ∷ infos) name (suc k) b none at is = none_named infos name k b (or_false (same_name name x.name) (list_any (same_name name) (map (λ (info : TableInfo). info.name) infos)) none).1 at is

first_differs : (x : TableInfo) (infos : List TableInfo) (name : TableName) (k : ℕ) (b : TableInfo) → are_distinct same_name (map (λ (info : TableInfo). info.name) (x ∷ infos)) ≡ true → slice_get infos k ≡ Some b → same_name x.name name ≡ true → same_name b.name name ≡ true → ⊥
first_differs x infos name k b apart at is_x is_b =
    none_named infos x.name k b (not_true (list_any (same_name x.name) (map (λ (info : TableInfo). info.name) infos)) (and_left _ _ apart)) at (name_same x.name name is_x ∙ sym (name_same b.name name is_b))

-- the infos of one name are at one index
others_differ : (infos : List TableInfo) (name : TableName) (i j : ℕ) (a b : TableInfo) → are_distinct same_name (map (λ (info : TableInfo). info.name) infos) ≡ true → slice_get infos i ≡ Some a → slice_get infos j ≡ Some b → j ≢ i → same_name a.name name ≡ true → same_name b.name name ≡ true → ⊥
others_differ [] name i j a b apart at_a at_b other is_a is_b = cc
others_differ (x ∷ infos) name zero zero a b apart at_a at_b other is_a is_b = other refl
others_differ (x ∷ infos) name zero (suc j) a b apart at_a at_b other is_a is_b =
    let same : x ≡ a = cc in first_differs x infos name j b apart at_b (ap (λ (y : TableInfo). same_name y.name name) same ∙ is_a) is_b
others_differ (x ∷ infos) name (suc i) zero a b apart at_a at_b other is_a is_b =
    let same : x ≡ b = cc in first_differs x infos name i a apart at_a (ap (λ (y : TableInfo). same_name y.name name) same ∙ is_b) is_a
others_differ (x ∷ infos) name (suc i) (suc j) a b apart at_a at_b other is_a is_b =
    others_differ infos name i j a b (and_right (not (list_any (same_name x.name) (map (λ (info : TableInfo). info.name) infos))) _ apart) at_a at_b (λ e. other (ap suc e)) is_a is_b

-- ---- one commit

-- a captured table after an alteration
abbrev altered_info : TableName → List RawColumn → TableInfo → TableInfo
altered_info name columns info = if same_name info.name name then reshaped columns info else info

entry_named : (body : RawBody) (table : RawTable) → (entry_after body table).name ≡ table.name
entry_named (raw.Changes changes) table = refl
entry_named (raw.Mark value) table = refl
entry_named (raw.Alter name columns rows) table = by (same_name table.name name)
  where
    by : (b : Bool) → (if b then record table { columns = columns; version = table.version + 1 } else table).name ≡ table.name
    by true = refl
    by false = refl

entries_after : (body : RawBody) (tables : List RawTable) (name : TableName) → entry_in (map (entry_after body) tables) name ≡ option_map (entry_after body) (entry_in tables name)
entries_after body [] name = refl
entries_after body (t ∷ tables) name =
    ap (λ (n : TableName). if same_name n name then Some (entry_after body t) else entry_in (map (entry_after body) tables) name) (entry_named body t) ∙ by (same_name t.name name) (entries_after body tables name)
  where
    by : (b : Bool) → entry_in (map (entry_after body) tables) name ≡ option_map (entry_after body) (entry_in tables name)
        → (if b then Some (entry_after body t) else entry_in (map (entry_after body) tables) name) ≡ option_map (entry_after body) (if b then Some t else entry_in tables name)
    by true rest = refl
    by false rest = rest

-- one captured table by an alteration of it or of another
shape_by : (tables : List RawTable) (name : TableName) (columns : List RawColumn) (table : RawTable) (info : TableInfo) → entry_in tables info.name ≡ Some table → IsShapeOf table info → IsSomeAnd (entry_in tables name) (λ t. KeepsKey t columns)
    → IsShapeOf (if same_name table.name name then record table { columns = columns; version = table.version + 1 } else table) (altered_info name columns info)
shape_by tables name columns table info at shape keeps = by (same_name info.name name) refl
  where
    tabled : (b : Bool) → same_name info.name name ≡ b → same_name table.name name ≡ b
    tabled b is = ap (λ (n : TableName). same_name n name) shape.key.name ∙ is

    by : (b : Bool) → same_name info.name name ≡ b → IsShapeOf (if same_name table.name name then record table { columns = columns; version = table.version + 1 } else table) (altered_info name columns info)
    by true is =
        let found = some_and (entry_in tables name) (λ t. KeepsKey t columns) keeps in
        let one : Some found.0 ≡ Some table = sym found.1 ∙ (ap (entry_in tables) (sym (name_same info.name name is)) ∙ at) in
        let same : found.0 ≡ table = cc in
        subst (λ (b : Bool). IsShapeOf (if b then record table { columns = columns; version = table.version + 1 } else table) (altered_info name columns info)) (sym (tabled true is))
        (subst (λ (b : Bool). IsShapeOf (record table { columns = columns; version = table.version + 1 }) (if b then reshaped columns info else info)) (sym is)
        (shape_now table info shape.key columns (subst (λ (t : RawTable). KeepsKey t columns) same found.2) (table.version + 1)))
    by false is =
        subst (λ (b : Bool). IsShapeOf (if b then record table { columns = columns; version = table.version + 1 } else table) (altered_info name columns info)) (sym (tabled false is))
        (subst (λ (b : Bool). IsShapeOf table (if b then reshaped columns info else info)) (sym is) shape)

altered_name : (name : TableName) (columns : List RawColumn) (tables : List RawTable) (table : RawTable) (info : TableInfo) → entry_in tables info.name ≡ Some table → IsShapeOf table info → IsSomeAnd (entry_in tables name) (λ t. KeepsKey t columns)
    → IsAlike info (altered_info name columns info)
altered_name name columns tables table info at shape keeps = by (same_name info.name name) refl
  where
    by : (b : Bool) → same_name info.name name ≡ b → IsAlike info (altered_info name columns info)
    by true is =
        let found = some_and (entry_in tables name) (λ t. KeepsKey t columns) keeps in
        let one : Some found.0 ≡ Some table = sym found.1 ∙ (ap (entry_in tables) (sym (name_same info.name name is)) ∙ at) in
        let same : found.0 ≡ table = cc in
        subst (λ (b : Bool). IsAlike info (if b then reshaped columns info else info)) (sym is)
        (alike_now table info shape.key columns (subst (λ (t : RawTable). KeepsKey t columns) same found.2))
    by false is = subst (λ (b : Bool). IsAlike info (if b then reshaped columns info else info)) (sym is) (record { name = refl; keys = refl; types = refl })

-- the captured tables by one commit
shapes_by : (tables : List RawTable) (body : RawBody) (infos : List TableInfo) → AreShapesOf tables infos → KeepsKeyOf tables body → AreShapesOf (map (entry_after body) tables) (infos_by body infos)
shapes_by tables (raw.Changes changes) infos shapes keeps = same_entries infos shapes
  where
    same_entries : (rest : List TableInfo) → AreShapesOf tables rest → AreShapesOf (map (entry_after (raw.Changes changes)) tables) rest
    same_entries [] each = tt
    same_entries (info ∷ rest) each =
        let found = some_and (entry_in tables info.name) (λ table. IsShapeOf table info) each.0 in (
          subst (λ (o : Option RawTable). IsSomeAnd o (λ table. IsShapeOf table info)) (sym (entries_after (raw.Changes changes) tables info.name ∙ ap (option_map (entry_after (raw.Changes changes))) found.1)) found.2,
          same_entries rest each.1,
        )
shapes_by tables (raw.Mark value) infos shapes keeps = same_entries infos shapes
  where
    same_entries : (rest : List TableInfo) → AreShapesOf tables rest → AreShapesOf (map (entry_after (raw.Mark value)) tables) rest
    same_entries [] each = tt
    same_entries (info ∷ rest) each =
        let found = some_and (entry_in tables info.name) (λ table. IsShapeOf table info) each.0 in (
          subst (λ (o : Option RawTable). IsSomeAnd o (λ table. IsShapeOf table info)) (sym (entries_after (raw.Mark value) tables info.name ∙ ap (option_map (entry_after (raw.Mark value))) found.1)) found.2,
          same_entries rest each.1,
        )
shapes_by tables (raw.Alter name columns rows) infos shapes keeps = all_altered infos shapes
  where
    all_altered : (rest : List TableInfo) → AreShapesOf tables rest → AreShapesOf (map (entry_after (raw.Alter name columns rows)) tables) (map (altered_info name columns) rest)
    all_altered [] each = tt
    all_altered (info ∷ rest) each =
        let found = some_and (entry_in tables info.name) (λ table. IsShapeOf table info) each.0 in
        let named : info.name ≡ (altered_info name columns info).name = (altered_name name columns tables found.0 info found.1 found.2 keeps).name in
        let entry : entry_in (map (entry_after (raw.Alter name columns rows)) tables) (altered_info name columns info).name ≡ Some (entry_after (raw.Alter name columns rows) found.0) =
        ap (entry_in (map (entry_after (raw.Alter name columns rows)) tables)) (sym named)
        ∙ (entries_after (raw.Alter name columns rows) tables info.name ∙ ap (option_map (entry_after (raw.Alter name columns rows))) found.1) in (
          subst (λ (o : Option RawTable). IsSomeAnd o (λ table. IsShapeOf table (altered_info name columns info))) (sym entry) (shape_by tables name columns found.0 info found.1 found.2 keeps),
          all_altered rest each.1,
        )

names_by : (tables : List RawTable) (body : RawBody) (infos : List TableInfo) → AreShapesOf tables infos → KeepsKeyOf tables body → map (λ (info : TableInfo). info.name) (infos_by body infos) ≡ map (λ (info : TableInfo). info.name) infos
names_by tables (raw.Changes changes) infos shapes keeps = refl
names_by tables (raw.Mark value) infos shapes keeps = refl
names_by tables (raw.Alter name columns rows) infos shapes keeps = each infos shapes
  where
    each : (rest : List TableInfo) → AreShapesOf tables rest → map (λ (info : TableInfo). info.name) (map (altered_info name columns) rest) ≡ map (λ (info : TableInfo). info.name) rest
    each [] all = refl
    each (info ∷ rest) all =
        let found = some_and (entry_in tables info.name) (λ table. IsShapeOf table info) all.0 in
        ap (λ (n : TableName). n ∷ map (λ (i : TableInfo). i.name) (map (altered_info name columns) rest)) (sym (altered_name name columns tables found.0 info found.1 found.2 keeps).name)
        ∙ ap (λ (l : List TableName). info.name ∷ l) (each rest all.1)

-- ---- what follows what

-- no captured table has this name
none_number : (infos : List TableInfo) (name : TableName) (columns : List RawColumn) (n : ℕ) → position_from (λ (info : TableInfo). same_name info.name name) n infos ≡ None → map (altered_info name columns) infos ≡ infos
none_number [] name columns n none = refl
none_number (info ∷ infos) name columns n none = by (same_name info.name name) refl none (none_number infos name columns (n + 1))
  where
    by : (b : Bool) → same_name info.name name ≡ b → (if b then Some n else position_from (λ (i : TableInfo). same_name i.name name) (n + 1) infos) ≡ None
        → (position_from (λ (i : TableInfo). same_name i.name name) (n + 1) infos ≡ None → map (altered_info name columns) infos ≡ infos)
        → map (altered_info name columns) (info ∷ infos) ≡ info ∷ infos
    by true is absent rest = cc
    by false is absent rest =
        ap (λ (b : Bool). (if b then reshaped columns info else info) ∷ map (altered_info name columns) infos) is
        ∙ ap (λ (l : List TableInfo). info ∷ l) (rest absent)

shape_at : (tables : List RawTable) (infos : List TableInfo) (i : ℕ) (info : TableInfo) → AreShapesOf tables infos → slice_get infos i ≡ Some info → IsSomeAnd (entry_in tables info.name) (λ table. IsShapeOf table info)
shape_at tables [] i info shapes at = cc
shape_at tables (x ∷ infos) zero info shapes at =
    let same : x ≡ info = cc in
    subst (λ (y : TableInfo). IsSomeAnd (entry_in tables y.name) (λ table. IsShapeOf table y)) same shapes.0
shape_at tables (x ∷ infos) (suc i) info shapes at = shape_at tables infos i info shapes.1 at

module _ (tables : List RawTable) (infos : List TableInfo) (name : TableName) (columns : List RawColumn) (shapes : AreShapesOf tables infos) (apart : are_distinct same_name (map (λ (info : TableInfo). info.name) infos) ≡ true) (keeps : IsSomeAnd (entry_in tables name) (λ t. KeepsKey t columns)) where
  numbers : (xs ys : List TableInfo) (n : ℕ) → map (λ (info : TableInfo). info.name) xs ≡ map (λ (info : TableInfo). info.name) ys → position_from (λ (info : TableInfo). same_name info.name name) n xs ≡ position_from (λ (info : TableInfo). same_name info.name name) n ys
  numbers [] [] n names = refl
  numbers [] (y ∷ ys) n names = cc
  numbers (x ∷ xs) [] n names = cc
  numbers (x ∷ xs) (y ∷ ys) n names =
      let first : x.name ≡ y.name = cc in
      let rest : map (λ (info : TableInfo). info.name) xs ≡ map (λ (info : TableInfo). info.name) ys = cc in
      ap (λ (m : TableName). if same_name m name then Some n else position_from (λ (info : TableInfo). same_name info.name name) (n + 1) xs) first
      ∙ ap (λ (o : Option ℕ). if same_name y.name name then Some n else o) (numbers xs ys (n + 1) rest)

  -- the index is that among the tables before, as names stay
  same_number : number_of (map (altered_info name columns) infos) name ≡ number_of infos name
  same_number = numbers (map (altered_info name columns) infos) infos 0 (names_by tables (raw.Alter name columns []) infos shapes keeps)

  unchanged : (table other : ℕ) → other ≢ table → (a : TableInfo) → slice_get infos table ≡ Some a → same_name a.name name ≡ true → (o : Option TableInfo) → slice_get infos other ≡ o → option_map (altered_info name columns) o ≡ o
  unchanged table other differs a at_a is_a None at_other = refl
  unchanged table other differs a at_a is_a (Some b) at_other = elim (bool_case (same_name b.name name)) [
    | inl named ↦ absurd (others_differ infos name table other a b apart at_a at_other differs is_a named)
    | inr not_it ↦ ap (λ (c : Bool). Some (if c then reshaped columns b else b)) not_it
  ]

  follows_alter : (v : Versioned) → v.infos ≡ map (altered_info name columns) infos → v.body ≡ Changes [] → (rows : List RawRow) (o : Option ℕ) → number_of (map (altered_info name columns) infos) name ≡ o
      → FollowsInfos infos v (option_map (λ table. record { table = table; rows = rows }) o)
  follows_alter v now silent rows None is = now ∙ none_number infos name columns 0 (sym same_number ∙ is)
  follows_alter v now silent rows (Some table) is =
      let found = position_from-at (λ (info : TableInfo). same_name info.name name) 0 infos table (sym same_number ∙ is) in
      let place : table ≡ found.0 = omega (arith, found.1) in
      let at : slice_get infos table ≡ Some found.2.0 = ap (slice_get infos) place ∙ found.2.1 in
      let shape = some_and (entry_in tables found.2.0.name) (λ t. IsShapeOf t found.2.0) (shape_at tables infos table found.2.0 shapes at) in
      record {
        before = found.2.0;
        was = at;
        info = altered_info name columns found.2.0;
        is = ap (λ (l : List TableInfo). slice_get l table) now ∙ (slice_get-map (altered_info name columns) infos table ∙ ap (option_map (altered_info name columns)) at);
        alike = altered_name name columns tables shape.0 found.2.0 shape.1 shape.2 keeps;
        others = λ other differs. ap (λ (l : List TableInfo). slice_get l other) now
            ∙ (slice_get-map (altered_info name columns) infos other ∙ unchanged table other differs found.2.0 at found.2.2 (slice_get infos other) refl);
        silent = silent;
      }

follows_by : (tables : List RawTable) (infos : List TableInfo) (commit : RawCommit) (body : RawBody) → commit.body ≡ body → AreShapesOf tables infos → are_distinct same_name (map (λ (info : TableInfo). info.name) infos) ≡ true → KeepsKeyOf tables body
    → FollowsInfos infos (versioned_commit (infos_by commit.body infos) commit) (alteration_in (infos_by commit.body infos) commit.body)
follows_by tables infos commit (raw.Changes changes) is shapes apart keeps =
    subst (λ (b : RawBody). FollowsInfos infos (versioned_commit (infos_by b infos) (record commit { body = b })) (alteration_in (infos_by b infos) b)) (sym is) refl
follows_by tables infos commit (raw.Mark value) is shapes apart keeps =
    subst (λ (b : RawBody). FollowsInfos infos (versioned_commit (infos_by b infos) (record commit { body = b })) (alteration_in (infos_by b infos) b)) (sym is) refl
follows_by tables infos commit (raw.Alter name columns rows) is shapes apart keeps =
    subst (λ (b : RawBody). FollowsInfos infos (versioned_commit (infos_by b infos) (record commit { body = b })) (alteration_in (infos_by b infos) b)) (sym is)
    (follows_alter tables infos name columns shapes apart keeps (versioned_commit (map (altered_info name columns) infos) (record commit { body = raw.Alter name columns rows })) refl refl rows (number_of (map (altered_info name columns) infos) name) refl)

follow_from : (tables : List RawTable) (infos : List TableInfo) (commits : List RawCommit) → AreShapesOf tables infos → are_distinct same_name (map (λ (info : TableInfo). info.name) infos) ≡ true → KeepKeys tables commits → AreVersionsFrom infos (versioned_from infos commits)
follow_from tables infos [] shapes apart keeps = tt
follow_from tables infos (commit ∷ commits) shapes apart keeps = (
  follows_by tables infos commit commit.body refl shapes apart keeps.0,
  follow_from (map (entry_after commit.body) tables) (infos_by commit.body infos) commits (shapes_by tables commit.body infos shapes keeps.0)
      (ap (are_distinct same_name) (names_by tables commit.body infos shapes keeps.0) ∙ apart) keeps.1,
)

-- ---- before all commits

itself_keeps : (table : RawTable) → KeepsKey table table.columns
itself_keeps table = refl

opened_one : (table : RawTable) (info : TableInfo) → HasKeyOf table info → IsShapeOf table (reshaped table.columns info)
opened_one table info has = shape_now table info has table.columns refl table.version

opened_shapes : (history : History) (infos : List TableInfo) → AllByRecursion (λ info. IsSomeAnd (entry_of history info.name) (λ table. HasKeyOf table info)) infos
    → AreShapesOf history.tables (opening_infos history infos) × (map (λ (info : TableInfo). info.name) (opening_infos history infos) ≡ map (λ (info : TableInfo). info.name) infos)
opened_shapes history [] each = (tt, refl)
opened_shapes history (info ∷ infos) each =
    let found = some_and (entry_of history info.name) (λ table. HasKeyOf table info) each.0 in
    let rest = opened_shapes history infos each.1 in
    let here : unwrap_or (option_map (λ table. reshaped table.columns info) (entry_of history info.name)) info ≡ reshaped found.0.columns info =
    ap (λ (o : Option RawTable). unwrap_or (option_map (λ table. reshaped table.columns info) o) info) found.1 in
    let named : info.name ≡ (reshaped found.0.columns info).name = (alike_now found.0 info found.2 found.0.columns refl).name in
    let entry : entry_in history.tables (reshaped found.0.columns info).name ≡ Some found.0 = ap (entry_in history.tables) (sym named) ∙ found.1 in (
      (
        subst (λ (i : TableInfo). IsSomeAnd (entry_in history.tables i.name) (λ table. IsShapeOf table i)) (sym here)
            (subst (λ (o : Option RawTable). IsSomeAnd o (λ table. IsShapeOf table (reshaped found.0.columns info))) (sym entry) (opened_one found.0 info found.2)),
        rest.0,
      ),
      ap (λ (i : TableInfo). i.name ∷ map (λ (x : TableInfo). x.name) (opening_infos history infos)) here
          ∙ (ap (λ (n : TableName). n ∷ map (λ (x : TableInfo). x.name) (opening_infos history infos)) (sym named) ∙ ap (λ (l : List TableName). info.name ∷ l) rest.1),
    )

pub versions_follow : VersionsFollow
versions_follow history infos have keeps =
    let opened = opened_shapes history infos have.each in
    follow_from history.tables (opening_infos history infos) history.commits opened.0 (ap (are_distinct same_name) opened.1 ∙ have.distinct) keeps

-- ---- in force

shapes_from : (tables : List RawTable) (infos : List TableInfo) (commits : List RawCommit) (place : ℕ) (v : Versioned) → AreShapesOf tables infos → KeepKeys tables commits → slice_get (versioned_from infos commits) place ≡ Some v
    → AreShapesOf (fold (λ (ts : List RawTable) (commit : RawCommit). map (entry_after commit.body) ts) tables (take (suc place) commits)) v.infos
shapes_from tables infos [] place v shapes keeps at = cc
shapes_from tables infos (commit ∷ commits) zero v shapes keeps at =
    let same : versioned_commit (infos_by commit.body infos) commit ≡ v = cc in
    subst (λ (w : Versioned). AreShapesOf (map (entry_after commit.body) tables) w.infos) same (shapes_by tables commit.body infos shapes keeps.0)
shapes_from tables infos (commit ∷ commits) (suc place) v shapes keeps at =
    shapes_from (map (entry_after commit.body) tables) (infos_by commit.body infos) commits place v (shapes_by tables commit.body infos shapes keeps.0) keeps.1 at

pub shapes_in_force : ShapesAreInForce
shapes_in_force history infos place v have keeps at =
    let next : suc place ≡ place + 1 = omega arith in
    subst (λ (n : ℕ). AreShapesOf (catalogue_at history n) v.infos) next
    (shapes_from history.tables (opening_infos history infos) history.commits place v (opened_shapes history infos have.each).0 keeps at)

entries_from : (tables : List RawTable) (commits : List RawCommit) (place : ℕ) (name : TableName)
    → entry_in (fold (λ (ts : List RawTable) (commit : RawCommit). map (entry_after commit.body) ts) tables (take place commits)) name
    ≡ option_map (λ table. fold (λ entry commit. entry_after commit.body entry) table (take place commits)) (entry_in tables name)
entries_from tables commits zero name = by (entry_in tables name)
  where
    by : (o : Option RawTable) → o ≡ option_map (λ table. table) o
    by None = refl
    by (Some table) = refl
entries_from tables [] (suc place) name = by (entry_in tables name)
  where
    by : (o : Option RawTable) → o ≡ option_map (λ table. table) o
    by None = refl
    by (Some table) = refl
entries_from tables (c ∷ commits) (suc place) name =
    entries_from (map (entry_after c.body) tables) commits place name
    ∙ (ap (option_map (λ table. fold (λ entry commit. entry_after commit.body entry) table (take place commits))) (entries_after c.body tables name) ∙ by (entry_in tables name))
  where
    by : (o : Option RawTable) → option_map (λ table. fold (λ entry commit. entry_after commit.body entry) table (take place commits)) (option_map (entry_after c.body) o)
        ≡ option_map (λ table. fold (λ entry commit. entry_after commit.body entry) (entry_after c.body table) (take place commits)) o
    by None = refl
    by (Some table) = refl

pub entries_in_force : EntriesAreInForce
entries_in_force history place name = entries_from history.tables history.commits place name

-- ---- descriptions

-- the key's columns among those of an entry
raw_at : (columns : List Column) (place : ℕ) → are_typed columns ≡ true → place < length columns
    → IsSome (slice_get (map raw_column columns) place) × (captured_type (slice_get (map raw_column columns) place) ≡ type_at columns place)
raw_at [] place typed lt = absurd (omega (arith, lt))
raw_at (c ∷ columns) zero typed lt = (refl, ap (λ (x : Column). x.ty) (column_again c (and_left (is_column_type c.ty) _ typed)))
raw_at (c ∷ columns) (suc place) typed lt = raw_at columns place (and_right (is_column_type c.ty) _ typed) (omega (arith, lt))

named_again : (columns : List Column) (place : ℕ) → are_distinct bytes_eq (column_names columns) ≡ true → nat_lt place (length columns) ≡ true → column_named (map raw_column columns) (name_at columns place) ≡ slice_get (map raw_column columns) place
named_again columns place apart lt =
    let again = places_again columns (place ∷ []) apart (ap (λ (b : Bool). b && true) lt) in
    let first : place_of (column_names columns) (name_at columns place) ≡ Some place = cc in
    ap (option_and_then (slice_get (map raw_column columns))) (ap (λ (l : List (List ℕ)). place_of l (name_at columns place)) (sym (names_made columns (map raw_column columns) refl)) ∙ first)

key_columns_of : (columns : List Column) (places : List ℕ) → are_distinct bytes_eq (column_names columns) ≡ true → are_typed columns ≡ true → list_all (λ place. nat_lt place (length columns)) places ≡ true
    → (map captured_type (key_columns (map raw_column columns) (map (name_at columns) places)) ≡ map (type_at columns) places) × AllByRecursion (λ column. IsSome column) (key_columns (map raw_column columns) (map (name_at columns) places))
key_columns_of columns [] apart typed within = (refl, tt)
key_columns_of columns (place ∷ places) apart typed within =
    let lt : nat_lt place (length columns) ≡ true = and_left _ _ within in
    let here = raw_at columns place typed ((Decides-ltb place (length columns)).0 lt) in
    let named = named_again columns place apart lt in
    let rest = key_columns_of columns places apart typed (and_right (nat_lt place (length columns)) _ within) in (
      ap (λ (o : Option RawColumn). captured_type o ∷ map captured_type (key_columns (map raw_column columns) (map (name_at columns) places))) named
          ∙ (ap (λ (t : PgType). t ∷ map captured_type (key_columns (map raw_column columns) (map (name_at columns) places))) here.1 ∙ ap (λ (l : List PgType). type_at columns place ∷ l) rest.0),
      (subst (λ (o : Option RawColumn). IsSome o) (sym named) here.0, rest.1),
    )

described_key : (table : RawTable) (info : TableInfo) → IsInfoOf table info → HasKeyOf table info
described_key table info is =
    let own = key_columns_of info.columns info.key (distinct_columns info) (typed_columns info) (places_within info) in
    let key : table.key ≡ key_names info = sym (ap (λ (r : RawTable). r.key) is) in
    let columns : table.columns ≡ map raw_column info.columns = sym (ap (λ (r : RawTable). r.columns) is) in
    let both : key_columns table.columns table.key ≡ key_columns (map raw_column info.columns) (key_names info) =
    ap (λ (l : List RawColumn). key_columns l table.key) columns ∙ ap (key_columns (map raw_column info.columns)) key in
    record {
      name = sym (ap (λ (r : RawTable). r.name) is);
      key = key;
      types = ap (map captured_type) both ∙ own.0;
      there = subst (AllByRecursion (λ (column : Option RawColumn). IsSome column)) (sym both) own.1;
    }

infos_keyed : (history : History) (infos : List TableInfo) → AllByRecursion (λ info. IsSomeAnd (entry_of history info.name) (λ table. IsInfoOf table info)) infos
    → AllByRecursion (λ info. IsSomeAnd (entry_of history info.name) (λ table. HasKeyOf table info)) infos
infos_keyed history [] each = tt
infos_keyed history (info ∷ infos) each =
    let found = some_and (entry_of history info.name) (λ table. IsInfoOf table info) each.0 in (
      subst (λ (o : Option RawTable). IsSomeAnd o (λ table. HasKeyOf table info)) (sym found.1) (described_key found.0 info found.2),
      infos_keyed history infos each.1,
    )

pub infos_have_keys : InfosHaveKeys
infos_have_keys history infos captured = record { distinct = captured.distinct; each = infos_keyed history infos captured.each }

pub shapes_described : ShapesAreDescriptions
shapes_described table info shape none =
    let described = (capturable table).0 none in
    let other : TableInfo = described.0 in
    let is : catalogue_of other ≡ record table { version = 1 } = described.1 in
    let names : other.name ≡ info.name = ap (λ (r : RawTable). r.name) is ∙ shape.key.name in
    let keys : key_names other ≡ key_names info = ap (λ (r : RawTable). r.key) is ∙ shape.key.key in
    let columns_are : map captured_column table.columns ≡ other.columns = ap (map captured_column) (sym (ap (λ (r : RawTable). r.columns) is)) ∙ columns_again other.columns (typed_columns other) in
    let key_is : places_of (map captured_column table.columns) (key_names other) ≡ other.key =
    ap (λ (l : List Column). places_of l (key_names other)) columns_are
    ∙ kept (place_of (column_names other.columns)) (key_names other) other.key (places_again other.columns other.key (distinct_columns other) (places_within other)) in
    let whole : makes table.columns other ≡ true =
    ap (is_table other.name (map captured_column table.columns)) key_is ∙ (ap (λ (l : List Column). is_table other.name l other.key) columns_are ∙ other.sound) in
    let one : info ≡ other = sym shape.shape ∙ (sym (reshaped_one table.columns other info names keys whole) ∙ reshaped_itself table other is) in
    subst (IsInfoOf table) (sym one) is
