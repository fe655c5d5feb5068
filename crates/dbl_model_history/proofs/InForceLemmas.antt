-- Histories without alterations have one entry and one description of each table.
use Rattle.std.proofs.Common.{◌≡◌, ◌∙◌, ℕ, zero, suc, Bool, true, false, List, [], ◌∷◌, Option, Some, None, map, take, fold, refl, sym, ap, ap₂, subst}
use Rattle.std.specs.Prelude.{IsSomeAnd, option_map, unwrap_or, filter_map}
use Rattle.std.specs.List.{AllByRecursion, cons_option}
use Rattle.dbl_value_types.specs.declared.column_type.PgType.{PgType}
use Rattle.dbl_value_types.specs.declared.column_type.PgType.TheVariants as type
use Rattle.dbl_value_types.specs.Values.{oid_of, type_of, is_column_type}
use Rattle.dbl_value_types.proofs.TypeLemmas.{type_of-oid_of}
use Rattle.dbl_model_table.specs.declared.table.Column.{Column}
use Rattle.dbl_model_table.specs.declared.table.RawTable.{RawTable}
use Rattle.dbl_model_table.specs.declared.table.TableInfo.{TableInfo}
use Rattle.dbl_model_table.specs.declared.change.Commit.{Commit}
use Rattle.dbl_model_table.specs.Tables.{column_names, are_typed, is_table}
use Rattle.dbl_model_table.specs.Made.{place_of}
use Rattle.dbl_model_table.specs.Infos.{raw_column, key_names, IsInfoOf}
use Rattle.dbl_model_table.proofs.Capturable.{places_again}
use Rattle.dbl_model_table.proofs.InfoLemmas.{distinct_columns, typed_columns, places_within, info_one}
use Rattle.dbl_model_table.proofs.Lists.{and_left, and_right}
use Rattle.dbl_model_history.specs.History.{RawBody, RawCommit, History, entry_of}
use Rattle.dbl_model_history.specs.History as raw
use Rattle.dbl_model_history.specs.Typed.{typed_commit}
use Rattle.dbl_model_history.specs.Fit.{AltersNone}
use Rattle.dbl_model_history.specs.InForce.{entry_after, captured_column, places_of, table_or, reshaped, plain_commit, infos_by, alteration_in, versioned_commit, versioned_from, opening_infos, UnalteredEntriesStay, PlainVersionsAreTyped}
use Rattle.dbl_model_history.proofs.RowKeys.{some_and}

-- ---- entries

entry_stays : (body : RawBody) (table : RawTable) → AltersNone body → entry_after body table ≡ table
entry_stays (raw.Changes changes) table none = refl
entry_stays (raw.Mark value) table none = refl
entry_stays (raw.Alter name columns rows) table none = absurd none

entries_stay : (commits : List RawCommit) (place : ℕ) (table : RawTable) → AllByRecursion (λ commit. AltersNone commit.body) commits → fold (λ entry commit. entry_after commit.body entry) table (take place commits) ≡ table
entries_stay commits zero table none = refl
entries_stay [] (suc place) table none = refl
entries_stay (c ∷ commits) (suc place) table none =
    ap (λ (t : RawTable). fold (λ entry commit. entry_after commit.body entry) t (take place commits)) (entry_stays c.body table none.0) ∙ entries_stay commits place table none.1

pub unaltered_entries : UnalteredEntriesStay
unaltered_entries history place name none = by (entry_of history name)
  where
    by : (o : Option RawTable) → option_map (λ table. fold (λ entry commit. entry_after commit.body entry) table (take place history.commits)) o ≡ o
    by None = refl
    by (Some table) = ap (λ (t : RawTable). Some t) (entries_stay history.commits place table none)

-- ---- a table in its own columns

pub column_again : (column : Column) → is_column_type column.ty ≡ true → captured_column (raw_column column) ≡ column
column_again column typed =
    let ty : unwrap_or (type_of (oid_of column.ty)) type.Text ≡ column.ty = ap (λ (o : Option PgType). unwrap_or o type.Text) (type_of-oid_of column.ty typed) in
    λ i. record { name = column.name; ty = ty i }

pub columns_again : (columns : List Column) → are_typed columns ≡ true → map captured_column (map raw_column columns) ≡ columns
columns_again [] typed = refl
columns_again (c ∷ columns) typed =
    ap₂ (λ (x : Column) (l : List Column). x ∷ l) (column_again c (and_left (is_column_type c.ty) _ typed)) (columns_again columns (and_right (is_column_type c.ty) _ typed))

pub kept : (f : List ℕ → Option ℕ) (names : List (List ℕ)) (places : List ℕ) → map f names ≡ map Some places → filter_map f names ≡ places
kept f [] [] is = refl
kept f [] (place ∷ places) is = cc
kept f (name ∷ names) [] is = cc
kept f (name ∷ names) (place ∷ places) is =
    let first : f name ≡ Some place = cc in
    let rest : map f names ≡ map Some places = cc in
    ap (λ (o : Option ℕ). cons_option o (filter_map f names)) first ∙ ap (λ (l : List ℕ). place ∷ l) (kept f names places rest)

table_again : (info : TableInfo) (columns : List Column) (key : List ℕ) (b : Bool) (sound : is_table info.name columns key ≡ b) → columns ≡ info.columns → key ≡ info.key → table_or info columns key info.name b sound ≡ info
table_again info columns key false sound columns_are key_is = refl
table_again info columns key true sound columns_are key_is =
    let made : TableInfo = record { name = info.name; columns = columns; key = key; sound = sound } in
    info_one made info refl columns_are key_is

pub reshaped_itself : (table : RawTable) (info : TableInfo) → IsInfoOf table info → reshaped table.columns info ≡ info
reshaped_itself table info is =
    let raw_is : map raw_column info.columns ≡ table.columns = ap (λ (r : RawTable). r.columns) is in
    let columns_are : map captured_column table.columns ≡ info.columns = ap (map captured_column) (sym raw_is) ∙ columns_again info.columns (typed_columns info) in
    let key_is : places_of (map captured_column table.columns) (key_names info) ≡ info.key =
    ap (λ (l : List Column). places_of l (key_names info)) columns_are
    ∙ kept (place_of (column_names info.columns)) (key_names info) info.key (places_again info.columns info.key (distinct_columns info) (places_within info)) in
    table_again info (map captured_column table.columns) (places_of (map captured_column table.columns) (key_names info))
    (is_table info.name (map captured_column table.columns) (places_of (map captured_column table.columns) (key_names info))) (λ i. is_table info.name (map captured_column table.columns) (places_of (map captured_column table.columns) (key_names info))) columns_are key_is

-- ---- commits

opened : (history : History) (infos : List TableInfo) → AllByRecursion (λ info. IsSomeAnd (entry_of history info.name) (λ table. IsInfoOf table info)) infos → opening_infos history infos ≡ infos
opened history [] each = refl
opened history (info ∷ infos) each =
    let found = some_and (entry_of history info.name) (λ table. IsInfoOf table info) each.0 in
    let here : unwrap_or (option_map (λ table. reshaped table.columns info) (entry_of history info.name)) info ≡ info =
    ap (λ (o : Option RawTable). unwrap_or (option_map (λ table. reshaped table.columns info) o) info) found.1 ∙ reshaped_itself found.0 info found.2 in
    ap₂ (λ (x : TableInfo) (l : List TableInfo). x ∷ l) here (opened history infos each.1)

infos_stay : (body : RawBody) (infos : List TableInfo) → AltersNone body → infos_by body infos ≡ infos
infos_stay (raw.Changes changes) infos none = refl
infos_stay (raw.Mark value) infos none = refl
infos_stay (raw.Alter name columns rows) infos none = absurd none

none_altered : (body : RawBody) (infos : List TableInfo) → AltersNone body → alteration_in infos body ≡ None
none_altered (raw.Changes changes) infos none = refl
none_altered (raw.Mark value) infos none = refl
none_altered (raw.Alter name columns rows) infos none = absurd none

plain_from : (infos : List TableInfo) (commits : List RawCommit) → AllByRecursion (λ commit. AltersNone commit.body) commits → map plain_commit (versioned_from infos commits) ≡ map (typed_commit infos) commits
plain_from infos [] none = refl
plain_from infos (c ∷ commits) none =
    ap (λ (l : List TableInfo). plain_commit (versioned_commit l c) ∷ map plain_commit (versioned_from l commits)) (infos_stay c.body infos none.0)
    ∙ ap (λ (l : List Commit). typed_commit infos c ∷ l) (plain_from infos commits none.1)

each_from : (infos : List TableInfo) (commits : List RawCommit) → AllByRecursion (λ commit. AltersNone commit.body) commits → AllByRecursion (λ v. (v.infos ≡ infos) × (v.altered ≡ None)) (versioned_from infos commits)
each_from infos [] none = tt
each_from infos (c ∷ commits) none =
    subst (λ (l : List TableInfo). AllByRecursion (λ v. (v.infos ≡ infos) × (v.altered ≡ None)) (versioned_commit l c ∷ versioned_from l commits)) (sym (infos_stay c.body infos none.0))
    ((refl, none_altered c.body infos none.0), each_from infos commits none.1)

pub plain_versions : PlainVersionsAreTyped
plain_versions infos history captured none =
    let opening : opening_infos history infos ≡ infos = opened history infos captured.each in (
      ap (λ (l : List TableInfo). map plain_commit (versioned_from l history.commits)) opening ∙ plain_from infos history.commits none,
      subst (λ (l : List TableInfo). AllByRecursion (λ v. (v.infos ≡ infos) × (v.altered ≡ None)) (versioned_from l history.commits)) (sym opening) (each_from infos history.commits none),
    )
