-- The readable changes of a fit history fit what is captured.
use Rattle.std.proofs.Common.{◌≡◌, ◌∙◌, ℕ, ◌⊎◌, inl, inr, Option, Some, None, List, [], ◌∷◌, ◌++◌, length, map, refl, sym, ap, subst, arith}
use Rattle.std.specs.Prelude.{IfSome, IsSome, IsSomeAnd, option_map, unwrap_or, slice_get}
use Rattle.std.specs.List.{AllByRecursion}
use Rattle.std.specs.Str.{IsUtf8}
use Rattle.std.proofs.lemmas.List.{length-map}
use Rattle.dbl_value_types.specs.declared.column_type.PgType.{PgType}
use Rattle.dbl_value_types.specs.declared.value.Val.{Val}
use Rattle.dbl_value_types.specs.declared.value.Val.TheVariants as val
use Rattle.dbl_value_types.specs.Values.{value_of, IsCellOf}
use Rattle.dbl_model_table.specs.declared.row.Key.{Key}
use Rattle.dbl_model_table.specs.declared.row.Row.{Row}
use Rattle.dbl_model_table.specs.declared.table.TableInfo.{TableInfo}
use Rattle.dbl_model_table.specs.declared.change.Cell.{Cell}
use Rattle.dbl_model_table.specs.declared.change.Change.{Change}
use Rattle.dbl_model_table.specs.declared.change.Change.TheVariants.{Insert, Update, Delete, Clear}
use Rattle.dbl_model_table.specs.Infos.{column_types, number_of, width}
use Rattle.dbl_model_table.specs.Keys.{new_key_of}
use Rattle.dbl_model_table.specs.Rows.{Rows, no_rows, rows_after, all_given, changes_of, all_changes}
use Rattle.dbl_model_history.specs.History.{RawCell, RawChange, RawBody, RawCommit, History, raw_changes_of}
use Rattle.dbl_model_history.specs.History as raw
use Rattle.dbl_model_history.specs.Ranges.{AreTextsInRange, IsRawCellInRange, IsRawChangeInRange, IsRawBodyInRange, IsRawCommitInRange}
use Rattle.dbl_model_history.specs.Typed.{typed_cell, typed_cells, typed_update, types_of, typed_key, typed_row, typed_change, typed_body, typed_commit, typed}
use Rattle.dbl_model_history.specs.Fit.{IsFitInsert, IsFitUpdate, IsFitDelete, IsFit, AreFit}
use Rattle.dbl_model_history.specs.FitsInfos.{AreCellsOf, IsSentOf, AreSentOf, FitsInsert, FitsUpdate, FitsDelete, FitsInfos, IsReadable, AreReadable, AreReadableCells, IsReadableChange}
use Rattle.dbl_model_history.specs.Laws.{FitChangesFitInfos}
use Rattle.dbl_model_history.proofs.RowKeys.{some_and}
use Rattle.dbl_model_history.proofs.RangeLemmas.{mapped, filtered}

-- ---- cells of their columns' types, of any number

abbrev AreTyped : List PgType → List Val → Type 0
AreTyped types [] = Unit {0}
AreTyped [] (v ∷ values) = Unit {0}
AreTyped (ty ∷ types) (v ∷ values) = IsCellOf ty v × AreTyped types values

abbrev AreSentTyped : List PgType → List Cell → Type 0
AreSentTyped types [] = Unit {0}
AreSentTyped [] (cell ∷ cells) = Unit {0}
AreSentTyped (ty ∷ types) (cell ∷ cells) = IsSentOf ty cell × AreSentTyped types cells

read_cell : (ty : PgType) (text : Option (List ℕ)) → IfSome text IsUtf8 → IsReadable ty text → IsCellOf ty (typed_cell ty text)
read_cell ty None utf8 readable = inl refl
read_cell ty (Some text) utf8 readable = step (value_of ty text) refl readable
  where
    step : (o : Option Val) → value_of ty text ≡ o → IsSome o → IsCellOf ty (unwrap_or o (val.Text text))
    step None is some = cc
    step (Some v) is some = inr (record { text = text; utf8 = utf8; spells = is })

read_cells : (types : List PgType) (texts : List (Option (List ℕ))) → AreTextsInRange texts → AreReadable types texts → AreTyped types (typed_cells types texts)
read_cells types [] utf8 readable = tt
read_cells [] (text ∷ texts) utf8 readable = tt
read_cells (ty ∷ types) (text ∷ texts) utf8 readable = (read_cell ty text utf8.0 readable.0, read_cells types texts utf8.1 readable.1)

read_update : (types : List PgType) (cells : List RawCell) → AllByRecursion IsRawCellInRange cells → AreReadableCells types cells → AreSentTyped types (typed_update types cells)
read_update types [] utf8 readable = tt
read_update [] (raw.Given text ∷ cells) utf8 readable = tt
read_update [] (raw.Unchanged ∷ cells) utf8 readable = tt
read_update (ty ∷ types) (raw.Given text ∷ cells) utf8 readable = (read_cell ty text utf8.0 readable.0, read_update types cells utf8.1 readable.1)
read_update (ty ∷ types) (raw.Unchanged ∷ cells) utf8 readable = (tt, read_update types cells utf8.1 readable.1)

wide_cells : (types : List PgType) (values : List Val) → length values ≡ length types → AreTyped types values → AreCellsOf types values
wide_cells [] [] wide typed = tt
wide_cells [] (v ∷ values) wide typed = absurd (omega (arith, wide))
wide_cells (ty ∷ types) [] wide typed = absurd (omega (arith, wide))
wide_cells (ty ∷ types) (v ∷ values) wide typed = (typed.0, wide_cells types values (omega (arith, wide)) typed.1)

wide_update : (types : List PgType) (cells : List Cell) → length cells ≡ length types → AreSentTyped types cells → AreSentOf types cells
wide_update [] [] wide typed = tt
wide_update [] (cell ∷ cells) wide typed = absurd (omega (arith, wide))
wide_update (ty ∷ types) [] wide typed = absurd (omega (arith, wide))
wide_update (ty ∷ types) (cell ∷ cells) wide typed = (typed.0, wide_update types cells (omega (arith, wide)) typed.1)

-- ---- changes

-- the change's rows and cells are of the types of its table's columns
abbrev pub IsTyped : List TableInfo → Change → Type 0
IsTyped infos (Insert table row) = AreTyped (types_of infos table) row.cells
IsTyped infos (Update table key old cells) = IfSome old (λ row. AreTyped (types_of infos table) row.cells) × AreSentTyped (types_of infos table) cells
IsTyped infos (Delete table key old) = AreTyped (types_of infos table) old.cells
IsTyped infos (Clear table) = Unit {0}

pub some_value : {X : Type 0} (o : Option X) (P : X → Type 0) (x : X) → IfSome o P → o ≡ Some x → P x
some_value None P x h e = cc
some_value (Some y) P x h e = let same : y ≡ x = cc in subst P same h

pub read_change : (infos : List TableInfo) (c : RawChange) → IsRawChangeInRange c × IsReadableChange infos c → IfSome (typed_change infos c) (IsTyped infos)
read_change infos (raw.Insert name row) h =
    mapped (λ table. Insert table (typed_row infos table row)) (IsTyped infos) (number_of infos name)
    (λ table is. read_cells (types_of infos table) row.cells h.0.1 (some_value (number_of infos name) _ table h.1 is))
read_change infos (raw.Update name key old cells) h =
    mapped (λ table. Update table (typed_key infos table key) (option_map (typed_row infos table) old) (typed_update (types_of infos table) cells)) (IsTyped infos) (number_of infos name)
    (λ table is.
    let readable = some_value (number_of infos name) (λ table. IfSome old (λ row. AreReadable (types_of infos table) row.cells) × AreReadableCells (types_of infos table) cells) table h.1 is in (
      mapped (typed_row infos table) (λ row. AreTyped (types_of infos table) row.cells) old
          (λ row there. read_cells (types_of infos table) row.cells (some_value old (λ r. AreTextsInRange r.cells) row h.0.old there) (some_value old (λ r. AreReadable (types_of infos table) r.cells) row readable.0 there)),
      read_update (types_of infos table) cells h.0.cells readable.1,
    ))
read_change infos (raw.Delete name key old) h =
    mapped (λ table. Delete table (typed_key infos table key) (typed_row infos table old)) (IsTyped infos) (number_of infos name)
    (λ table is. read_cells (types_of infos table) old.cells h.0.2 (some_value (number_of infos name) _ table h.1 is))
read_change infos (raw.Clear name) h = mapped (λ table. Clear table) (IsTyped infos) (number_of infos name) (λ table is. tt)

some_and_by : {X : Type 0} (o : Option X) (P : X → Type 0) (x : X) → o ≡ Some x → P x → IsSomeAnd o P
some_and_by None P x e h = cc
some_and_by (Some y) P x e h = let same : x ≡ y = cc in subst P same h

types-at : (infos : List TableInfo) (table : ℕ) (info : TableInfo) → slice_get infos table ≡ Some info → types_of infos table ≡ column_types info
types-at infos table info at = ap (λ (o : Option TableInfo). map (λ column. column.ty) (unwrap_or (option_map (λ (i : TableInfo). i.columns) o) [])) at

long_types : (info : TableInfo) → length (column_types info) ≡ width info
long_types info = length-map info.columns (λ column. column.ty)

cells_fit : (infos : List TableInfo) (table : ℕ) (info : TableInfo) (values : List Val) → slice_get infos table ≡ Some info → length values ≡ width info → AreTyped (types_of infos table) values → AreCellsOf (column_types info) values
cells_fit infos table info values at wide typed = wide_cells (column_types info) values (wide ∙ sym (long_types info)) (subst (λ (types : List PgType). AreTyped types values) (types-at infos table info at) typed)

old_fits : (infos : List TableInfo) (table : ℕ) (info : TableInfo) (old : Option Row) → slice_get infos table ≡ Some info → IfSome old (λ row. length row.cells ≡ width info) → IfSome old (λ row. AreTyped (types_of infos table) row.cells)
    → IfSome old (λ row. AreCellsOf (column_types info) row.cells)
old_fits infos table info None at wide typed = tt
old_fits infos table info (Some row) at wide typed = cells_fit infos table info row.cells at wide typed

kept : (from to : Key) (cells : List Cell) (A : Type 0) → (from ≡ to) ⊎ (A × IsSome (all_given cells)) → (from ≡ to) ⊎ IsSome (all_given cells)
kept from to cells A (inl same) = inl same
kept from to cells A (inr moved) = inr moved.1

pub change_fits : (infos : List TableInfo) (at : Rows) (c : Change) → IsFit infos at c → IsTyped infos c → FitsInfos infos c
change_fits infos at (Insert table row) fit typed =
    let info = some_and (slice_get infos table) (λ info. IsFitInsert info (at table) row) fit in
    some_and_by (slice_get infos table) (λ i. FitsInsert i row) info.0 info.1 (record { cells = cells_fit infos table info.0 row.cells info.1 info.2.wide typed; key = info.2.key })
change_fits infos at (Update table from old cells) fit typed =
    let info = some_and (slice_get infos table) (λ info. IsFitUpdate info (at table) from old cells) fit in
    some_and_by (slice_get infos table) (λ i. FitsUpdate i from old cells) info.0 info.1 (record {
      old = old_fits infos table info.0 old info.1 info.2.old_wide typed.0;
      cells = wide_update (column_types info.0) cells (info.2.wide ∙ sym (long_types info.0)) (subst (λ (types : List PgType). AreSentTyped types cells) (types-at infos table info.0 info.1) typed.1);
      old_key = info.2.old_key;
      new_key = info.2.new_key;
      stays_or_moves = kept from (new_key_of info.0 cells) cells (at table (new_key_of info.0 cells) ≡ None) info.2.stays_or_moves;
    })
change_fits infos at (Delete table from old) fit typed =
    let info = some_and (slice_get infos table) (λ info. IsFitDelete info (at table) from old) fit in
    some_and_by (slice_get infos table) (λ i. FitsDelete i from old) info.0 info.1 (record { old = cells_fit infos table info.0 old.cells info.1 info.2.old_wide typed; old_key = info.2.old_key })
change_fits infos at (Clear table) fit typed = fit

changes_fit : (infos : List TableInfo) (at : Rows) (cs : List Change) → AreFit infos at cs → AllByRecursion (IsTyped infos) cs → AllByRecursion (FitsInfos infos) cs
changes_fit infos at [] fit typed = tt
changes_fit infos at (c ∷ cs) fit typed = (change_fits infos at c fit.0 typed.0, changes_fit infos (rows_after infos c at) cs fit.1 typed.1)

-- ---- histories

all_append : {X : Type 0} (P : X → Type 0) (xs ys : List X) → AllByRecursion P xs → AllByRecursion P ys → AllByRecursion P (xs ++ ys)
all_append P [] ys h k = k
all_append P (x ∷ xs) ys h k = (h.0, all_append P xs ys h.1 k)

both : {X : Type 0} (P Q : X → Type 0) (xs : List X) → AllByRecursion P xs → AllByRecursion Q xs → AllByRecursion (λ x. P x × Q x) xs
both P Q [] h k = tt
both P Q (x ∷ xs) h k = ((h.0, k.0), both P Q xs h.1 k.1)

read_body : (infos : List TableInfo) (c : RawCommit) (b : RawBody) → IsRawBodyInRange b → AllByRecursion (IsReadableChange infos) (raw_changes_of b)
    → AllByRecursion (IsTyped infos) (changes_of (record (typed_commit infos c) { body = typed_body infos b }))
read_body infos c (raw.Changes changes) ranges readable =
    filtered (typed_change infos) (λ x. IsRawChangeInRange x × IsReadableChange infos x) (IsTyped infos) changes (read_change infos) (both IsRawChangeInRange (IsReadableChange infos) changes ranges.1 readable)
read_body infos c (raw.Mark value) ranges readable = tt
read_body infos c (raw.Alter name columns rows) ranges readable = tt

read_commits : (infos : List TableInfo) (cs : List RawCommit) → AllByRecursion IsRawCommitInRange cs → AllByRecursion (λ commit. AllByRecursion (IsReadableChange infos) (raw_changes_of commit.body)) cs
    → AllByRecursion (IsTyped infos) (all_changes (map (typed_commit infos) cs))
read_commits infos [] ranges readable = tt
read_commits infos (c ∷ cs) ranges readable =
    all_append (IsTyped infos) (changes_of (typed_commit infos c)) (all_changes (map (typed_commit infos) cs)) (read_body infos c c.body ranges.0.body readable.0) (read_commits infos cs ranges.1 readable.1)

pub fit_changes : FitChangesFitInfos
fit_changes infos history fit of readable = changes_fit infos no_rows (all_changes (typed infos history)) (fit.fit infos of) (read_commits infos history.commits fit.ranges.commits readable)
