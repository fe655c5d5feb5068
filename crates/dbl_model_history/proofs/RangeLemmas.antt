-- Typed commits and infos of a history in range are in range.
use Rattle.std.proofs.Common.{◌≡◌, ◌≤◌, ◌<◌, ◌^◌, ℕ, ℤ, pos, negsuc, suc, Bool, true, false, cond, Option, Some, None, List, [], ◌∷◌, length, map, refl, sym, subst, arith, ap}
use Rattle.std.specs.Prelude.{FitsSigned, IfSome, IsSomeAnd, option_map, unwrap_or, if◌then◌else◌, find}
use Rattle.std.specs.List.{AllByRecursion, filter_map, cons_option}
use Rattle.std.specs.Str.{IsUtf8}
use Rattle.std.specs.Int.{w64}
use Rattle.std.proofs.lemmas.Bool.{eqb-false}
use Rattle.std.proofs.lemmas.List.{length-map}
use lib.Signed.{mag}
use Rattle.dbl_value_types.specs.declared.column_type.PgType.{PgType}
use Rattle.dbl_value_types.specs.declared.column_type.PgType.TheVariants as type
use Rattle.dbl_value_types.specs.declared.value.Val.{Val}
use Rattle.dbl_value_types.specs.declared.value.Val.TheVariants as val
use Rattle.dbl_value_types.specs.Values.{value_of, is_uuid, SpellsValue, IsOf}
use Rattle.dbl_value_types.specs.Time.Stamps.{is_instant}
use Rattle.dbl_value_types.proofs.KindLemmas.{kind_of, spelled_kind}
use Rattle.dbl_time.proofs.CalendarSteps.{days_fit}
use Rattle.dbl_value_types.proofs.RangeLemmas.{date_in_years}
use Rattle.dbl_value_types.proofs.JsonTexts.{instant_mag, IsOf-IsInRange}
use Rattle.dbl_model_table.specs.declared.table.Column.{Column}
use Rattle.dbl_model_table.specs.declared.table.RawRow.{RawRow}
use Rattle.dbl_model_table.specs.declared.table.RawTable.{RawTable}
use Rattle.dbl_model_table.specs.declared.table.TableInfo.{TableInfo}
use Rattle.dbl_model_table.specs.declared.change.Body.TheVariants as body
use Rattle.dbl_model_table.specs.declared.change.Change.{Change}
use Rattle.dbl_model_table.specs.declared.change.Change.TheVariants as change
use Rattle.dbl_model_table.specs.Tables.{same_name}
use Rattle.dbl_model_table.specs.Rows.{changes_of}
use Rattle.dbl_model_table.specs.Infos.{raw_column, IsInfoOf, number_of}
use Rattle.dbl_model_history.specs.History.{RawCell, RawChange, RawBody, RawCommit, History, entry_of}
use Rattle.dbl_model_history.specs.History as raw
use Rattle.dbl_model_history.specs.Typed.{typed_cell, typed_cells, typed_update, types_of, key_types_of, typed_key, typed_row, typed_change, typed_body, typed_commit}
use Rattle.dbl_model_history.specs.Ranges.{most_raw_events_of, most_raw_events, most_events_of, most_events, IsColumnInRange, IsEntryInRange, AreTextsInRange, IsRawCellInRange, IsRawChangeInRange, IsRawBodyInRange, IsRawCommitInRange, HasRanges, IsNameInRange, IsValueInRange, AreValuesInRange, IsCellInRange, IsChangeInRange, IsBodyInRange, IsCommitInRange, IsInfoInRange}
use Rattle.dbl_model_history.specs.InForce.{Alteration, plain_commit, infos_by, alteration_in, versioned_from, opening_infos}
use Rattle.dbl_model_history.specs.VersionRows.{inserts}
use Rattle.dbl_model_history.specs.FitVersions.{VersionsAreInRange}
use Rattle.dbl_model_history.specs.Laws.{TypedCommitsAreInRange, InfosAreInRange}
use Rattle.dbl_model_history.proofs.RowKeys.{some_and}

-- ---- cells

number_fits : (z : ℤ) → mag z < 2 ^ 63 → FitsSigned w64 z
number_fits (pos n) h = record { sfits = omega (arith, h) }
number_fits (negsuc n) h = record { sfits = omega (arith, h) }

instant_fits : (z : ℤ) → is_instant z ≡ true → FitsSigned w64 z
instant_fits z h = number_fits z (instant_mag z h)

-- a text that spells a text spells itself
text_same : (ty : PgType) (text t : List ℕ) → SpellsValue ty text (val.Text t) → text ≡ t
text_same type.Text text t e = cc
text_same type.Varchar text t e = cc
text_same type.Bpchar text t e = cc
text_same type.Json text t e = cc
text_same type.Jsonb text t e = cc
text_same type.Numeric text t e = cc
text_same (type.Other oid) text t e = cc
text_same type.Uuid text t e = step (is_uuid text) e
  where
    step : (b : Bool) → (if b then Some (val.Text text) else None) ≡ Some (val.Text t) → text ≡ t
    step true f = cc
    step false f = cc
text_same ty text t e = absurd (eqb-false 3 (kind_of ty) refl (spelled_kind ty text (val.Text t) e))

spelled_is : (ty : PgType) (text : List ℕ) (v : Val) → IsUtf8 text → SpellsValue ty text v → IsOf ty v
spelled_is ty text v utf8 e = record { text = text; utf8 = utf8; spells = e }

pub spelled_in_range : (ty : PgType) (text : List ℕ) (v : Val) → IsUtf8 text → SpellsValue ty text v → IsValueInRange v
spelled_in_range ty text val.Null utf8 e = tt
spelled_in_range ty text (val.Bool truth) utf8 e = tt
spelled_in_range ty text (val.Int z) utf8 e = number_fits z (IsOf-IsInRange ty (val.Int z) (spelled_is ty text (val.Int z) utf8 e))
spelled_in_range ty text (val.Text t) utf8 e = subst IsUtf8 (text_same ty text t e) utf8
spelled_in_range ty text (val.Bytes bytes) utf8 e = IsOf-IsInRange ty (val.Bytes bytes) (spelled_is ty text (val.Bytes bytes) utf8 e)
spelled_in_range ty text (val.Date z) utf8 e = days_fit z (date_in_years ty z (spelled_is ty text (val.Date z) utf8 e))
spelled_in_range ty text (val.Time z) utf8 e = number_fits z (IsOf-IsInRange ty (val.Time z) (spelled_is ty text (val.Time z) utf8 e))
spelled_in_range ty text (val.Stamp z) utf8 e = number_fits z (IsOf-IsInRange ty (val.Stamp z) (spelled_is ty text (val.Stamp z) utf8 e))
spelled_in_range ty text (val.StampTz z) utf8 e = instant_fits z (IsOf-IsInRange ty (val.StampTz z) (spelled_is ty text (val.StampTz z) utf8 e))

cell_in_range : (ty : PgType) (text : Option (List ℕ)) → IfSome text IsUtf8 → IsValueInRange (typed_cell ty text)
cell_in_range ty None h = tt
cell_in_range ty (Some text) h = step (value_of ty text) (λ v e. spelled_in_range ty text v h e)
  where
    step : (o : Option Val) → ((v : Val) → o ≡ Some v → IsValueInRange v) → IsValueInRange (unwrap_or o (val.Text text))
    step None each = h
    step (Some v) each = each v refl

cells_in_range : (types : List PgType) (texts : List (Option (List ℕ))) → AreTextsInRange texts → AreValuesInRange (typed_cells types texts)
cells_in_range types [] h = tt
cells_in_range [] (text ∷ texts) h = (cell_in_range type.Text text h.0, cells_in_range [] texts h.1)
cells_in_range (ty ∷ types) (text ∷ texts) h = (cell_in_range ty text h.0, cells_in_range types texts h.1)

update_in_range : (types : List PgType) (cells : List RawCell) → AllByRecursion IsRawCellInRange cells → AllByRecursion IsCellInRange (typed_update types cells)
update_in_range types [] h = tt
update_in_range [] (raw.Given text ∷ cells) h = (cell_in_range type.Text text h.0, update_in_range [] cells h.1)
update_in_range [] (raw.Unchanged ∷ cells) h = (tt, update_in_range [] cells h.1)
update_in_range (ty ∷ types) (raw.Given text ∷ cells) h = (cell_in_range ty text h.0, update_in_range types cells h.1)
update_in_range (ty ∷ types) (raw.Unchanged ∷ cells) h = (tt, update_in_range types cells h.1)

-- what holds of each value of a function holds of one that a list or a search gives
pub mapped : {A B : Type 0} (f : A → B) (P : B → Type 0) (o : Option A) → ((a : A) → o ≡ Some a → P (f a)) → IfSome (option_map f o) P
mapped f P None each = tt
mapped f P (Some a) each = each a refl

pub filtered : {X Y : Type 0} (f : X → Option Y) (P : X → Type 0) (Q : Y → Type 0) (xs : List X) → ((x : X) → P x → IfSome (f x) Q) → AllByRecursion P xs → AllByRecursion Q (filter_map f xs)
filtered f P Q [] each h = tt
filtered f P Q (x ∷ xs) each h = step (f x) (each x h.0) (filtered f P Q xs each h.1)
  where
    step : (o : Option _) → IfSome o Q → AllByRecursion Q (filter_map f xs) → AllByRecursion Q (cons_option o (filter_map f xs))
    step None q rest = rest
    step (Some y) q rest = (q, rest)

pub length-filter_map : {X Y : Type 0} (f : X → Option Y) (xs : List X) → length (filter_map f xs) ≤ length xs
length-filter_map f [] = omega arith
length-filter_map f (x ∷ xs) = step (f x) (length-filter_map f xs)
  where
    step : (o : Option _) → length (filter_map f xs) ≤ length xs → length (cons_option o (filter_map f xs)) ≤ suc (length xs)
    step None le = omega arith
    step (Some y) le = omega arith

found : {X : Type 0} (P : X → Type 0) (p : X → Bool) (xs : List X) (x : X) → AllByRecursion P xs → find p xs ≡ Some x → P x
found P p [] x h e = cc
found P p (y ∷ xs) x h e = step (p y) e (found P p xs x h.1)
  where
    step : (b : Bool) → cond b (Some y) (find p xs) ≡ Some x → (find p xs ≡ Some x → P x) → P x
    step true f later = let same : y ≡ x = cc in subst P same h.0
    step false f later = later f

-- ---- changes

change_in_range : (infos : List TableInfo) (c : RawChange) → IsRawChangeInRange c → IfSome (typed_change infos c) IsChangeInRange
change_in_range infos (raw.Insert name row) h =
    mapped (λ table. change.Insert table (typed_row infos table row)) IsChangeInRange (number_of infos name) (λ table is. cells_in_range (types_of infos table) row.cells h.1)
change_in_range infos (raw.Update name key old cells) h =
    mapped (λ table. change.Update table (typed_key infos table key) (option_map (typed_row infos table) old) (typed_update (types_of infos table) cells)) IsChangeInRange (number_of infos name)
    (λ table is. record {
      key = cells_in_range (key_types_of infos table) key h.key;
      old = mapped (typed_row infos table) (λ row. AreValuesInRange row.cells) old (λ row there. cells_in_range (types_of infos table) row.cells (given old row there h.old));
      cells = update_in_range (types_of infos table) cells h.cells;
    })
  where
    given : (o : Option RawRow) (row : RawRow) → o ≡ Some row → IfSome o (λ r. AreTextsInRange r.cells) → AreTextsInRange row.cells
    given None row e all = cc
    given (Some r) row e all = let same : r ≡ row = cc in subst (λ (x : RawRow). AreTextsInRange x.cells) same all
change_in_range infos (raw.Delete name key old) h =
    mapped (λ table. change.Delete table (typed_key infos table key) (typed_row infos table old)) IsChangeInRange (number_of infos name)
    (λ table is. (cells_in_range (key_types_of infos table) key h.1, cells_in_range (types_of infos table) old.cells h.2))
change_in_range infos (raw.Clear name) h = mapped (λ table. change.Clear table) IsChangeInRange (number_of infos name) (λ table is. tt)

no_more_changes : (changes : List RawChange) → length changes ≤ most_raw_events changes
no_more_changes [] = omega arith
no_more_changes (raw.Insert name row ∷ changes) = omega (arith, no_more_changes changes)
no_more_changes (raw.Update name key old cells ∷ changes) = omega (arith, no_more_changes changes)
no_more_changes (raw.Delete name key old ∷ changes) = omega (arith, no_more_changes changes)
no_more_changes (raw.Clear name ∷ changes) = omega (arith, no_more_changes changes)

body_in_range : (infos : List TableInfo) (b : RawBody) → IsRawBodyInRange b → IsBodyInRange (typed_body infos b)
body_in_range infos (raw.Changes changes) h =
    let few : length (filter_map (typed_change infos) changes) ≤ length changes = length-filter_map (typed_change infos) changes in
    (omega (arith, few, no_more_changes changes, h.0), filtered (typed_change infos) IsRawChangeInRange IsChangeInRange changes (change_in_range infos) h.1)
body_in_range infos (raw.Mark value) h = h
body_in_range infos (raw.Alter name columns rows) h = (omega arith, tt)

commit_in_range : (infos : List TableInfo) (c : RawCommit) → IsRawCommitInRange c → IsCommitInRange (typed_commit infos c)
commit_in_range infos c h = record { lsn = h.lsn; end_lsn = h.end_lsn; time = h.time; xid = h.xid; body = body_in_range infos c.body h.body }

commits_in_range : (infos : List TableInfo) (cs : List RawCommit) → AllByRecursion IsRawCommitInRange cs → AllByRecursion IsCommitInRange (map (typed_commit infos) cs)
commits_in_range infos [] h = tt
commits_in_range infos (c ∷ cs) h = (commit_in_range infos c h.0, commits_in_range infos cs h.1)

pub typed_in_range : TypedCommitsAreInRange
typed_in_range infos history h = commits_in_range infos history.commits h.commits

-- ---- commits with the captured tables from each on

typed_events : (infos : List TableInfo) (c : RawChange) → IfSome (typed_change infos c) (λ t. most_events_of t ≤ most_raw_events_of c)
typed_events infos (raw.Insert name row) = mapped (λ table. change.Insert table (typed_row infos table row)) (λ t. most_events_of t ≤ 1) (number_of infos name) (λ table is. omega arith)
typed_events infos (raw.Update name key old cells) =
    mapped (λ table. change.Update table (typed_key infos table key) (option_map (typed_row infos table) old) (typed_update (types_of infos table) cells)) (λ t. most_events_of t ≤ 3) (number_of infos name) (λ table is. omega arith)
typed_events infos (raw.Delete name key old) =
    mapped (λ table. change.Delete table (typed_key infos table key) (typed_row infos table old)) (λ t. most_events_of t ≤ 2) (number_of infos name) (λ table is. omega arith)
typed_events infos (raw.Clear name) = mapped (λ table. change.Clear table) (λ t. most_events_of t ≤ 1) (number_of infos name) (λ table is. omega arith)

few_events : (infos : List TableInfo) (changes : List RawChange) → most_events (filter_map (typed_change infos) changes) ≤ most_raw_events changes
few_events infos [] = omega arith
few_events infos (c ∷ changes) = by (typed_change infos c) (typed_events infos c) (few_events infos changes)
  where
    by : (o : Option Change) → IfSome o (λ t. most_events_of t ≤ most_raw_events_of c) → most_events (filter_map (typed_change infos) changes) ≤ most_raw_events changes
        → most_events (cons_option o (filter_map (typed_change infos) changes)) ≤ most_raw_events (c ∷ changes)
    by None one rest = omega (arith, rest)
    by (Some t) one rest = omega (arith, one, rest)

few_in_body : (infos : List TableInfo) (c : RawCommit) (b : RawBody) → IsRawBodyInRange b → most_events (changes_of (typed_commit infos (record c { body = b }))) < 2 ^ 62
few_in_body infos c (raw.Changes changes) h = omega (arith, few_events infos changes, h.0)
few_in_body infos c (raw.Mark value) h = omega arith
few_in_body infos c (raw.Alter name columns rows) h = omega arith

inserts_in_range : (infos : List TableInfo) (table : ℕ) (rows : List RawRow) → AllByRecursion (λ row. AreTextsInRange row.cells) rows → AllByRecursion IsChangeInRange (inserts infos table rows)
inserts_in_range infos table [] h = tt
inserts_in_range infos table (row ∷ rows) h = (cells_in_range (types_of infos table) row.cells h.0, inserts_in_range infos table rows h.1)

altered_in_range : (infos : List TableInfo) (b : RawBody) → IsRawBodyInRange b → IfSome (alteration_in infos b) (λ alteration. IsBodyInRange (body.Changes (inserts infos alteration.table alteration.rows)))
altered_in_range infos (raw.Changes changes) h = tt
altered_in_range infos (raw.Mark value) h = tt
altered_in_range infos (raw.Alter name columns rows) h = by (number_of infos name)
  where
    by : (o : Option ℕ) → IfSome (option_map (λ table. record { table = table; rows = rows }) o) (λ (alteration : Alteration). IsBodyInRange (body.Changes (inserts infos alteration.table alteration.rows)))
    by None = tt
    by (Some table) =
        let long : length (inserts infos table rows) ≡ length rows = length-map rows (λ row. change.Insert table (typed_row infos table row)) in
        (omega (arith, long, h.few), inserts_in_range infos table rows h.rows)

versions_from : (infos : List TableInfo) (cs : List RawCommit) → AllByRecursion IsRawCommitInRange cs
    → AllByRecursion (λ v. IsCommitInRange (plain_commit v) × (most_events (changes_of (plain_commit v)) < 2 ^ 62)
    × IfSome v.altered (λ alteration. IsBodyInRange (body.Changes (inserts v.infos alteration.table alteration.rows)))) (versioned_from infos cs)
versions_from infos [] h = tt
versions_from infos (c ∷ cs) h = (
  (commit_in_range (infos_by c.body infos) c h.0, few_in_body (infos_by c.body infos) c c.body h.0.body, altered_in_range (infos_by c.body infos) c.body h.0.body),
  versions_from (infos_by c.body infos) cs h.1,
)

pub versions_in_range : VersionsAreInRange
versions_in_range infos history h = versions_from (opening_infos history infos) history.commits h.commits

-- ---- infos

columns_in_range : (columns : List Column) → AllByRecursion IsColumnInRange (map raw_column columns) → AllByRecursion (λ column. IsUtf8 column.name) columns
columns_in_range [] h = tt
columns_in_range (c ∷ columns) h = (h.0.name, columns_in_range columns h.1)

info_in_range : (history : History) (info : TableInfo) → HasRanges history → IsSomeAnd (entry_of history info.name) (λ entry. IsInfoOf entry info) → IsInfoInRange info
info_in_range history info h of =
    let entry = some_and (entry_of history info.name) (λ entry. IsInfoOf entry info) of in
    let is : IsEntryInRange entry.0 = found IsEntryInRange (λ entry. same_name entry.name info.name) history.tables entry.0 h.tables entry.1 in
    let name : IsNameInRange info.name = subst IsNameInRange (sym (ap (λ (raw : RawTable). raw.name) entry.2)) is.name in
    let columns : AllByRecursion IsColumnInRange (map raw_column info.columns) = subst (AllByRecursion IsColumnInRange) (sym (ap (λ (raw : RawTable). raw.columns) entry.2)) is.columns in
    record { name = name; columns = columns_in_range info.columns columns }

each_in_range : (history : History) (infos : List TableInfo) → HasRanges history → AllByRecursion (λ info. IsSomeAnd (entry_of history info.name) (λ entry. IsInfoOf entry info)) infos → AllByRecursion IsInfoInRange infos
each_in_range history [] h each = tt
each_in_range history (info ∷ infos) h each = (info_in_range history info h each.0, each_in_range history infos h each.1)

pub infos_in_range : InfosAreInRange
infos_in_range infos history h of = each_in_range history infos h of.each
