-- At one place there is one answer, and before the first commit a captured table has no rows, so that an answer with one isn't right.
use Rattle.std.proofs.Common.{◌≡◌, ◌∙◌, ◌⊎◌, inl, inr, ℕ, ◌<◌, ◌≤◌, zero, suc, Bool, true, false, length, Option, Some, None, List, [], ◌∷◌, map, take, refl, sym, ap, subst, arith}
use Rattle.std.specs.Prelude.{if◌then◌else◌, IfSome, slice_get}
use Rattle.std.specs.List.{AllByRecursion}
use Rattle.std.proofs.lemmas.List.{length-map}
use Rattle.dbl_model_commit.specs.Value.declared.value.Val.{Val}
use Rattle.dbl_model_commit.specs.ModelTable.declared.row.Key.{Key}
use Rattle.dbl_model_commit.specs.ModelTable.declared.row.Row.{Row}
use Rattle.dbl_model_commit.specs.ModelTable.declared.table.TableName.{TableName}
use Rattle.dbl_model_commit.specs.ModelTable.declared.table.RawRow.{RawRow}
use Rattle.dbl_model_commit.specs.ModelTable.declared.table.TableInfo.{TableInfo}
use Rattle.dbl_model_commit.specs.ModelTable.Infos.{number_of}
use Rattle.dbl_model_commit.specs.ModelTable.Rows.{Rows, no_rows}
use Rattle.dbl_model_commit.specs.ModelHistory.History.{RawCommit, History}
use Rattle.dbl_model_commit.specs.ModelHistory.Fit.{IsKeyOf, AltersNone}
use Rattle.dbl_model_commit.specs.ModelHistory.InForce.{Versioned, versioned_from, opening_infos}
use Rattle.dbl_model_commit.specs.ModelHistory.VersionRows.{version_rows, rows_in_force, infos_in_force, WasInfo, WereInfosOf}
use Rattle.dbl_model_commit.specs.ModelTable.Keys.{same_key}
use Rattle.dbl_model_commit.proofs.ModelTableKeyLemmas.{same_key-is}
use Rattle.dbl_model_commit.specs.ModelHistory.KeyBounds.{IsAbove, IsUpTo}
use Rattle.dbl_model_commit.specs.ModelHistory.KeyedRows.{row_in, AreAbove, last_key, AreFirst}
use Rattle.dbl_model_commit.proofs.ModelHistoryBoundLemmas.{above_goes_on, up_to_last, first_rows_one}
use Rattle.dbl_source_model.specs.declared.selected.Selected.{Selected}
use Rattle.dbl_source_model.specs.Growth.{KeepsColumns}
use Rattle.dbl_source_model.specs.Selected.{keyed_row, AreFirstOf, AreRowsAt, AreAnswered}
use Rattle.dbl_source_model.proofs.PlainLemmas.{captured_were}
use Rattle.dbl_source_model.specs.Laws.{AnswersAtAPlaceAreOne, NoRowsBeforeTheFirstCommit, RowsOfNoPlaceAreUnanswered, StandingRowsAreAnswered}

none_taken : {A : Type 0} (n : ℕ) → take {A = A} n [] ≡ []
none_taken zero = refl
none_taken (suc n) = refl

no_rows_after : (infos : List TableInfo) (history : History) (place : ℕ) → history.commits ≡ [] → rows_in_force infos history place ≡ no_rows
no_rows_after infos history place none =
    ap (λ (cs : List RawCommit). version_rows (take place (versioned_from (opening_infos history infos) cs))) none
    ∙ ap (λ (vs : List Versioned). version_rows vs) (none_taken place)

-- and each table is as the catalogue has it
none_altered : (history : History) → history.commits ≡ [] → KeepsColumns history
none_altered history none = subst (λ (cs : List RawCommit). AllByRecursion (λ commit. AltersNone commit.body) cs) (sym none) tt

-- of a table without rows there are none
no_first : (info : TableInfo) (above : Option Key) (limit : ℕ) → AreFirst info (λ key. None) above limit []
no_first info above limit = record { keys = tt; ordered = tt; few = omega arith; right = λ key is_key is_above there. refl }

none_answered : (infos : List TableInfo) (table : ℕ) (info : TableInfo) (above : Option Key) (limit : ℕ) (rows : List RawRow) → AreFirstOf infos table info no_rows above limit rows → rows ≡ []
none_answered infos table info above limit [] first = refl
none_answered infos table info above limit (row ∷ rows) first = first.none_above never
  where
    never : IfSome above (IsKeyOf info) → ⊥
    never is_key =
        let one : map (keyed_row infos table info) (row ∷ rows) ≡ [] =
        first_rows_one info (λ key. None) above limit (map (keyed_row infos table info) (row ∷ rows)) [] (first.first is_key) (no_first info above limit) in
        cc

pub no_rows_yet : NoRowsBeforeTheFirstCommit
no_rows_yet history from upto name above limit answer infos table none captured number answered =
    let rows : List RawRow = answer.rows in
    let now : List TableInfo = infos_in_force infos history answered.place in
    let are = answered.are infos (captured_were history answered.place infos (none_altered history none) captured) in
    let own : (info : TableInfo) × AreFirstOf now table info (rows_in_force infos history answered.place) above limit rows =
    subst (λ (o : Option ℕ). IfSome o (λ t. (info : TableInfo) × AreFirstOf now t info (rows_in_force infos history answered.place) above limit rows)) number are in
    none_answered now table own.0 above limit rows (subst (λ (at : Rows). AreFirstOf now table own.0 at above limit rows) (no_rows_after infos history answered.place none) own.1)

-- ---- one answer at a place

-- of the captured table with this number and these columns
of_table : (history : History) (place : ℕ) (name : TableName) (above : Option Key) (limit : ℕ) (rows : List RawRow) (infos now : List TableInfo) (table : ℕ) (info : TableInfo) → WereInfosOf history place infos → infos_in_force infos history place ≡ now
    → number_of infos name ≡ Some table → slice_get now table ≡ Some info → AreRowsAt history place name above limit rows → AreFirstOf now table info (rows_in_force infos history place) above limit rows
of_table history place name above limit rows infos now table info were now_is number there are =
    let found : (i : TableInfo) × AreFirstOf (infos_in_force infos history place) table i (rows_in_force infos history place) above limit rows =
    subst (λ (o : Option ℕ). IfSome o (λ t. (i : TableInfo) × AreFirstOf (infos_in_force infos history place) t i (rows_in_force infos history place) above limit rows)) number (are infos were) in
    let own : AreFirstOf now table found.0 (rows_in_force infos history place) above limit rows =
    subst (λ (l : List TableInfo). AreFirstOf l table found.0 (rows_in_force infos history place) above limit rows) now_is found.1 in
    let some : Some found.0 ≡ Some info = sym own.captured ∙ there in
    let same : found.0 ≡ info = cc in
    subst (λ (i : TableInfo). AreFirstOf now table i (rows_in_force infos history place) above limit rows) same own

pub one_answer : AnswersAtAPlaceAreOne
one_answer history place name above limit rows others infos now table info were now_is number there first second =
    let a = of_table history place name above limit rows infos now table info were now_is number there first in
    let b = of_table history place name above limit others infos now table info were now_is number there second in (
      λ is_key. first_rows_one info (rows_in_force infos history place table) above limit (map (keyed_row now table info) rows) (map (keyed_row now table info) others) (a.first is_key) (b.first is_key),
      λ no_key. a.none_above no_key ∙ sym (b.none_above no_key),
    )

-- ---- rows of other places

-- where a key has a row in such a list
pub record IsIn (info : TableInfo) (above : Option Key) (rows : List (Key × Row)) (key : Key) : Type 0 where
  pub is_key : IsKeyOf info key
  pub subsequent : IsAbove above key
  pub up : IsUpTo (last_key above rows) key

where_in : (info : TableInfo) (above : Option Key) (rows : List (Key × Row)) (key : Key) (cells : List Val) → AllByRecursion (λ entry. IsKeyOf info entry.0) rows → AreAbove above rows → row_in rows key ≡ Some cells → IsIn info above rows key
where_in info above [] key cells keys ordered is = cc
where_in info above (entry ∷ rows) key cells keys ordered is = by (same_key entry.0 key) refl is (where_in info (Some entry.0) rows key cells keys.1 ordered.1)
  where
    here : IsIn info above (entry ∷ rows) entry.0
    here = record { is_key = keys.0; subsequent = ordered.0; up = up_to_last entry.0 rows entry.0 ordered.1 (inl refl) }

    by : (b : Bool) → same_key entry.0 key ≡ b → (if b then Some entry.1.cells else row_in rows key) ≡ Some cells → (row_in rows key ≡ Some cells → IsIn info (Some entry.0) rows key) → IsIn info above (entry ∷ rows) key
    by true same found rest = subst (IsIn info above (entry ∷ rows)) (same_key-is entry.0 key same) here
    by false other found rest = let later = rest found in record { is_key = later.is_key; subsequent = above_goes_on above entry.0 key ordered.0 later.subsequent; up = later.up }

-- a row of the first ones is the table's
first_there : (info : TableInfo) (at : Key → Option (List Val)) (above : Option Key) (limit : ℕ) (rows : List (Key × Row)) (key : Key) (cells : List Val) → AreFirst info at above limit rows → row_in rows key ≡ Some cells → at key ≡ Some cells
first_there info at above limit rows key cells are is =
    let found = where_in info above rows key cells are.keys are.ordered is in
    sym (are.right key found.is_key found.subsequent (inr found.up)) ∙ is

none_in : (infos : List TableInfo) (table : ℕ) (info : TableInfo) (at : Rows) (above : Option Key) (limit : ℕ) (rows : List RawRow) (key : Key) → AreFirstOf infos table info at above limit rows → at table key ≡ None → row_in (map (keyed_row infos table info) rows) key ≡ None
none_in infos table info at above limit rows key first none = by (row_in (map (keyed_row infos table info) rows) key) refl
  where
    by : (found : Option (List Val)) → row_in (map (keyed_row infos table info) rows) key ≡ found → found ≡ None
    by None is = refl
    by (Some cells) is =
        let never : IfSome above (IsKeyOf info) → ⊥ = λ is_key. (
        let there : at table key ≡ Some cells = first_there info (at table) above limit (map (keyed_row infos table info) rows) key cells (first.first is_key) is in
        let contra : None ≡ Some cells = sym none ∙ there in
        cc
        ) in
        let empty : row_in (map (keyed_row infos table info) rows) key ≡ None = ap (λ (l : List RawRow). row_in (map (keyed_row infos table info) l) key) (first.none_above never) in
        sym is ∙ empty

were_on : (history : History) (from upto : ℕ) (infos : List TableInfo) → from ≤ upto → AllByRecursion (WasInfo history from) infos → AllByRecursion (WasInfo history upto) infos
were_on history from upto [] le each = tt
were_on history from upto (info ∷ infos) le each =
    (record { place = each.0.place; not_after = omega (arith, each.0.not_after, le); is = each.0.is }, were_on history from upto infos le each.1)

-- the first ones of an answer, in the columns that are in force all the while
of_answer : (history : History) (from upto : ℕ) (name : TableName) (above : Option Key) (limit : ℕ) (answer : Selected) (infos now : List TableInfo) (table : ℕ) (info : TableInfo) → WereInfosOf history from infos
    → ((place : ℕ) → from ≤ place → place ≤ upto → infos_in_force infos history place ≡ now) → number_of infos name ≡ Some table → slice_get now table ≡ Some info → (answered : AreAnswered history from upto name above limit answer)
    → AreFirstOf now table info (rows_in_force infos history answered.place) above limit answer.rows
of_answer history from upto name above limit answer infos now table info were columns number there answered =
    of_table history answered.place name above limit answer.rows infos now table info (record { distinct = were.distinct; each = were_on history from answered.place infos answered.not_before were.each })
    (columns answered.place answered.not_before answered.not_after) number there answered.are

pub no_place_no_row : RowsOfNoPlaceAreUnanswered
no_place_no_row history from upto name above limit answer infos now table info key were columns number there answered never =
    none_in now table info (rows_in_force infos history answered.place) above limit answer.rows key
    (of_answer history from upto name above limit answer infos now table info were columns number there answered)
    (never answered.place answered.not_before answered.not_after)

pub standing_row : StandingRowsAreAnswered
standing_row history from upto name above limit answer infos now table info key row were columns number there answered bound is_key subsequent range stands =
    let rows : List RawRow = answer.rows in
    let first = of_answer history from upto name above limit answer infos now table info were columns number there answered in
    let within : (length (map (keyed_row now table info) rows) < limit) ⊎ IsUpTo (last_key above (map (keyed_row now table info) rows)) key = elim range [
      | inl fewer ↦ inl (omega (arith, fewer, length-map rows (keyed_row now table info)))
      | inr up ↦ inr up
    ] in
    (first.first bound).right key is_key subsequent within ∙ stands answered.place answered.not_before answered.not_after
