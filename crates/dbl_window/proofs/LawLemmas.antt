-- The laws of windows: what changes leave is one list, and what was selected stays so.
use Rattle.std.proofs.Common.{◌≡◌, ◌∙◌, ◌<◌, ◌≤◌, inl, inr, ℕ, Bool, true, false, Option, Some, None, List, [], ◌∷◌, ◌++◌, fold, length, map, take, refl, sym, ap, ap₂, subst, arith, append_assoc}
use Rattle.std.specs.Prelude.{◌==◌, nat_lt, option_map, unwrap_or}
use Rattle.std.specs.List.{AllByRecursion}
use Rattle.std.specs.List.Sorted.{IsStrictlySortedBy}
use Rattle.std.specs.Map.{keys_of}
use Rattle.std.specs.Ordering.{is_eq, ordering_reverse}
use Rattle.std.specs.declared.cmp.Ordering.{Ordering}
use Rattle.std.specs.declared.cmp.Ordering.TheVariants.{Less, Equal, Greater}
use Rattle.std.proofs.lemmas.List.{length-map, map-append, take-append-le}
use Rattle.std.proofs.lemmas.Bool.Decides.{Decides-ltb, Decides-eqb}
use Rattle.dbl_value_types.specs.declared.value.Val.{Val}
use Rattle.dbl_model_table.specs.declared.row.Key.{Key}
use Rattle.dbl_model_table.specs.declared.row.Row.{Row}
use Rattle.dbl_model_table.specs.declared.table.RawTable.{RawTable}
use Rattle.dbl_model_table.specs.declared.table.TableInfo.{TableInfo}
use Rattle.dbl_model_table.specs.declared.table.TableName.{TableName}
use Rattle.dbl_model_table.specs.declared.change.Commit.{Commit}
use Rattle.dbl_model_table.specs.Keys.{key_cmp, same_key}
use Rattle.dbl_model_table.specs.Rows.{Rows, at_key, no_rows, rows_from, all_changes}
use Rattle.dbl_model_table.specs.Rows.Effect.{Ends}
use Rattle.dbl_model_table.proofs.Lists.{bool_case}
use Rattle.dbl_model_table.proofs.KeyLemmas.{key_total, same_key-is}
use Rattle.dbl_model_history.specs.History.{RawCommit, History, entry_of}
use Rattle.dbl_model_history.specs.InForce.{entry_after, version_at}
use Rattle.dbl_model_history.specs.Typed.{typed, typed_commit}
use Rattle.dbl_model_history.specs.KeyedRows.{row_in, row_left, AreAbove, last_key, AreFirst}
use Rattle.dbl_model_history.proofs.BoundLemmas.{row_in-first}
use Rattle.dbl_model_event.specs.Snapshots.{AreInKeyOrder}
use Rattle.dbl_source.specs.SourceModel.Selected.{rows_up_to}
use Rattle.dbl_window.specs.Plans.{Plan, Chunk}
use Rattle.dbl_window.specs.Changing.{AreLeft}
use Rattle.dbl_window.specs.Selected.{IsSelected}
use Rattle.dbl_window.specs.Promise.{rows_after_first, WasGiven}
use Rattle.dbl_window.specs.Laws.{LeftRowsAreOne, ClearsLeaveNothing, between, SelectedRowsStay, SelectedRowsWereGiven}
use Rattle.dbl_window.specs.ClosingLaws.{RowsAboveAreInOrder}
use Rattle.dbl_window.proofs.OrderLemmas.{row_past, lacks}

-- ---- rows in key order are told by their keys

below_more : (d e : Key) (keys : List Key) → key_cmp d e ≡ Less → AllByRecursion (λ y. key_cmp e y ≡ Less) keys → AllByRecursion (λ y. key_cmp d y ≡ Less) keys
below_more d e [] less all = tt
below_more d e (y ∷ keys) less all = (key_total.trans d e y less all.0, below_more d e keys less all.1)

first_lacks : (d e : Key × Row) (a b : List (Key × Row)) → key_cmp d.0 e.0 ≡ Less → AllByRecursion (λ y. key_cmp e.0 y ≡ Less) (keys_of b)
    → row_in (d ∷ a) d.0 ≡ row_in (e ∷ b) d.0 → ⊥
first_lacks d e a b less below same =
    let none : row_in (e ∷ b) d.0 ≡ None = lacks d.0 (e ∷ b) (less, below_more d.0 e.0 (keys_of b) less below) in
    let contra : Some d.1.cells ≡ None = sym (row_in-first d a) ∙ (same ∙ none) in
    cc

turned : (a b : Key) → key_cmp a b ≡ Greater → key_cmp b a ≡ Less
turned a b is = key_total.antisymm b a ∙ ap ordering_reverse is

rest_same : (d e : Key × Row) (a b : List (Key × Row)) → d.0 ≡ e.0 → AllByRecursion (λ y. key_cmp d.0 y ≡ Less) (keys_of a) → AllByRecursion (λ y. key_cmp e.0 y ≡ Less) (keys_of b)
    → ((key : Key) → row_in (d ∷ a) key ≡ row_in (e ∷ b) key) → (key : Key) → row_in a key ≡ row_in b key
rest_same d e a b first below_a below_b same key = elim (bool_case (same_key d.0 key)) [
  | inl here ↦ (
      let d_is : d.0 ≡ key = same_key-is d.0 key here in
      let e_is : e.0 ≡ key = sym first ∙ d_is in
      let left_none : row_in a key ≡ None = ap (row_in a) (sym d_is) ∙ lacks d.0 a below_a in
      let right_none : row_in b key ≡ None = ap (row_in b) (sym e_is) ∙ lacks e.0 b below_b in
      left_none ∙ sym right_none
      )
  | inr apart ↦ (
      let other : same_key e.0 key ≡ false = ap (λ (k : Key). same_key k key) (sym first) ∙ apart in
      sym (row_past d a key apart) ∙ (same key ∙ row_past e b key other)
      )
]

joined : (d e : Key × Row) (a b : List (Key × Row)) → AllByRecursion (λ y. key_cmp d.0 y ≡ Less) (keys_of a) → AllByRecursion (λ y. key_cmp e.0 y ≡ Less) (keys_of b)
    → ((key : Key) → row_in (d ∷ a) key ≡ row_in (e ∷ b) key) → (((key : Key) → row_in a key ≡ row_in b key) → a ≡ b)
    → (o : Ordering) → key_cmp d.0 e.0 ≡ o → d ∷ a ≡ e ∷ b
joined d e a b below_a below_b same rest Less is = absurd (first_lacks d e a b is below_b (same d.0))
joined d e a b below_a below_b same rest Greater is = absurd (first_lacks e d b a (turned d.0 e.0 is) below_a (sym (same e.0)))
joined d e a b below_a below_b same rest Equal is =
    let key : d.0 ≡ e.0 = same_key-is d.0 e.0 (ap is_eq is) in
    let found : Some d.1.cells ≡ Some e.1.cells = sym (row_in-first d a) ∙ (same d.0 ∙ (ap (row_in (e ∷ b)) key ∙ row_in-first e b)) in
    let cells : d.1.cells ≡ e.1.cells = cc in
    let tail : a ≡ b = rest (rest_same d e a b key below_a below_b same) in
    λ i. (key i, record { cells = cells i }) ∷ tail i

pub rows_one : (a b : List (Key × Row)) → AreInKeyOrder a → AreInKeyOrder b → ((key : Key) → row_in a key ≡ row_in b key) → a ≡ b
unfolding IsStrictlySortedBy
rows_one [] [] ordered_a ordered_b same = refl
rows_one [] (e ∷ b) ordered_a ordered_b same = let contra : None ≡ Some e.1.cells = same e.0 ∙ row_in-first e b in cc
rows_one (d ∷ a) [] ordered_a ordered_b same = let contra : Some d.1.cells ≡ None = sym (row_in-first d a) ∙ same d.0 in cc
rows_one (d ∷ a) (e ∷ b) ordered_a ordered_b same =
    joined d e a b ordered_a.0 ordered_b.0 same (rows_one a b ordered_a.1 ordered_b.1) (key_cmp d.0 e.0) refl

below_all : (d : Key) (rows : List (Key × Row)) → AreAbove (Some d) rows → AllByRecursion (λ y. key_cmp d y ≡ Less) (keys_of rows)
below_all d [] above = tt
below_all d (entry ∷ rows) above = (above.0, below_more d entry.0 (keys_of rows) above.0 (below_all entry.0 rows above.1))

pub above_in_order : RowsAboveAreInOrder
unfolding IsStrictlySortedBy
above_in_order above [] are = tt
above_in_order above (entry ∷ rows) are = (below_all entry.0 rows are.1, above_in_order (Some entry.0) rows are.1)

pub left_one : LeftRowsAreOne
left_one infos table selected changes a b ordered_a ordered_b left_a left_b = rows_one a b ordered_a ordered_b (λ key. left_a key ∙ sym (left_b key))

cleared : (table : ℕ) (row : Option (List Val)) → row_left (at_key (table == table) true Ends) row ≡ None
cleared table row = ap (λ (b : Bool). row_left (at_key b true Ends) row) ((Decides-eqb table table).1 refl)

pub clears_leave : ClearsLeaveNothing
clears_leave infos table rows others = (
  forth others,
  λ none key. ap (λ (l : List (Key × Row)). row_in l key) none ∙ sym (cleared table (row_in rows key)),
)
  where
    forth : (found : List (Key × Row)) → ((key : Key) → row_in found key ≡ row_left (at_key (table == table) true Ends) (row_in rows key)) → found ≡ []
    forth [] left = refl
    forth (entry ∷ found) left =
        let contra : Some entry.1.cells ≡ None = sym (row_in-first entry found) ∙ (left entry.0 ∙ cleared table (row_in rows entry.0)) in
        cc

-- ---- what was selected

pub rows_stay : (infos : List TableInfo) (old new : History) (more : List RawCommit) (place : ℕ) → new.commits ≡ old.commits ++ more → place ≤ length old.commits
    → rows_up_to infos new place ≡ rows_up_to infos old place
rows_stay infos old new more place longer fits =
    ap (λ (cs : List RawCommit). rows_from infos no_rows (all_changes (take place (map (typed_commit infos) cs)))) longer
    ∙ (ap (λ (h : List Commit). rows_from infos no_rows (all_changes (take place h))) (map-append (typed_commit infos) old.commits more)
    ∙ ap (λ (h : List Commit). rows_from infos no_rows (all_changes h))
    (take-append-le place (typed infos old) (map (typed_commit infos) more) (omega (arith, fits, length-map old.commits (typed_commit infos)))))

-- and so does the version
version_stays : (old new : History) (more : List RawCommit) (place : ℕ) (name : TableName) → new.tables ≡ old.tables → new.commits ≡ old.commits ++ more → place ≤ length old.commits → version_at new place name ≡ version_at old place name
version_stays old new more place name same longer fits =
    ap₂ (λ (tables : List RawTable) (commits : List RawCommit). version_at (record { tables = tables; commits = commits }) place name) same longer
    ∙ ap (λ (commits : List RawCommit). unwrap_or (option_map (λ (table : RawTable). table.version) (option_map (λ (table : RawTable). fold (λ (entry : RawTable) (commit : RawCommit). entry_after commit.body entry) table commits) (entry_of old name))) 1)
    (take-append-le place old.commits more fits)

stays_by : (infos : List TableInfo) (old new : History) (more : List RawCommit) (from upto : ℕ) (chunk : Chunk) → new.tables ≡ old.tables → new.commits ≡ old.commits ++ more → upto ≤ length old.commits
    → IsSelected infos old from upto chunk → IsSelected infos new from upto chunk
stays_by infos old new more from upto chunk same longer fits sel = record {
  place = sel.place;
  not_before = sel.not_before;
  not_after = sel.not_after;
  version = sel.version ∙ sym (version_stays old new more sel.place chunk.plan.info.name same longer (let le : sel.place ≤ upto = sel.not_after in omega (arith, le, fits)));
  first = subst (λ (at : Rows). AreFirst chunk.plan.info (at chunk.plan.table) chunk.plan.above chunk.plan.limit chunk.rows)
      (sym (rows_stay infos old new more sel.place longer (let le : sel.place ≤ upto = sel.not_after in omega (arith, le, fits)))) sel.first;
  through_is = sel.through_is;
  done_is = sel.done_is;
}

pub selected_stays : SelectedRowsStay
selected_stays infos old new from upto value chunk fits (inl grows) sel = stays_by infos old new grows.others from upto chunk grows.tables grows.commits fits sel
selected_stays infos old new from upto value chunk fits (inr marks) sel =
    stays_by infos old new (marks.before ++ marks.mark ∷ marks.after) from upto chunk
    marks.tables (marks.commits ∙ append_assoc old.commits marks.before (marks.mark ∷ marks.after)) fits sel

-- what was selected at a place between the watermarks, and then saw the changes between them
pub given_by : (infos : List TableInfo) (history : History) (low high place : ℕ) (selected chunk : Chunk) → low ≤ place → place ≤ high
    → AreFirst selected.plan.info (rows_up_to infos history place selected.plan.table) selected.plan.above selected.plan.limit selected.rows
    → selected.through ≡ last_key selected.plan.above selected.rows → selected.done ≡ nat_lt (length selected.rows) selected.plan.limit
    → chunk.plan ≡ selected.plan → chunk.through ≡ selected.through → chunk.done ≡ selected.done
    → AreLeft infos selected.plan.table selected.rows (between infos history low high) chunk.rows → WasGiven infos (typed infos history) low high chunk
given_by infos history low high place selected chunk above below first through_is done_is plan_is through done left = record {
  selected = selected.rows;
  place = place;
  not_before = above;
  not_after = below;
  first = subst (λ (p : Plan). AreFirst p.info (rows_after_first infos (typed infos history) place p.table) p.above p.limit selected.rows) (sym plan_is) first;
  through_is = through ∙ (through_is ∙ ap (λ (p : Plan). last_key p.above selected.rows) (sym plan_is));
  done_is = λ is_done.
      (let test : nat_lt (length selected.rows) selected.plan.limit ≡ true = sym (done ∙ done_is) ∙ is_done in
      subst (λ (p : Plan). length selected.rows < p.limit) (sym plan_is) ((Decides-ltb (length selected.rows) selected.plan.limit).0 test));
  left = subst (λ (p : Plan). AreLeft infos p.table selected.rows (between infos history low high) chunk.rows) (sym plan_is) left;
}

pub selected_given : SelectedRowsWereGiven
selected_given infos history low high selected chunk sel plan_is through done left =
    given_by infos history low high sel.place selected chunk sel.not_before sel.not_after sel.first sel.through_is sel.done_is plan_is through done left
