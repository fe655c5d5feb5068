-- What a select answers: the committed rows of a table's slots after a bound are what is shown.
use Rattle.std.proofs.Common.{◌≡◌, ◌∙◌, ◌<◌, ◌≤◌, ◌+◌, inr, ℕ, zero, suc, Bool, true, false, Option, Some, None, List, [], ◌∷◌, ◌++◌, cond, length, take, refl, sym, ap, subst, arith, append_assoc}
use Rattle.std.specs.Prelude.{◌&&◌, IfSome, option_to_list, filter, Ok, Err, slice_get}
use Rattle.std.specs.List.{AllByRecursion, cons_option, position_from}
use Rattle.std.specs.List.Sorted.{IsStrictlySortedBy}
use Rattle.std.specs.Ordering.{is_eq, is_lt}
use Rattle.std.specs.declared.cmp.Ordering.{Ordering}
use Rattle.std.specs.declared.cmp.Ordering.TheVariants.{Less, Equal, Greater}
use Rattle.std.specs.BTreeMap.{is_at}
use Rattle.std.specs.BTreeMap.Range.{range_contains, entries_between}
use Rattle.std.specs.declared.ops.Bound.TheVariants.{Excluded, Unbounded}
use Rattle.std.proofs.lemmas.List.{append-nil, length-append}
use Rattle.std.specs.Map.{lookup, keys_of}
use Rattle.dbl_model_table.specs.declared.row.Key.{Key}
use Rattle.dbl_model_table.specs.declared.table.RawRow.{RawRow}
use Rattle.dbl_model_table.specs.declared.table.RawTable.{RawTable}
use Rattle.dbl_model_table.specs.declared.table.TableName.{TableName}
use Rattle.dbl_model_table.specs.Infos.{catalogue_of}
use Rattle.dbl_model_table.specs.Keys.{key_cmp}
use Rattle.dbl_model_table.specs.Tables.{same_name}
use Rattle.dbl_model_table.proofs.DerivedOrder.{derived_order}
use Rattle.dbl_model_table.proofs.KeyLemmas.{same_key-is, same_key-itself}
use Rattle.dbl_model_history.specs.KeyBounds.{IsAbove}
use Rattle.dbl_model_history.specs.Fit.{IsKeyOf}
use Rattle.dbl_tables_rows.specs.SourceLog.declared.logged.LogTable.{LogTable}
use Rattle.dbl_tables_rows.specs.SourceLog.Relations.{first_oid}
use Rattle.dbl_tables_rows.specs.SourceLog.TextRows.{log_table_named}
use Rattle.dbl_tables_rows.specs.SourceLog.Texts.{Texts, key_in}
use Rattle.dbl_tables_rows.specs.declared.demo_table.DemoTable.{DemoTable}
use Rattle.dbl_tables_rows.specs.declared.error.StepError.TheVariants as errors
use Rattle.dbl_tables_rows.specs.Acts.{Accepted}
use Rattle.dbl_tables_rows.specs.Seen.{committed_rows}
use Rattle.dbl_tables_rows.specs.Selects.{AreFirstRows, AreShown, SelectsAt, SelectsCommitted}
use Rattle.dbl_tables_rows.specs.Sending.{raw_of, log_table, log_tables}
use Rattle.dbl_tables_rows.specs.Steps.{FoundTable, found}
use Rattle.dbl_tables_rows.specs.declared.rows.Rows.{Rows}
use Rattle.dbl_tables_rows.specs.Views.{Slots, texts_of, base_of}
use Rattle.dbl_tables_rows.proofs.SlotLemmas.{derived_cmp}
use Rattle.dbl_tables.specs.Shown.{comes_after}
use Rattle.dbl_tables.specs.declared.tables.Tables.{Tables}
use Rattle.dbl_tables.specs.Stands.{Stands}
use Rattle.dbl_tables.proofs.CutLemmas.{named_at_place, at_name}
use Rattle.dbl_tables.proofs.SelectLemmas.{Entry, row_of, row_at, rows_of, AreBehind, AreOwn, not_there, first_of_slots}
use Rattle.dbl_tables.proofs.StoreLemmas.{found_none}

-- ---- the slots that a bound leaves

module _ (test : Key → Bool) where
  abbrev passing : List Entry → List Entry
  passing es = filter (λ (e : Entry). test e.0) es

  all_above : (k : Key) (es : List Entry) → AllByRecursion (λ y. key_cmp k y ≡ Less) (keys_of es) → AllByRecursion (λ (e : Entry). test e.0 ≡ true → IsAbove (Some k) e.0) es
  all_above k [] all = tt
  all_above k (e ∷ es) all = (λ passes. all.0, all_above k es all.1)

  passing_after : (bound : Option Key) (es : List Entry) → IsStrictlySortedBy key_cmp (keys_of es) → AllByRecursion (λ (e : Entry). test e.0 ≡ true → IsAbove bound e.0) es → AreBehind bound (passing es)
  unfolding IsStrictlySortedBy
  passing_after bound [] sorted above = tt
  passing_after bound (e ∷ es) sorted above = by (test e.0) refl (passing_after (Some e.0) es sorted.1 (all_above e.0 es sorted.0)) (passing_after bound es sorted.1 above.1)
    where
      by : (b : Bool) → test e.0 ≡ b → AreBehind (Some e.0) (passing es) → AreBehind bound (passing es) → AreBehind bound (cond b (e ∷ passing es) (passing es))
      by true passes next skip = (above.0 passes, next)
      by false fails next skip = skip

  -- a key that passes finds the same slot
  same_there : (key : Key) (es : List Entry) → test key ≡ true → row_at (passing es) key ≡ row_at es key
  same_there key es passes = ap row_of (same_slot es)
    where
      same_slot : (xs : List Entry) → lookup (is_at (key_cmp key)) (passing xs) ≡ lookup (is_at (key_cmp key)) xs
      same_slot [] = refl
      same_slot (e ∷ xs) = by (test e.0) (is_eq (key_cmp key e.0)) refl refl (same_slot xs)
        where
          by : (t b : Bool) → test e.0 ≡ t → is_eq (key_cmp key e.0) ≡ b → lookup (is_at (key_cmp key)) (passing xs) ≡ lookup (is_at (key_cmp key)) xs
              → lookup (is_at (key_cmp key)) (cond t (e ∷ passing xs) (passing xs)) ≡ cond b (Some e.1) (lookup (is_at (key_cmp key)) xs)
          by true b it is later = ap (λ (x : Bool). cond x (Some e.1) (lookup (is_at (key_cmp key)) (passing xs))) is ∙ ap (cond b (Some e.1)) later
          by false true it is later =
              let k : key ≡ e.0 = same_key-is key e.0 is in
              let contra : true ≡ false = sym passes ∙ (ap test k ∙ it) in
              cc
          by false false it is later = later

  -- slots of which each has its own key's row
  own_stay : (raw : RawTable) (es : List Entry) → AreOwn raw es → AreOwn raw (passing es)
  own_stay raw [] own = tt
  own_stay raw (e ∷ es) own = by (test e.0) (own_stay raw es own.1)
    where
      by : (b : Bool) → AreOwn raw (passing es) → AreOwn raw (cond b (e ∷ passing es) (passing es))
      by true later = (own.0, later)
      by false later = later

-- rows that are at their keys are their slots'
own_of : (raw : RawTable) (bound : Option Key) (es : List Entry) → AreBehind bound es → ((key : Key) (row : Texts) → row_at es key ≡ Some row → key_in raw row ≡ key) → AreOwn raw es
own_of raw bound [] subsequent keyed = tt
own_of raw bound (e ∷ es) subsequent keyed = (here, own_of raw (Some e.0) es subsequent.1 later)
  where
    here : (row : RawRow) → e.1.committed ≡ Some row → key_in raw row.cells ≡ e.0
    here row is = keyed e.0 row.cells (ap (λ (b : Bool). row_of (cond b (Some e.1) (lookup (is_at (key_cmp e.0)) es))) (same_key-itself e.0) ∙ ap texts_of is)

    later : (key : Key) (row : Texts) → row_at es key ≡ Some row → key_in raw row ≡ key
    later key row is = by (key_cmp key e.0) refl
      where
        at : (o : Ordering) → key_cmp key e.0 ≡ o → is_eq o ≡ false → row_at (e ∷ es) key ≡ Some row
        at o order other = ap (λ (b : Bool). row_of (cond b (Some e.1) (lookup (is_at (key_cmp key)) es))) (ap is_eq order ∙ other) ∙ is

        by : (o : Ordering) → key_cmp key e.0 ≡ o → key_in raw row ≡ key
        by Less order = keyed key row (at Less order refl)
        by Greater order = keyed key row (at Greater order refl)
        by Equal order =
            let k : key ≡ e.0 = same_key-is key e.0 (ap is_eq order) in
            let contra : None ≡ Some row = sym (not_there e.0 key es subsequent.1 (inr k)) ∙ is in
            cc

-- all slots in order
in_order : (bound : Option Key) (xs : List Entry) → IsStrictlySortedBy key_cmp (keys_of xs) → AllByRecursion (λ y. IsAbove bound y) (keys_of xs) → AreBehind bound xs
unfolding IsStrictlySortedBy
in_order bound [] sorted above = tt
in_order bound (e ∷ xs) sorted above = (above.0, in_order (Some e.0) xs sorted.1 sorted.0)

-- the first rows of those that a bound leaves
pub first_passing : (raw : RawTable) (at : Key → Option Texts) (test : Key → Bool) (es : List Entry) (above : Option Key) (limit : ℕ) → IsStrictlySortedBy key_cmp (keys_of es) → ((key : Key) → row_at es key ≡ at key)
    → ((key : Key) (row : Texts) → at key ≡ Some row → key_in raw row ≡ key) → ((key : Key) → test key ≡ true → IsAbove above key) → ((key : Key) → IsAbove above key → test key ≡ true)
    → AreFirstRows raw at above limit (take limit (rows_of (filter (λ (e : Entry). test e.0) es)))
first_passing raw at test es above limit sorted same keyed only all =
    first_of_slots raw at (filter (λ (e : Entry). test e.0) es) above limit (passing_after test above es sorted (each es)) (own_stay test raw es (own_of raw None es whole (λ key row is. keyed key row (sym (same key) ∙ is))))
    (λ key is_above. same_there test key es (all key is_above) ∙ same key)
  where
    each : (xs : List Entry) → AllByRecursion (λ (e : Entry). test e.0 ≡ true → IsAbove above e.0) xs
    each [] = tt
    each (e ∷ xs) = (only e.0, each xs)

    any : (xs : List Entry) → AllByRecursion (λ y. IsAbove None y) (keys_of xs)
    any [] = tt
    any (e ∷ xs) = (tt, any xs)

    whole : AreBehind None es
    whole = in_order None es sorted (any es)

-- ---- rows that are gathered, slot by slot

-- one slot more
pub gathered_more : (rows : List RawRow) (e : Entry) (es : List Entry) → rows ++ rows_of (e ∷ es) ≡ (rows ++ option_to_list e.1.committed) ++ rows_of es
gathered_more rows e es = by e.1.committed ∙ sym (append_assoc rows (option_to_list e.1.committed) (rows_of es))
  where
    by : (o : Option RawRow) → rows ++ cons_option o (rows_of es) ≡ rows ++ (option_to_list o ++ rows_of es)
    by None = refl
    by (Some row) = refl

pub pushed_few : (rows : List RawRow) (o : Option RawRow) (limit : ℕ) → length rows < limit → length (rows ++ option_to_list o) ≤ limit
pushed_few rows None limit less = let long : length (rows ++ []) ≡ length rows = ap length (append-nil rows) in omega arith
pushed_few rows (Some row) limit less = let long : length (rows ++ row ∷ []) ≡ length rows + 1 = length-append rows (row ∷ []) in omega arith

-- where there are no more slots
pub gathered_all : (rows : List RawRow) (limit : ℕ) → length rows ≤ limit → take limit rows ≡ rows
gathered_all [] zero few = refl
gathered_all [] (suc limit) few = refl
gathered_all (row ∷ rows) zero few = absurd (omega arith)
gathered_all (row ∷ rows) (suc limit) few = ap (λ (l : List RawRow). row ∷ l) (gathered_all rows limit (omega arith))

-- where there are as many as are asked for
pub gathered_full : (rows more : List RawRow) (limit : ℕ) → length rows ≡ limit → take limit (rows ++ more) ≡ rows
gathered_full [] more zero full = refl
gathered_full [] more (suc limit) full = cc
gathered_full (row ∷ rows) more zero full = cc
gathered_full (row ∷ rows) more (suc limit) full = ap (λ (l : List RawRow). row ∷ l) (gathered_full rows more limit (omega arith))

-- ---- what is answered

module _ (tables : List DemoTable) (past : List Accepted) (s : List ℕ) (store : Tables) (st : Stands tables past store) where
  -- a table that isn't there
  pub select_unknown : (name : TableName) (above : Option Key) (limit : ℕ) → position_from (λ rows. same_name rows.table.info.name name) 0 store.tables.items ≡ None → SelectsCommitted tables past name above limit (Err errors.UnknownTable)
  select_unknown name above limit none =
      subst (λ (o : Option FoundTable). SelectsAt (committed_rows (log_tables tables) past) above limit o (Err errors.UnknownTable))
      (sym (ap (λ (l : List DemoTable). found l name) (sym st.tables_are) ∙ found_none store.tables.items 0 first_oid name none)) (inr refl)

  -- a row that is committed is at its key
  committed_keyed : (place : ℕ) (rows : Rows) → slice_get store.tables.items place ≡ Some rows → (key : Key) (row : Texts) → committed_rows (log_tables tables) past rows.table.info.name key ≡ Some row → key_in (raw_of rows.table) row ≡ key
  committed_keyed place rows there key row is =
      let kept = st.standing.keyed rows.table.info.name key row is in
      let own : log_table_named (log_tables tables) rows.table.info.name ≡ Some (log_table rows.table) = named_at_place tables past s store st place rows there in
      let e : kept.table ≡ log_table rows.table = (let has = kept.there in cc) in
      ap (λ (t : LogTable). key_in t.raw row) (sym e) ∙ kept.key_is

  module _ (name : TableName) (place : ℕ) (at_place : position_from (λ rows. same_name rows.table.info.name name) 0 store.tables.items ≡ Some place) (above : Option Key) (limit : ℕ) where
    -- the rows that are shown are those of the table at the place
    select_found : (rows : Rows) → slice_get store.tables.items place ≡ Some rows → (answer : List RawRow) → AreShown rows.table.info (committed_rows (log_tables tables) past rows.table.info.name) above limit answer → SelectsCommitted tables past name above limit (Ok answer)
    select_found rows there answer shown =
        let a = at_name tables past s store st name place at_place in
        let e : a.0 ≡ rows = (let same : Some a.0 ≡ Some rows = sym a.1 ∙ there in cc) in
        subst (λ (o : Option FoundTable). SelectsAt (committed_rows (log_tables tables) past) above limit o (Ok answer)) (sym a.2)
        (subst (λ (r : Rows). AreShown r.table.info (committed_rows (log_tables tables) past r.table.info.name) above limit answer) (sym e) shown)

    pub select_fails : SelectsCommitted tables past name above limit (Err errors.Memory)
    select_fails =
        let a = at_name tables past s store st name place at_place in
        subst (λ (o : Option FoundTable). SelectsAt (committed_rows (log_tables tables) past) above limit o (Err errors.Memory)) (sym a.2) refl

    -- above a key that isn't of the table's
    pub select_none : (rows : Rows) → slice_get store.tables.items place ≡ Some rows → (IfSome above (IsKeyOf rows.table.info) → ⊥) → SelectsCommitted tables past name above limit (Ok [])
    select_none rows there other = select_found rows there [] (record { none_above = λ none. refl; first = λ own. absurd (other own) })

    -- the first rows of its slots that a bound leaves
    pub select_rows : (rows : Rows) → slice_get store.tables.items place ≡ Some rows → (test : Key → Bool) → IfSome above (IsKeyOf rows.table.info) → IsStrictlySortedBy key_cmp (keys_of (base_of rows.cleared rows.slots).entries)
        → ((key : Key) → test key ≡ true → IsAbove above key) → ((key : Key) → IsAbove above key → test key ≡ true)
        → SelectsCommitted tables past name above limit (Ok (take limit (rows_of (filter (λ (e : Entry). test e.0) (base_of rows.cleared rows.slots).entries))))
    select_rows rows there test own sorted only all =
        select_found rows there (take limit (rows_of (filter (λ (e : Entry). test e.0) (base_of rows.cleared rows.slots).entries))) (record {
          none_above = λ none. absurd (none own);
          first = λ it. first_passing (catalogue_of rows.table.info) (committed_rows (log_tables tables) past rows.table.info.name) test (base_of rows.cleared rows.slots).entries above limit sorted
              (st.rows place rows there).committed (committed_keyed place rows there) only all;
        })

-- ---- the bounds of both ranges

passes_after : (bound key : Key) → is_lt (key_cmp bound key) ≡ true → key_cmp bound key ≡ Less
passes_after bound key is = by (key_cmp bound key) refl is
  where
    by : (o : Ordering) → key_cmp bound key ≡ o → is_lt o ≡ true → key_cmp bound key ≡ Less
    by Less order told = order
    by Equal order told = cc
    by Greater order told = cc

pub after_is_above : (above : Option Key) (key : Key) → comes_after above key ≡ true → IsAbove above key
after_is_above None key is = tt
after_is_above (Some bound) key is = passes_after bound key is

pub above_is_after : (above : Option Key) (key : Key) → IsAbove above key → comes_after above key ≡ true
above_is_after None key is = refl
above_is_after (Some bound) key is = ap is_lt is

-- the slots of a range are those after its bound
and_yes : (b : Bool) → (b && true) ≡ b
and_yes true = refl
and_yes false = refl

same_tests : (p q : Entry → Bool) → ((e : Entry) → p e ≡ q e) → p ≡ q
same_tests p q same = λ i e. same e i

after_test : (bound : Key) (e : Entry) → range_contains derived_cmp (Excluded bound) Unbounded e.0 ≡ comes_after (Some bound) e.0
after_test bound e = and_yes (is_lt (derived_cmp bound e.0)) ∙ ap is_lt (derived_order bound e.0)

pub range_after : (slots : Slots) (bound : Key) (range : List Entry) → range ≡ entries_between derived_cmp (Excluded bound) Unbounded slots.entries → range ≡ filter (λ (e : Entry). comes_after (Some bound) e.0) slots.entries
range_after slots bound range between = between ∙ ap (λ (t : Entry → Bool). filter t slots.entries) (same_tests (λ e. range_contains derived_cmp (Excluded bound) Unbounded e.0) (λ e. comes_after (Some bound) e.0) (after_test bound))
