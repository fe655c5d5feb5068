-- What changes leave of a window's rows is no more than they were: each of its keys was there, and no two are one.
use Rattle.std.proofs.Common.{◌≡◌, ◌∙◌, ◌≤◌, ℕ, suc, Bool, true, false, cond, Option, Some, None, List, [], ◌∷◌, length, refl, sym, ap, arith}
use Rattle.std.specs.Prelude.{if◌then◌else◌}
use Rattle.std.specs.List.Sorted.{IsStrictlySortedBy}
use Rattle.dbl_value_types.specs.declared.value.Val.{Val}
use Rattle.dbl_model_table.specs.declared.change.Change.{Change}
use Rattle.dbl_model_table.specs.declared.row.Key.{Key}
use Rattle.dbl_model_table.specs.declared.row.Row.{Row}
use Rattle.dbl_model_table.specs.declared.table.TableInfo.{TableInfo}
use Rattle.dbl_model_table.specs.Keys.{same_key}
use Rattle.dbl_model_table.specs.Rows.{Effect, effect_of}
use Rattle.dbl_model_table.specs.Rows.Effect.{Stays, Whole, Part, Ends}
use Rattle.dbl_model_table.proofs.KeyLemmas.{same_key-is}
use Rattle.dbl_capture_work.specs.ModelHistory.KeyedRows.{row_in, row_left}
use Rattle.dbl_capture_work.proofs.ModelHistoryBoundLemmas.{row_in-first}
use Rattle.dbl_capture_work.specs.ModelEvent.Snapshots.{AreInKeyOrder}
use Rattle.dbl_capture_work.specs.Window.Changing.{AreLeft, left_from}
use Rattle.dbl_capture_work.proofs.WindowOrderLemmas.{lacks, row_past}

-- ---- the rows without one key

abbrev without : Key → List (Key × Row) → List (Key × Row)
without key [] = []
without key (entry ∷ rows) = if same_key entry.0 key then rows else entry ∷ without key rows

-- they are one fewer, where the key has a row
one_fewer : (key : Key) (rows : List (Key × Row)) (cells : List Val) → row_in rows key ≡ Some cells → length rows ≡ suc (length (without key rows))
one_fewer key [] cells is = cc
one_fewer key (entry ∷ rows) cells is = by (same_key entry.0 key) (one_fewer key rows cells) is
  where
    by : (b : Bool) → (row_in rows key ≡ Some cells → length rows ≡ suc (length (without key rows))) → cond b (Some entry.1.cells) (row_in rows key) ≡ Some cells
        → suc (length rows) ≡ suc (length (cond b rows (entry ∷ without key rows)))
    by true rest here = refl
    by false rest here = ap suc (rest here)

-- and other keys have the rows that they had
still_there : (key other : Key) (rows : List (Key × Row)) → same_key key other ≡ false → row_in (without key rows) other ≡ row_in rows other
still_there key other [] apart = refl
still_there key other (entry ∷ rows) apart = by (same_key entry.0 key) refl (still_there key other rows apart)
  where
    by : (b : Bool) → same_key entry.0 key ≡ b → row_in (without key rows) other ≡ row_in rows other
        → row_in (cond b rows (entry ∷ without key rows)) other ≡ cond (same_key entry.0 other) (Some entry.1.cells) (row_in rows other)
    by true is rest =
        let same : entry.0 ≡ key = same_key-is entry.0 key is in
        sym (ap (λ (c : Bool). cond c (Some entry.1.cells) (row_in rows other)) (ap (λ (k : Key). same_key k other) same ∙ apart))
    by false is rest = ap (λ (o : Option (List Val)). cond (same_key entry.0 other) (Some entry.1.cells) o) rest

-- ---- as many keys

no_less : (n : ℕ) → 0 ≤ n
no_less n = omega arith

one_more : (a b c : ℕ) → a ≤ b → c ≡ suc b → suc a ≤ c
one_more a b c le is = omega (arith, le, is)

-- a key after the first one is another
other_key : (entry : Key × Row) (left : List (Key × Row)) (key : Key) (cells : List Val) → AreInKeyOrder (entry ∷ left) → row_in left key ≡ Some cells → same_key entry.0 key ≡ false
unfolding IsStrictlySortedBy
other_key entry left key cells order is = by (same_key entry.0 key) refl
  where
    by : (b : Bool) → same_key entry.0 key ≡ b → b ≡ false
    by true same = let wrong : None ≡ Some cells = sym (lacks entry.0 left order.0) ∙ (ap (row_in left) (same_key-is entry.0 key same) ∙ is) in cc
    by false same = refl

no_longer : (left rows : List (Key × Row)) → AreInKeyOrder left → ((key : Key) (cells : List Val) → row_in left key ≡ Some cells → (held : List Val) × (row_in rows key ≡ Some held)) → length left ≤ length rows
unfolding IsStrictlySortedBy
no_longer [] rows order among = no_less (length rows)
no_longer (entry ∷ left) rows order among =
    let here = among entry.0 entry.1.cells (row_in-first entry left) in
    one_more (length left) (length (without entry.0 rows)) (length rows)
    (no_longer left (without entry.0 rows) order.1 (λ key cells is.
    let apart = other_key entry left key cells order is in
    let held = among key cells (row_past entry left key apart ∙ is) in
    (held.0, still_there entry.0 key rows apart ∙ held.1)))
    (one_fewer entry.0 rows here.0 here.1)

-- ---- what is left

none_stays : (effect : Effect) → row_left effect None ≡ None
none_stays Stays = refl
none_stays (Whole new) = refl
none_stays (Part cells) = refl
none_stays Ends = refl

none_left : (infos : List TableInfo) (table : ℕ) (key : Key) (changes : List Change) → left_from infos table key None changes ≡ None
none_left infos table key [] = refl
none_left infos table key (change ∷ changes) = ap (λ (o : Option (List Val)). left_from infos table key o changes) (none_stays (effect_of infos change table key)) ∙ none_left infos table key changes

pub left_fewer : (infos : List TableInfo) (table : ℕ) (rows left : List (Key × Row)) (changes : List Change) → AreLeft infos table rows changes left → AreInKeyOrder left → length left ≤ length rows
left_fewer infos table rows left changes are order = no_longer left rows order (λ key cells is. by key cells (row_in rows key) refl (sym (are key) ∙ is))
  where
    by : (key : Key) (cells : List Val) (o : Option (List Val)) → row_in rows key ≡ o → left_from infos table key (row_in rows key) changes ≡ Some cells → (held : List Val) × (row_in rows key ≡ Some held)
    by key cells None at is =
        let wrong : None ≡ Some cells = sym (none_left infos table key changes) ∙ (ap (λ (o : Option (List Val)). left_from infos table key o changes) (sym at) ∙ is) in
        cc
    by key cells (Some held) at is = (held, at)
