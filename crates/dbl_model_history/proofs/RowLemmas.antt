-- The rows after lists of changes that are put together, and the widths of rows.
use Rattle.std.proofs.Common.{◌≡◌, ◌≢◌, ◌∙◌, ◌+◌, ◌≤◌, ℕ, suc, Bool, true, false, Option, Some, None, List, [], ◌∷◌, ◌++◌, length, map, take, refl, sym, ap, arith, append_assoc}
use Rattle.std.specs.Prelude.{◌==◌, option_map}
use Rattle.std.proofs.lemmas.List.{take-append-le}
use Rattle.std.proofs.lemmas.Bool.Decides.{Decides-eqb}
use Rattle.dbl_value_types.specs.declared.value.Val.{Val}
use Rattle.dbl_model_table.specs.declared.row.Key.{Key}
use Rattle.dbl_model_table.specs.declared.row.Row.{Row}
use Rattle.dbl_model_table.specs.declared.change.Cell.{Cell}
use Rattle.dbl_model_table.specs.declared.change.Cell.TheVariants.{Given, Unchanged}
use Rattle.dbl_model_table.specs.declared.change.Change.{Change}
use Rattle.dbl_model_table.specs.declared.change.Change.TheVariants.{Insert, Update, Delete, Clear}
use Rattle.dbl_model_table.specs.declared.change.Commit.{Commit}
use Rattle.dbl_model_table.specs.declared.table.TableInfo.{TableInfo}
use Rattle.dbl_model_table.specs.Infos.{key_places}
use Rattle.dbl_model_table.specs.Keys.{same_key, key_at, given_or_null}
use Rattle.dbl_model_table.specs.Rows.{Effect, all_given, updated, at_key, at_keys, effect_of, overlay, Rows, no_rows, rows_after, rows_from, rows_at, rows, table_of, changes_of, all_changes}
use Rattle.dbl_model_table.specs.Rows.Effect.{Stays, Whole, Ends}
use Rattle.dbl_model_history.specs.Fit.{IsFit, AreFit}
use Rattle.dbl_model_table.proofs.KeyLemmas.{same_key-other}

-- ---- lists that are put together

pub rows_from-append : (infos : List TableInfo) (at : Rows) (cs ds : List Change) → rows_from infos at (cs ++ ds) ≡ rows_from infos (rows_from infos at cs) ds
rows_from-append infos at [] ds = refl
rows_from-append infos at (c ∷ cs) ds = rows_from-append infos (rows_after infos c at) cs ds

pub all_changes-append : (cs ds : List Commit) → all_changes (cs ++ ds) ≡ all_changes cs ++ all_changes ds
all_changes-append [] ds = refl
all_changes-append (c ∷ cs) ds = ap (λ (l : List Change). changes_of c ++ l) (all_changes-append cs ds) ∙ sym (append_assoc (changes_of c) (all_changes cs) (all_changes ds))

pub take-length-append : {A : Type 0} (xs ys : List A) (n : ℕ) → take (length xs + n) (xs ++ ys) ≡ xs ++ take n ys
take-length-append [] ys n = let e : 0 + n ≡ n = omega arith in ap (λ (k : ℕ). take k ys) e
take-length-append (x ∷ xs) ys n = let e : suc (length xs) + n ≡ suc (length xs + n) = omega arith in ap (λ (k : ℕ). take k (x ∷ (xs ++ ys))) e ∙ ap (λ (l : List _). x ∷ l) (take-length-append xs ys n)

-- a longer history has the same rows at each earlier moment
pub rows_at-longer : (infos : List TableInfo) (cs ds : List Change) (moment : ℕ) → moment ≤ length cs → rows_at infos (cs ++ ds) moment ≡ rows_at infos cs moment
rows_at-longer infos cs ds moment le = ap (rows_from infos no_rows) (take-append-le moment cs ds le)

-- after some changes of a history the rows are those of the rest
pub rows_at-more : (infos : List TableInfo) (cs ds : List Change) (n : ℕ) → rows_at infos (cs ++ ds) (length cs + n) ≡ rows_from infos (rows_from infos no_rows cs) (take n ds)
rows_at-more infos cs ds n = ap (rows_from infos no_rows) (take-length-append cs ds n) ∙ rows_from-append infos no_rows cs (take n ds)

-- the moment after whole commits and some changes of the next one: its rows are those of these commits, and then of these changes
pub rows-by_commit : (infos : List TableInfo) (hs : List Commit) (c : Commit) (later : List Commit) (j : ℕ) → j ≤ length (changes_of c)
    → rows infos (hs ++ c ∷ later) (length (all_changes hs) + j) ≡ rows_from infos no_rows (all_changes hs ++ take j (changes_of c))
rows-by_commit infos hs c later j le = ap (rows_from infos no_rows)
    (ap (take (length (all_changes hs) + j)) (all_changes-append hs (c ∷ later))
    ∙ (take-length-append (all_changes hs) (changes_of c ++ all_changes later) j
    ∙ ap (λ (l : List Change). all_changes hs ++ l) (take-append-le j (changes_of c) (all_changes later) le)))

-- ---- other tables and keys

pub other_table : (t u : ℕ) → t ≢ u → (t == u) ≡ false
other_table t u other = step (t == u) (λ h. other ((Decides-eqb t u).0 h))
  where
    step : (b : Bool) → (b ≡ true → ⊥) → b ≡ false
    step true no_case = absurd (no_case refl)
    step false no_case = refl

pub effect_of-other_table : (infos : List TableInfo) (c : Change) (table : ℕ) (key : Key) → table_of c ≢ table → effect_of infos c table key ≡ Stays
effect_of-other_table infos (Insert t row) table key other = ap (λ (b : Bool). at_key b (same_key (key_at (key_places infos t) row.cells) key) (Whole row.cells)) (other_table t table other)
effect_of-other_table infos (Update t from old cells) table key other =
    ap (λ (b : Bool). at_keys b (same_key (key_at (key_places infos t) (map given_or_null cells)) key) (same_key from key) (updated (all_given cells) cells)) (other_table t table other)
effect_of-other_table infos (Delete t from old) table key other = ap (λ (b : Bool). at_key b (same_key from key) Ends) (other_table t table other)
effect_of-other_table infos (Clear t) table key other = ap (λ (b : Bool). at_key b true Ends) (other_table t table other)

at_key-other : (b : Bool) (e : Effect) → at_key b false e ≡ Stays
at_key-other true e = refl
at_key-other false e = refl

at_keys-other : (b : Bool) (e : Effect) → at_keys b false false e ≡ Stays
at_keys-other true e = refl
at_keys-other false e = refl

pub insert_leaves : (infos : List TableInfo) (t : ℕ) (row : Row) (table : ℕ) (key : Key) → key_at (key_places infos t) row.cells ≢ key → effect_of infos (Insert t row) table key ≡ Stays
insert_leaves infos t row table key other =
    ap (λ (b : Bool). at_key (t == table) b (Whole row.cells)) (same_key-other (key_at (key_places infos t) row.cells) key other) ∙ at_key-other (t == table) (Whole row.cells)

pub update_leaves : (infos : List TableInfo) (t : ℕ) (from : Key) (old : Option Row) (cells : List Cell) (table : ℕ) (key : Key) → key_at (key_places infos t) (map given_or_null cells) ≢ key → from ≢ key → effect_of infos (Update t from old cells) table key ≡ Stays
update_leaves infos t from old cells table key other_new other_old =
    ap (λ (b : Bool). at_keys (t == table) b (same_key from key) (updated (all_given cells) cells)) (same_key-other (key_at (key_places infos t) (map given_or_null cells)) key other_new)
    ∙ (ap (λ (b : Bool). at_keys (t == table) false b (updated (all_given cells) cells)) (same_key-other from key other_old) ∙ at_keys-other (t == table) (updated (all_given cells) cells))

pub delete_leaves : (infos : List TableInfo) (t : ℕ) (from : Key) (old : Row) (table : ℕ) (key : Key) → from ≢ key → effect_of infos (Delete t from old) table key ≡ Stays
delete_leaves infos t from old table key other = ap (λ (b : Bool). at_key (t == table) b Ends) (same_key-other from key other) ∙ at_key-other (t == table) Ends

-- ---- fit changes

pub AreFit-at : (infos : List TableInfo) (at : Rows) (cs : List Change) (c : Change) (ds : List Change) → AreFit infos at (cs ++ c ∷ ds) → IsFit infos (rows_from infos at cs) c
AreFit-at infos at [] c ds fit = fit.0
AreFit-at infos at (b ∷ cs) c ds fit = AreFit-at infos (rows_after infos b at) cs c ds fit.1

pub AreFit-before : (infos : List TableInfo) (at : Rows) (cs ds : List Change) → AreFit infos at (cs ++ ds) → AreFit infos at cs
AreFit-before infos at [] ds fit = tt
AreFit-before infos at (c ∷ cs) ds fit = (fit.0, AreFit-before infos (rows_after infos c at) cs ds fit.1)

pub AreFit-append : (infos : List TableInfo) (at : Rows) (cs ds : List Change) → AreFit infos at cs → AreFit infos (rows_from infos at cs) ds → AreFit infos at (cs ++ ds)
AreFit-append infos at [] ds fit more = more
AreFit-append infos at (c ∷ cs) ds fit more = (fit.0, AreFit-append infos (rows_after infos c at) cs ds fit.1 more)

-- ---- widths

pub length-overlay : (cells : List Cell) (row : List Val) → length (overlay cells row) ≡ length row
length-overlay [] row = refl
length-overlay (cell ∷ cells) [] = refl
length-overlay (Given v ∷ cells) (x ∷ row) = ap suc (length-overlay cells row)
length-overlay (Unchanged ∷ cells) (x ∷ row) = ap suc (length-overlay cells row)

pub length-all_given : (cells : List Cell) (row : List Val) → all_given cells ≡ Some row → length row ≡ length cells
length-all_given [] row h = let e : [] ≡ row = cc in ap length (sym e)
length-all_given (Given v ∷ cells) row h = step (all_given cells) h (length-all_given cells)
  where
    step : (o : Option (List Val)) → option_map (λ r. v ∷ r) o ≡ Some row → ((r : List Val) → o ≡ Some r → length r ≡ length cells) → length row ≡ suc (length cells)
    step None e same = cc
    step (Some r) e same = let f : v ∷ r ≡ row = cc in ap length (sym f) ∙ ap suc (same r refl)
length-all_given (Unchanged ∷ cells) row h = cc
