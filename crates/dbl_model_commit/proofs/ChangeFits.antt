-- Changes that messages state fit what is captured.
use Rattle.std.proofs.Common.{◌≡◌, inl, inr, ℕ, zero, suc, ◌+◌, ◌<◌, List, [], ◌∷◌, ◌++◌, length, refl, sym, ap, subst, arith}
use Rattle.std.proofs.lemmas.Bool.{eqb-true}
use Rattle.std.specs.Prelude.{◌⊎◌, Bool, true, false, not, ◌&&◌, ◌||◌, ◌==◌, nat_eq, if◌then◌else◌, Option, Some, None, is_some, option_map, IfSome, IsSome, IsSomeAnd, Result, Ok, Err, slice_get}
use Rattle.std.specs.List.{AllByRecursion, list_any, list_all, position_from}
use Rattle.dbl_pgmsg.specs.declared.messages.Message.{Message}
use Rattle.dbl_pgmsg.specs.declared.messages.Message.TheVariants as says
use Rattle.dbl_pgmsg.specs.declared.messages.Tuple.{Tuple}
use Rattle.dbl_pgmsg.specs.declared.messages.TupleCell.{TupleCell}
use Rattle.dbl_pgmsg.specs.declared.messages.OldTuple.{OldTuple}
use Rattle.dbl_pgmsg.specs.declared.messages.OldTuple.TheVariants as old
use Rattle.dbl_pgmsg.specs.Grammar.{FitsCell, FitsTuple, FitsOld, FitsOptional, FitsFields}
use Rattle.dbl_value_types.specs.declared.value.Val.{Val}
use Rattle.dbl_model_table.specs.declared.table.Column.{Column}
use Rattle.dbl_model_table.specs.declared.table.TableName.{TableName}
use Rattle.dbl_model_table.specs.declared.table.TableInfo.{TableInfo}
use Rattle.dbl_model_table.specs.declared.row.Key.{Key}
use Rattle.dbl_model_table.specs.declared.row.Row.{Row}
use Rattle.dbl_model_table.specs.declared.change.Cell.{Cell}
use Rattle.dbl_model_table.specs.declared.change.Cell.TheVariants.{Given, Unchanged}
use Rattle.dbl_model_table.specs.declared.change.Change.{Change}
use Rattle.dbl_model_table.specs.declared.change.Change.TheVariants.{Insert, Update, Delete}
use Rattle.dbl_model_table.specs.declared.change.Commit.{Commit}
use Rattle.dbl_model_commit.specs.declared.message_parts.Relation.{Relation}
use Rattle.dbl_model_commit.specs.declared.message_parts.RowChange.{RowChange}
use Rattle.dbl_model_commit.specs.declared.message_parts.RowChange.TheVariants as row
use Rattle.dbl_model_commit.specs.declared.message_parts.Target.{Target}
use Rattle.dbl_model_commit.specs.declared.message_parts.Target.TheVariants.{Watermark, Captured, Passed}
use Rattle.dbl_model_commit.specs.declared.txn_error.TxnError.{TxnError}
use Rattle.dbl_model_commit.specs.declared.txn_error.TxnError.TheVariants as errors
use Rattle.dbl_model_table.specs.Infos.{width, column_types}
use Rattle.dbl_model_table.specs.Keys.{key_of, new_key_of, same_key}
use Rattle.dbl_model_table.specs.Rows.{all_given, changes_of, table_of}
use Rattle.dbl_model_history.specs.Fit.{IsKeyOf}
use Rattle.dbl_model_history.specs.FitsInfos.{AreCellsOf, FitsInsert, FitsUpdate, FitsDelete, FitsInfos}
use Rattle.dbl_model_commit.specs.Past.{relation_of, Head, begin_of, mark_in, open_mark}
use Rattle.dbl_model_commit.specs.Tuples.{◌>>=◌, refuse_if, some_or, is_key_place, is_flagged, is_read, each_from, row_cell, row_of, old_row, old_row_if_sent, is_whole, next_cell, new_cells, is_unsent, unsent_fault, key_before, all_sent_if_moved, key_in_identity, is_full, change_of}
use Rattle.dbl_model_commit.specs.Stated.{target, in_table, row_stated, targets_at, is_the_watermark, clears, has_some, truncate_stated, stated_in, ok_or_none, open_changes, body_of, commit_of, list_of, commits_of}
use Rattle.dbl_model_commit.specs.StatedFits.{FitCommits}
use Rattle.dbl_model_table.proofs.Lists.{and_left, and_right, slice_get-lt}
use Rattle.dbl_model_table.proofs.InfoLemmas.{places_within}
use Rattle.dbl_model_table.proofs.KeyLemmas.{same_key-is}
use Rattle.dbl_model_commit.proofs.Learning.{IsWithin, target_within}
use Rattle.dbl_model_commit.proofs.CellFits.{IsReadAs, IsSentAs, each_read, row_read, new_read, AreValues, AreCells, WasRead, values_fit, cells_fit, key_fits, value_at_key, cell_at_key}

-- what stands before in a chain of readings
pub record Bound {A B : Type 0} (r : Result A TxnError) (f : A → Result B TxnError) (y : B) : Type 0 where
  pub item : A
  pub first : r ≡ Ok item
  pub rest : f item ≡ Ok y

pub bound : {A B : Type 0} (r : Result A TxnError) (f : A → Result B TxnError) (y : B) → (r >>= f) ≡ Ok y → Bound r f y
bound (Ok x) f y is = record { item = x; first = refl; rest = is }
bound (Err e) f y is = cc

allowed : (b : Bool) (e : TxnError) (u : Unit {0}) → refuse_if b e ≡ Ok u → b ≡ false
allowed true e u is = cc
allowed false e u is = refl

not_false : (b : Bool) → not b ≡ false → b ≡ true
not_false true is = refl
not_false false is = cc

some_was : (o : Option Relation) (e : TxnError) (r : Relation) → some_or o e ≡ Ok r → o ≡ Some r
some_was None e r is = cc
some_was (Some x) e r is = let e : x ≡ r = cc in ap (λ y. Some y) e

all_append : {A : Type 0} (P : A → Type 0) (xs ys : List A) → AllByRecursion P xs → AllByRecursion P ys → AllByRecursion P (xs ++ ys)
all_append P [] ys all more = more
all_append P (x ∷ xs) ys all more = (all.0, all_append P xs ys all.1 more)

-- ---- rows

row_values : (info : TableInfo) (relation : Relation) (whole : Bool) (cells : List TupleCell) (r : Row) → AllByRecursion FitsCell cells
    → ((place : ℕ) → is_key_place info place ≡ true → is_read relation whole place ≡ true) → row_of info relation whole cells ≡ Ok r → AreValues info r.cells
unfolding row_of
row_values info relation whole cells r fits must is = by (length cells == width info) refl is
  where
    with_width : length cells ≡ length info.columns → (o : Result (List Val) TxnError) → each_from (row_cell info relation whole) 0 info.columns cells ≡ o → (o >>= λ values. Ok (record { cells = values })) ≡ Ok r → AreValues info r.cells
    with_width len (Err e) same told = cc
    with_width len (Ok values) same told =
        let e : record { cells = values } ≡ r = cc in
        subst (λ (x : Row). AreValues info x.cells) e
        (each_read (λ place column v. IsReadAs (is_key_place info place) column.ty v) (row_cell info relation whole) info.columns
        (λ place column c v at fit read. row_read info relation whole place column c v fit (must place) read)
        0 info.columns cells values (λ j. let n : j ≡ 0 + j = omega arith in ap (slice_get info.columns) n) len fits same)

    by : (b : Bool) → (length cells == width info) ≡ b
        → ((if b then each_from (row_cell info relation whole) 0 info.columns cells else Err (errors.ColumnCount (width info) (length cells))) >>= λ values. Ok (record { cells = values })) ≡ Ok r → AreValues info r.cells
    by false same told = cc
    by true same told = with_width (eqb-true (length cells) (width info) same) (each_from (row_cell info relation whole) 0 info.columns cells) refl told

new_values : (info : TableInfo) (relation : Relation) (whole : Bool) (before : Option Row) (cells : List TupleCell) (out : List Cell) → WasRead info before → AllByRecursion FitsCell cells
    → new_cells info relation whole before cells ≡ Ok out → AreCells info out
unfolding new_cells
new_values info relation whole before cells out was fits is = by (length cells == width info) refl is
  where
    by : (b : Bool) → (length cells == width info) ≡ b
        → (if b then each_from (next_cell info relation whole before) 0 info.columns cells else Err (errors.ColumnCount (width info) (length cells))) ≡ Ok out → AreCells info out
    by false same told = cc
    by true same told =
        each_read (λ place column c. IsSentAs (is_key_place info place) column.ty c) (next_cell info relation whole before) info.columns
        (λ place column t c at fit read. new_read info relation whole before place column t c was at (slice_get-lt info.columns place column at) fit read)
        0 info.columns cells out (λ j. let n : j ≡ 0 + j = omega arith in ap (slice_get info.columns) n) (eqb-true (length cells) (width info) same) fits told

row_key : (info : TableInfo) (values : List Val) → AreValues info values → IsKeyOf info (key_of info values)
row_key info values all = key_fits info.columns values info.key (places_within info) (λ place some lt. value_at_key info values place all some lt)

new_row_key : (info : TableInfo) (cells : List Cell) → AreCells info cells → IsKeyOf info (new_key_of info cells)
new_row_key info cells all = key_fits info.columns _ info.key (places_within info) (λ place some lt. cell_at_key info cells place all some lt)

at_any : (p : ℕ → Bool) (q : ℕ) (places : List ℕ) → list_all p places ≡ true → list_any (nat_eq q) places ≡ true → p q ≡ true
at_any p q [] all any = cc
at_any p q (k ∷ places) all any = by (nat_eq q k) refl any (at_any p q places (and_right (p k) (list_all p places) all))
  where
    by : (b : Bool) → nat_eq q k ≡ b → (b || list_any (nat_eq q) places) ≡ true → (list_any (nat_eq q) places ≡ true → p q ≡ true) → p q ≡ true
    by true same any below = let e : q ≡ k = eqb-true q k same in subst (λ (n : ℕ). p n ≡ true) (sym e) (and_left (p k) (list_all p places) all)
    by false same any below = below any

key_flagged : (info : TableInfo) (relation : Relation) → key_in_identity info relation ≡ true → (place : ℕ) → is_key_place info place ≡ true → is_read relation false place ≡ true
unfolding key_in_identity
key_flagged info relation identity place key = at_any (is_flagged relation) place info.key identity key

old_values : (info : TableInfo) (relation : Relation) (before : OldTuple) (r : Row) → FitsOld before → key_in_identity info relation ≡ true → old_row info relation before ≡ Ok r → AreValues info r.cells
old_values info relation (old.Key tuple) r fits identity is = row_values info relation false tuple.cells r fits.each (key_flagged info relation identity) is
old_values info relation (old.Whole tuple) r fits identity is = row_values info relation true tuple.cells r fits.each (λ place key. refl) is

was_values : (info : TableInfo) (relation : Relation) (before : Option OldTuple) (o : Option Row) → FitsOptional before → key_in_identity info relation ≡ true → old_row_if_sent info relation before ≡ Ok o → WasRead info o
was_values info relation None o fits identity is = let e : None ≡ o = cc in subst (WasRead info) e tt
was_values info relation (Some before) o fits identity is =
    let b = bound (old_row info relation before) (λ r. Ok (Some r)) o is in
    let e : Some b.item ≡ o = (let h = b.rest in cc) in
    subst (WasRead info) e (old_values info relation before b.item fits identity b.first)

-- ---- changes

captured : (infos : List TableInfo) (table : ℕ) (info : TableInfo) (P : TableInfo → Type 0) → slice_get infos table ≡ Some info → P info → IsSomeAnd (slice_get infos table) P
captured infos table info P at p = subst (λ o. IsSomeAnd o P) (sym at) p

insert_fits : (infos : List TableInfo) (table : ℕ) (info : TableInfo) (relation : Relation) (tuple : Tuple) (c : Change) → slice_get infos table ≡ Some info → FitsTuple tuple
    → change_of table info relation (row.Insert tuple) ≡ Ok c → FitsInfos infos c
unfolding change_of
insert_fits infos table info relation tuple c at fits is =
    let b = bound (row_of info relation true tuple.cells) (λ r. Ok (Insert table r)) c is in
    let values = row_values info relation true tuple.cells b.item fits.each (λ place key. refl) b.first in
    let e : Insert table b.item ≡ c = (let h = b.rest in cc) in
    let fit : FitsInsert info b.item = record { cells = values_fit info 0 info.columns b.item.cells values; key = row_key info b.item.cells values } in
    subst (FitsInfos infos) e (captured infos table info (λ (i : TableInfo). FitsInsert i b.item) at fit)

abbrev deletes : ℕ → TableInfo → Relation → OldTuple → Unit {0} → Result Change TxnError
deletes table info relation before u = old_row info relation before >>= λ was. Ok (Delete table (key_of info was.cells) was)

delete_fits : (infos : List TableInfo) (table : ℕ) (info : TableInfo) (relation : Relation) (before : OldTuple) (c : Change) → slice_get infos table ≡ Some info → FitsOld before
    → change_of table info relation (row.Delete before) ≡ Ok c → FitsInfos infos c
unfolding change_of
delete_fits infos table info relation before c at fits is =
    let a = bound (refuse_if (not (key_in_identity info relation)) (errors.KeyNotInIdentity info.name)) (deletes table info relation before) c is in
    let identity = not_false (key_in_identity info relation) (allowed (not (key_in_identity info relation)) (errors.KeyNotInIdentity info.name) a.item a.first) in
    let b = bound (old_row info relation before) (λ was. Ok (Delete table (key_of info was.cells) was)) c a.rest in
    let values = old_values info relation before b.item fits identity b.first in
    let e : Delete table (key_of info b.item.cells) b.item ≡ c = (let h = b.rest in cc) in
    let fit : FitsDelete info (key_of info b.item.cells) b.item = record { old = values_fit info 0 info.columns b.item.cells values; old_key = row_key info b.item.cells values } in
    subst (FitsInfos infos) e (captured infos table info (λ (i : TableInfo). FitsDelete i (key_of info b.item.cells) b.item) at fit)

some_mapped : (v : Val) (o : Option (List Val)) → IsSome o → IsSome (option_map (λ r. v ∷ r) o)
some_mapped v (Some r) is = refl
some_mapped v None is = cc

all_sent : (i : ℕ) (cells : List Cell) → position_from is_unsent i cells ≡ None → IsSome (all_given cells)
all_sent i [] is = refl
all_sent i (Given v ∷ cells) is = some_mapped v (all_given cells) (all_sent (i + 1) cells is)
all_sent i (Unchanged ∷ cells) is = cc

none_at : (table : TableName) (columns : List Column) (o : Option ℕ) (u : Unit {0}) → unsent_fault table columns o ≡ Ok u → o ≡ None
none_at table columns None u is = refl
none_at table columns (Some place) u is = cc

stays_or_moves : (info : TableInfo) (key : Key) (cells : List Cell) (u : Unit {0}) → all_sent_if_moved info key cells ≡ Ok u → (key ≡ new_key_of info cells) ⊎ IsSome (all_given cells)
unfolding all_sent_if_moved
stays_or_moves info key cells u is = by (same_key key (new_key_of info cells)) refl is
  where
    by : (b : Bool) → same_key key (new_key_of info cells) ≡ b → (if b then Ok tt else unsent_fault info.name info.columns (position_from is_unsent 0 cells)) ≡ Ok u → (key ≡ new_key_of info cells) ⊎ IsSome (all_given cells)
    by true same told = inl (same_key-is key (new_key_of info cells) same)
    by false same told = inr (all_sent 0 cells (none_at info.name info.columns (position_from is_unsent 0 cells) u told))

before_key : (info : TableInfo) (was : Option Row) (cells : List Cell) → WasRead info was → AreCells info cells → IsKeyOf info (key_before info was cells)
unfolding key_before
before_key info None cells read all = new_row_key info cells all
before_key info (Some r) cells read all = row_key info r.cells read

was_fits : (info : TableInfo) (was : Option Row) → WasRead info was → IfSome was (λ r. AreCellsOf (column_types info) r.cells)
was_fits info None read = tt
was_fits info (Some r) read = values_fit info 0 info.columns r.cells read

abbrev updates_5 : ℕ → TableInfo → Option Row → List Cell → Unit {0} → Result Change TxnError
updates_5 table info was cells u = Ok (Update table (key_before info was cells) was cells)

abbrev updates_4 : ℕ → TableInfo → Option Row → List Cell → Result Change TxnError
updates_4 table info was cells = all_sent_if_moved info (key_before info was cells) cells >>= updates_5 table info was cells

abbrev updates_3 : ℕ → TableInfo → Relation → Option OldTuple → Tuple → Option Row → Result Change TxnError
updates_3 table info relation before tuple was = new_cells info relation (is_whole before) was tuple.cells >>= updates_4 table info was

abbrev updates_2 : ℕ → TableInfo → Relation → Option OldTuple → Tuple → Unit {0} → Result Change TxnError
updates_2 table info relation before tuple u = old_row_if_sent info relation before >>= updates_3 table info relation before tuple

abbrev updates_1 : ℕ → TableInfo → Relation → Option OldTuple → Tuple → Unit {0} → Result Change TxnError
updates_1 table info relation before tuple u = refuse_if (is_full relation && not (is_whole before)) (errors.MissingOld info.name) >>= updates_2 table info relation before tuple

update_fits : (infos : List TableInfo) (table : ℕ) (info : TableInfo) (relation : Relation) (before : Option OldTuple) (tuple : Tuple) (c : Change) → slice_get infos table ≡ Some info → FitsOptional before → FitsTuple tuple
    → change_of table info relation (row.Update before tuple) ≡ Ok c → FitsInfos infos c
unfolding change_of
update_fits infos table info relation before tuple c at fits_old fits is =
    let a = bound (refuse_if (not (key_in_identity info relation)) (errors.KeyNotInIdentity info.name)) (updates_1 table info relation before tuple) c is in
    let identity = not_false (key_in_identity info relation) (allowed (not (key_in_identity info relation)) (errors.KeyNotInIdentity info.name) a.item a.first) in
    let b = bound (refuse_if (is_full relation && not (is_whole before)) (errors.MissingOld info.name)) (updates_2 table info relation before tuple) c a.rest in
    let was = bound (old_row_if_sent info relation before) (updates_3 table info relation before tuple) c b.rest in
    let new = bound (new_cells info relation (is_whole before) was.item tuple.cells) (updates_4 table info was.item) c was.rest in
    let key = key_before info was.item new.item in
    let moved = bound (all_sent_if_moved info key new.item) (updates_5 table info was.item new.item) c new.rest in
    let read = was_values info relation before was.item fits_old identity was.first in
    let cells = new_values info relation (is_whole before) was.item tuple.cells new.item read fits.each new.first in
    let e : Update table key was.item new.item ≡ c = (let h = moved.rest in cc) in
    let fit : FitsUpdate info key was.item new.item = record {
      old = was_fits info was.item read;
      cells = cells_fit info 0 info.columns new.item cells;
      old_key = before_key info was.item new.item read cells;
      new_key = new_row_key info new.item cells;
      stays_or_moves = stays_or_moves info key new.item moved.item moved.first;
    } in
    subst (FitsInfos infos) e (captured infos table info (λ (i : TableInfo). FitsUpdate i key was.item new.item) at fit)

abbrev FitsRow : RowChange → Type 0
FitsRow (row.Insert tuple) = FitsTuple tuple
FitsRow (row.Update before tuple) = FitsOptional before × FitsTuple tuple
FitsRow (row.Delete before) = FitsOld before

change_fits : (infos : List TableInfo) (table : ℕ) (info : TableInfo) (relation : Relation) (change : RowChange) (c : Change) → slice_get infos table ≡ Some info → FitsRow change
    → change_of table info relation change ≡ Ok c → FitsInfos infos c
change_fits infos table info relation (row.Insert tuple) c at fits is = insert_fits infos table info relation tuple c at fits is
change_fits infos table info relation (row.Update before tuple) c at fits is = update_fits infos table info relation before tuple c at fits.0 fits.1 is
change_fits infos table info relation (row.Delete before) c at fits is = delete_fits infos table info relation before c at fits is

-- A row message of a table states a change of that table.
pub change_table : (table : ℕ) (info : TableInfo) (relation : Relation) (change : RowChange) (c : Change) → change_of table info relation change ≡ Ok c → table_of c ≡ table
unfolding change_of
change_table table info relation (row.Insert tuple) c is =
    let b = bound (row_of info relation true tuple.cells) (λ r. Ok (Insert table r)) c is in
    let e : Insert table b.item ≡ c = (let h = b.rest in cc) in
    sym (ap table_of e)
change_table table info relation (row.Update before tuple) c is =
    let a = bound (refuse_if (not (key_in_identity info relation)) (errors.KeyNotInIdentity info.name)) (updates_1 table info relation before tuple) c is in
    let b = bound (refuse_if (is_full relation && not (is_whole before)) (errors.MissingOld info.name)) (updates_2 table info relation before tuple) c a.rest in
    let was = bound (old_row_if_sent info relation before) (updates_3 table info relation before tuple) c b.rest in
    let new = bound (new_cells info relation (is_whole before) was.item tuple.cells) (updates_4 table info was.item) c was.rest in
    let moved = bound (all_sent_if_moved info (key_before info was.item new.item) new.item) (updates_5 table info was.item new.item) c new.rest in
    let e : Update table (key_before info was.item new.item) was.item new.item ≡ c = (let h = moved.rest in cc) in
    sym (ap table_of e)
change_table table info relation (row.Delete before) c is =
    let a = bound (refuse_if (not (key_in_identity info relation)) (errors.KeyNotInIdentity info.name)) (deletes table info relation before) c is in
    let b = bound (old_row info relation before) (λ was. Ok (Delete table (key_of info was.cells) was)) c a.rest in
    let e : Delete table (key_of info b.item.cells) b.item ≡ c = (let h = b.rest in cc) in
    sym (ap table_of e)

abbrev pub AllFit : List TableInfo → List Change → Type 0
AllFit infos cs = AllByRecursion (FitsInfos infos) cs

in_fits : (infos : List TableInfo) (table : ℕ) (o : Option TableInfo) (relation : Relation) (change : RowChange) (cs : List Change) → slice_get infos table ≡ o → FitsRow change
    → in_table table o relation change ≡ Ok cs → AllFit infos cs
in_fits infos table None relation change cs at fits is = let e : [] ≡ cs = cc in subst (AllFit infos) e tt
in_fits infos table (Some info) relation change cs at fits is =
    let b = bound (change_of table info relation change) (λ c. Ok (c ∷ [])) cs is in
    let e : b.item ∷ [] ≡ cs = (let h = b.rest in cc) in
    subst (AllFit infos) e (change_fits infos table info relation change b.item at fits b.first, tt)

row_fits : (infos : List TableInfo) (mark : Option (List ℕ)) (changed : Bool) (relation : Relation) (change : RowChange) (t : Target) (cs : List Change) → FitsRow change
    → row_stated infos mark changed relation change t ≡ Ok cs → AllFit infos cs
unfolding row_stated
row_fits infos mark changed relation change Passed cs fits is = let e : [] ≡ cs = cc in subst (AllFit infos) e tt
row_fits infos mark changed relation change Watermark cs fits is = by (is_some (mark_in change) && not (is_some mark) && not changed) is
  where
    by : (b : Bool) → (if b then Ok [] else Err errors.BadMark) ≡ Ok cs → AllFit infos cs
    by false told = cc
    by true told = let e : [] ≡ cs = cc in subst (AllFit infos) e tt
row_fits infos mark changed relation change (Captured table) cs fits is =
    let b = bound (refuse_if (is_some mark) errors.BadMark) (λ u. in_table table (slice_get infos table) relation change) cs is in
    in_fits infos table (slice_get infos table) relation change cs refl fits b.rest

within_some : (infos : List TableInfo) (t : ℕ) → t < length infos → IsSome (slice_get infos t)
within_some [] t lt = absurd (omega arith)
within_some (info ∷ infos) zero lt = refl
within_some (info ∷ infos) (suc t) lt = within_some infos t (omega arith)

clears_fit : (infos : List TableInfo) (targets : List Target) → AllByRecursion (IsWithin infos) targets → AllFit infos (clears targets)
clears_fit infos [] all = tt
clears_fit infos (Captured t ∷ targets) all = (within_some infos t all.0, clears_fit infos targets all.1)
clears_fit infos (Watermark ∷ targets) all = clears_fit infos targets all.1
clears_fit infos (Passed ∷ targets) all = clears_fit infos targets all.1

targets_within : (infos : List TableInfo) (oids : List ℕ) (ms : List Message) (targets : List Target) → targets_at infos oids ms ≡ Ok targets → AllByRecursion (IsWithin infos) targets
targets_within infos [] ms targets is = let e : [] ≡ targets = cc in subst (AllByRecursion (IsWithin infos)) e tt
targets_within infos (oid ∷ oids) ms targets is =
    let a = bound (some_or (relation_of oid ms) (errors.UnknownRelation oid)) (λ (r : Relation). targets_at infos oids ms >>= λ ts. Ok (target infos r.name ∷ ts)) targets is in
    let b = bound (targets_at infos oids ms) (λ ts. Ok (target infos a.item.name ∷ ts)) targets a.rest in
    let e : target infos a.item.name ∷ b.item ≡ targets = (let h = b.rest in cc) in
    subst (AllByRecursion (IsWithin infos)) e (target_within infos a.item.name, targets_within infos oids ms b.item b.first)

truncate_fits : (infos : List TableInfo) (marked : Bool) (targets : List Target) (cs : List Change) → AllByRecursion (IsWithin infos) targets → truncate_stated marked targets ≡ Ok cs → AllFit infos cs
unfolding truncate_stated
truncate_fits infos marked targets cs all is =
    let b = bound (refuse_if (list_any is_the_watermark targets || marked && has_some (clears targets)) errors.BadMark) (λ u. Ok (clears targets)) cs is in
    let e : clears targets ≡ cs = (let h = b.rest in cc) in
    subst (AllFit infos) e (clears_fit infos targets all)

at_fits : (infos : List TableInfo) (oid : ℕ) (change : RowChange) (ms : List Message) (mark : Option (List ℕ)) (changed : Bool) (cs : List Change) → FitsRow change
    → (some_or (relation_of oid ms) (errors.UnknownRelation oid) >>= λ (r : Relation). row_stated infos mark changed r change (target infos r.name)) ≡ Ok cs → AllFit infos cs
at_fits infos oid change ms mark changed cs fits is =
    let b = bound (some_or (relation_of oid ms) (errors.UnknownRelation oid)) (λ (r : Relation). row_stated infos mark changed r change (target infos r.name)) cs is in
    row_fits infos mark changed b.item change (target infos b.item.name) cs fits b.rest

nothing_fits : (infos : List TableInfo) (cs : List Change) (r : Result (List Change) TxnError) → r ≡ Ok [] → r ≡ Ok cs → AllFit infos cs
nothing_fits infos cs r none is = let e : [] ≡ cs = cc in subst (AllFit infos) e tt

pub stated_fits : (infos : List TableInfo) (m : Message) (ms : List Message) (mark : Option (List ℕ)) (changed : Bool) (cs : List Change) → FitsFields m → stated_in infos m ms mark changed ≡ Ok cs → AllFit infos cs
stated_fits infos (says.Insert oid new) ms mark changed cs fits is = at_fits infos oid (row.Insert new) ms mark changed cs fits.1 is
stated_fits infos (says.Update oid before new) ms mark changed cs fits is = at_fits infos oid (row.Update before new) ms mark changed cs (fits.1, fits.2) is
stated_fits infos (says.Delete oid before) ms mark changed cs fits is = at_fits infos oid (row.Delete before) ms mark changed cs fits.1 is
stated_fits infos (says.Truncate options oids) ms mark changed cs fits is =
    let b = bound (targets_at infos oids ms) (truncate_stated (is_some mark)) cs is in
    truncate_fits infos (is_some mark) b.item cs (targets_within infos oids ms b.item b.first) b.rest
stated_fits infos (says.Begin l t x) ms mark changed cs fits is = nothing_fits infos cs (Ok []) refl is
stated_fits infos (says.Commit f l e t) ms mark changed cs fits is = nothing_fits infos cs (Ok []) refl is
stated_fits infos (says.Origin l n) ms mark changed cs fits is = nothing_fits infos cs (Ok []) refl is
stated_fits infos (says.TypeName o n m) ms mark changed cs fits is = nothing_fits infos cs (Ok []) refl is
stated_fits infos (says.Relation o n m i c) ms mark changed cs fits is = nothing_fits infos cs (Ok []) refl is
stated_fits infos (says.Logical f l p c) ms mark changed cs fits is = nothing_fits infos cs (Ok []) refl is

taken_fits : (infos : List TableInfo) (r : Result (List Change) TxnError) → ((cs : List Change) → r ≡ Ok cs → AllFit infos cs) → AllFit infos (ok_or_none r)
taken_fits infos (Ok cs) each = each cs refl
taken_fits infos (Err e) each = tt

pub open_fits : (infos : List TableInfo) (ms : List Message) → AllByRecursion FitsFields ms → AllFit infos (open_changes infos ms)
open_fits infos [] all = tt
open_fits infos (says.Begin l t x ∷ ms) all = tt
open_fits infos (says.Commit f l e t ∷ ms) all =
    all_append (FitsInfos infos) (open_changes infos ms) _ (open_fits infos ms all.1)
    (taken_fits infos (stated_in infos (says.Commit f l e t) ms (open_mark ms) (has_some (open_changes infos ms))) (λ cs is. stated_fits infos (says.Commit f l e t) ms (open_mark ms) (has_some (open_changes infos ms)) cs all.0 is))
open_fits infos (says.Origin l n ∷ ms) all =
    all_append (FitsInfos infos) (open_changes infos ms) _ (open_fits infos ms all.1)
    (taken_fits infos (stated_in infos (says.Origin l n) ms (open_mark ms) (has_some (open_changes infos ms))) (λ cs is. stated_fits infos (says.Origin l n) ms (open_mark ms) (has_some (open_changes infos ms)) cs all.0 is))
open_fits infos (says.TypeName o n m ∷ ms) all =
    all_append (FitsInfos infos) (open_changes infos ms) _ (open_fits infos ms all.1)
    (taken_fits infos (stated_in infos (says.TypeName o n m) ms (open_mark ms) (has_some (open_changes infos ms))) (λ cs is. stated_fits infos (says.TypeName o n m) ms (open_mark ms) (has_some (open_changes infos ms)) cs all.0 is))
open_fits infos (says.Relation o n m i c ∷ ms) all =
    all_append (FitsInfos infos) (open_changes infos ms) _ (open_fits infos ms all.1)
    (taken_fits infos (stated_in infos (says.Relation o n m i c) ms (open_mark ms) (has_some (open_changes infos ms))) (λ cs is. stated_fits infos (says.Relation o n m i c) ms (open_mark ms) (has_some (open_changes infos ms)) cs all.0 is))
open_fits infos (says.Insert oid new ∷ ms) all =
    all_append (FitsInfos infos) (open_changes infos ms) _ (open_fits infos ms all.1)
    (taken_fits infos (stated_in infos (says.Insert oid new) ms (open_mark ms) (has_some (open_changes infos ms))) (λ cs is. stated_fits infos (says.Insert oid new) ms (open_mark ms) (has_some (open_changes infos ms)) cs all.0 is))
open_fits infos (says.Update oid before new ∷ ms) all =
    all_append (FitsInfos infos) (open_changes infos ms) _ (open_fits infos ms all.1)
    (taken_fits infos (stated_in infos (says.Update oid before new) ms (open_mark ms) (has_some (open_changes infos ms))) (λ cs is. stated_fits infos (says.Update oid before new) ms (open_mark ms) (has_some (open_changes infos ms)) cs all.0 is))
open_fits infos (says.Delete oid before ∷ ms) all =
    all_append (FitsInfos infos) (open_changes infos ms) _ (open_fits infos ms all.1)
    (taken_fits infos (stated_in infos (says.Delete oid before) ms (open_mark ms) (has_some (open_changes infos ms))) (λ cs is. stated_fits infos (says.Delete oid before) ms (open_mark ms) (has_some (open_changes infos ms)) cs all.0 is))
open_fits infos (says.Truncate options oids ∷ ms) all =
    all_append (FitsInfos infos) (open_changes infos ms) _ (open_fits infos ms all.1)
    (taken_fits infos (stated_in infos (says.Truncate options oids) ms (open_mark ms) (has_some (open_changes infos ms))) (λ cs is. stated_fits infos (says.Truncate options oids) ms (open_mark ms) (has_some (open_changes infos ms)) cs all.0 is))
open_fits infos (says.Logical f l p c ∷ ms) all =
    all_append (FitsInfos infos) (open_changes infos ms) _ (open_fits infos ms all.1)
    (taken_fits infos (stated_in infos (says.Logical f l p c) ms (open_mark ms) (has_some (open_changes infos ms))) (λ cs is. stated_fits infos (says.Logical f l p c) ms (open_mark ms) (has_some (open_changes infos ms)) cs all.0 is))

body_fits : (infos : List TableInfo) (mark : Option (List ℕ)) (commit : Commit) (cs : List Change) → commit.body ≡ body_of mark cs → AllFit infos cs → AllFit infos (changes_of commit)
body_fits infos None commit cs is all = rw is all
body_fits infos (Some value) commit cs is all = rw is tt

ended_fits : (infos : List TableInfo) (mark : Option (List ℕ)) (cs : List Change) (commit : Head → Commit) (o : Option Head) → ((b : Head) → (commit b).body ≡ body_of mark cs) → AllFit infos cs
    → FitCommits infos (list_of (option_map commit o))
ended_fits infos mark cs commit None is all = tt
ended_fits infos mark cs commit (Some b) is all = (body_fits infos mark (commit b) cs (is b) all, tt)

-- Each change of each commit fits.
pub commits_fit : (infos : List TableInfo) (ms : List Message) → AllByRecursion FitsFields ms → FitCommits infos (commits_of infos ms)
commits_fit infos [] all = tt
commits_fit infos (says.Commit flags lsn end_lsn time ∷ ms) all =
    all_append (λ (commit : Commit). AllFit infos (changes_of commit)) (commits_of infos ms) _ (commits_fit infos ms all.1)
    (ended_fits infos (open_mark ms) (open_changes infos ms) (commit_of lsn end_lsn (open_mark ms) (open_changes infos ms)) (begin_of ms) (λ b. refl) (open_fits infos ms all.1))
commits_fit infos (says.Begin l t x ∷ ms) all = all_append (λ (commit : Commit). AllFit infos (changes_of commit)) (commits_of infos ms) [] (commits_fit infos ms all.1) tt
commits_fit infos (says.Origin l n ∷ ms) all = all_append (λ (commit : Commit). AllFit infos (changes_of commit)) (commits_of infos ms) [] (commits_fit infos ms all.1) tt
commits_fit infos (says.TypeName o n m ∷ ms) all = all_append (λ (commit : Commit). AllFit infos (changes_of commit)) (commits_of infos ms) [] (commits_fit infos ms all.1) tt
commits_fit infos (says.Relation o n m i c ∷ ms) all = all_append (λ (commit : Commit). AllFit infos (changes_of commit)) (commits_of infos ms) [] (commits_fit infos ms all.1) tt
commits_fit infos (says.Insert oid new ∷ ms) all = all_append (λ (commit : Commit). AllFit infos (changes_of commit)) (commits_of infos ms) [] (commits_fit infos ms all.1) tt
commits_fit infos (says.Update oid before new ∷ ms) all = all_append (λ (commit : Commit). AllFit infos (changes_of commit)) (commits_of infos ms) [] (commits_fit infos ms all.1) tt
commits_fit infos (says.Delete oid before ∷ ms) all = all_append (λ (commit : Commit). AllFit infos (changes_of commit)) (commits_of infos ms) [] (commits_fit infos ms all.1) tt
commits_fit infos (says.Truncate options oids ∷ ms) all = all_append (λ (commit : Commit). AllFit infos (changes_of commit)) (commits_of infos ms) [] (commits_fit infos ms all.1) tt
commits_fit infos (says.Logical f l p c ∷ ms) all = all_append (λ (commit : Commit). AllFit infos (changes_of commit)) (commits_of infos ms) [] (commits_fit infos ms all.1) tt
