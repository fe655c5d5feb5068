-- Rows that have a text which spells a value, or a null outside of the key, are read without a fault.
use Rattle.std.proofs.Common.{◌≡◌, ◌∙◌, ◌+◌, ℕ, suc, Bool, true, false, Option, Some, None, List, [], ◌∷◌, length, refl, sym, ap, subst, arith}
use Rattle.std.specs.Prelude.{◌==◌, if◌then◌else◌, is_some, slice_get, Result, Ok, Err}
use Rattle.std.specs.List.{position_from}
use Rattle.std.proofs.lemmas.Bool.Decides.{nat_tests}
use Rattle.dbl_tables_rows.specs.Pgmsg.declared.messages.TupleCell.{TupleCell}
use Rattle.dbl_tables_rows.specs.Pgmsg.declared.messages.TupleCell.TheVariants as cell
use Rattle.dbl_tables_rows.specs.Value.declared.value.Val.{Val}
use Rattle.dbl_tables_rows.specs.Value.declared.value.Val.TheVariants as val
use Rattle.dbl_tables_rows.specs.Value.Faults.{fault_of}
use Rattle.dbl_tables_rows.specs.Value.Values.{value_of}
use Rattle.dbl_tables_rows.specs.ModelTable.declared.change.Cell.{Cell}
use Rattle.dbl_tables_rows.specs.ModelTable.declared.change.Cell.TheVariants.{Given, Unchanged}
use Rattle.dbl_tables_rows.specs.ModelTable.declared.row.Key.{Key}
use Rattle.dbl_tables_rows.specs.ModelTable.declared.row.Row.{Row}
use Rattle.dbl_tables_rows.specs.ModelTable.declared.table.Column.{Column}
use Rattle.dbl_tables_rows.specs.ModelTable.declared.table.TableInfo.{TableInfo}
use Rattle.dbl_tables_rows.specs.ModelTable.declared.table.TableName.{TableName}
use Rattle.dbl_tables_rows.specs.ModelTable.Infos.{width, name_at}
use Rattle.dbl_tables_rows.specs.ModelTable.Keys.{new_key_of, same_key}
use Rattle.dbl_tables_rows.specs.ModelCommit.declared.message_parts.Relation.{Relation}
use Rattle.dbl_tables_rows.specs.ModelCommit.declared.txn_error.TxnError.{TxnError}
use Rattle.dbl_tables_rows.specs.ModelCommit.declared.txn_error.TxnError.TheVariants as errors
use Rattle.dbl_tables_rows.specs.ModelCommit.Stated.{err_of}
use Rattle.dbl_tables_rows.specs.ModelCommit.Tuples.{◌>>=◌, some_or, spelled_value, is_key_place, is_fixed, null_cell, given_cell, filled_cell, new_cell, each_from, each, is_read, row_cell, row_of, filling, next_cell, new_cells, is_unsent, unsent_fault, all_sent_if_moved}
use Rattle.dbl_tables_laws.specs.Laws.{IsMovedAtMost}
use Rattle.dbl_tables_rows.specs.Sending.{sent_cell}

-- ---- chains of readings

pub bind_fine : {A B : Type 0} (r : Result A TxnError) (f : A → Result B TxnError) → err_of r ≡ None → ((x : A) → r ≡ Ok x → err_of (f x) ≡ None) → err_of (r >>= f) ≡ None
bind_fine (Ok x) f fine next = next x refl
bind_fine (Err e) f fine next = cc

pub bind_moved : {A B : Type 0} (r : Result A TxnError) (f : A → Result B TxnError) → err_of r ≡ None → ((x : A) → r ≡ Ok x → IsMovedAtMost (err_of (f x))) → IsMovedAtMost (err_of (r >>= f))
bind_moved (Ok x) f fine next = next x refl
bind_moved (Err e) f fine next = let contra : Some e ≡ None = fine in cc

pub then_moved : {A B : Type 0} (r : Result A TxnError) (f : A → B) → IsMovedAtMost (err_of r) → IsMovedAtMost (err_of (r >>= λ x. Ok (f x)))
then_moved (Ok x) f fine = tt
then_moved (Err e) f fine = fine

pub none_moved : (o : Option TxnError) → o ≡ None → IsMovedAtMost o
none_moved o none = subst IsMovedAtMost (sym none) tt

-- ---- one cell

-- what can be read: a text that spells a value of the column's type, and null outside of the key
abbrev pub IsReadCell : Bool → Column → TupleCell → Type 0
IsReadCell in_key column cell.Null = in_key ≡ false
IsReadCell in_key column cell.Unchanged = ⊥
IsReadCell in_key column (cell.Text text) = is_some (value_of column.ty text) ≡ true

spelled_fine : (table : TableName) (column : Column) (text : List ℕ) → is_some (value_of column.ty text) ≡ true → err_of (spelled_value table column text) ≡ None
unfolding spelled_value
spelled_fine table column text fine = by (value_of column.ty text) fine
  where
    by : (o : Option Val) → is_some o ≡ true → err_of (some_or o (errors.Value table column.name (fault_of column.ty text))) ≡ None
    by None some = cc
    by (Some v) some = refl

given_fine : (table : TableName) (in_key : Bool) (column : Column) (c : TupleCell) → IsReadCell in_key column c → err_of (given_cell table in_key column c) ≡ None
unfolding given_cell
given_fine table in_key column cell.Null fine = ap (λ (b : Bool). err_of (null_cell table b)) fine
given_fine table in_key column cell.Unchanged fine = absurd fine
given_fine table in_key column (cell.Text text) fine = spelled_fine table column text fine

row_cell_fine : (info : TableInfo) (relation : Relation) (whole : Bool) (place : ℕ) (column : Column) (c : TupleCell) → (is_read relation whole place ≡ true → IsReadCell (is_key_place info place) column c)
    → err_of (row_cell info relation whole place column c) ≡ None
row_cell_fine info relation whole place column c fine = by (is_read relation whole place) refl
  where
    by : (b : Bool) → is_read relation whole place ≡ b → err_of (if b then given_cell info.name (is_key_place info place) column c else Ok val.Null) ≡ None
    by true read = given_fine info.name (is_key_place info place) column c (fine read)
    by false unread = refl

-- a cell of an update that is sent
sent_fine : (table : TableName) (in_key : Bool) (fill : Option Val) (column : Column) (y : Option (List ℕ)) → IsReadCell in_key column (sent_cell y) → err_of (new_cell table in_key fill column (sent_cell y)) ≡ None
unfolding new_cell
sent_fine table in_key fill column None fine = ap (λ (b : Bool). err_of (null_cell table b >>= λ (v : Val). Ok (Given v))) fine
sent_fine table in_key fill column (Some text) fine = bind_fine (spelled_value table column text) (λ (v : Val). Ok (Given v)) (spelled_fine table column text fine) (λ v is. refl)

filled_fine : (table : TableName) (in_key : Bool) (fill : Option Val) (column : Column) → in_key ≡ false → err_of (filled_cell table in_key fill column) ≡ None
filled_fine table in_key (Some v) column outside = refl
filled_fine table in_key None column outside = ap (λ (b : Bool). err_of (if b then Err (errors.UnchangedCell table column.name) else Ok Unchanged)) outside

-- one that isn't sent: not in the key, nor of a fixed size
left_fine : (table : TableName) (in_key : Bool) (fill : Option Val) (column : Column) → is_fixed column.ty ≡ false → in_key ≡ false → err_of (new_cell table in_key fill column cell.Unchanged) ≡ None
unfolding new_cell
left_fine table in_key fill column loose outside =
    ap (λ (b : Bool). err_of (if b then Err (errors.UnchangedCell table column.name) else filled_cell table in_key fill column)) loose ∙ filled_fine table in_key fill column outside

-- ---- all cells

same_is_true : (a : ℕ) → (a == a) ≡ true
same_is_true a = grind (arith, nat_tests)

each_from_fine : {A : Type 0} (read : ℕ → Column → TupleCell → Result A TxnError) (place : ℕ) (columns : List Column) (cells : List TupleCell)
    → ((j : ℕ) (column : Column) (c : TupleCell) → slice_get columns j ≡ Some column → slice_get cells j ≡ Some c → err_of (read (place + j) column c) ≡ None) → err_of (each_from read place columns cells) ≡ None
each_from_fine read place [] cells all = refl
each_from_fine read place (column ∷ columns) [] all = refl
each_from_fine {A} read place (column ∷ columns) (c ∷ cells) all =
    bind_fine (read place column c) (λ (x : A). each_from read (place + 1) columns cells >>= λ (xs : List A). Ok (x ∷ xs)) here
    (λ x first. bind_fine (each_from read (place + 1) columns cells) (λ (xs : List A). Ok (x ∷ xs)) (each_from_fine read (place + 1) columns cells later) (λ xs rest. refl))
  where
    here : err_of (read place column c) ≡ None
    here = let e : place + 0 ≡ place = omega arith in subst (λ (n : ℕ). err_of (read n column c) ≡ None) e (all 0 column c refl refl)

    later : (j : ℕ) (k : Column) (d : TupleCell) → slice_get columns j ≡ Some k → slice_get cells j ≡ Some d → err_of (read ((place + 1) + j) k d) ≡ None
    later j k d at there = let e : place + suc j ≡ (place + 1) + j = omega arith in subst (λ (n : ℕ). err_of (read n k d) ≡ None) e (all (suc j) k d at there)

each_fine : {A : Type 0} (read : ℕ → Column → TupleCell → Result A TxnError) (info : TableInfo) (cells : List TupleCell) → length cells ≡ width info
    → ((j : ℕ) (column : Column) (c : TupleCell) → slice_get info.columns j ≡ Some column → slice_get cells j ≡ Some c → err_of (read j column c) ≡ None) → err_of (each read info cells) ≡ None
each_fine read info cells wide all =
    let same : (length cells == width info) ≡ true = ap (λ (n : ℕ). n == width info) wide ∙ same_is_true (width info) in
    ap (λ (b : Bool). err_of (if b then each_from read 0 info.columns cells else Err (errors.ColumnCount (width info) (length cells)))) same
    ∙ each_from_fine read 0 info.columns cells (λ j column c at there. let e : j ≡ 0 + j = omega arith in subst (λ (n : ℕ). err_of (read n column c) ≡ None) e (all j column c at there))

-- a row: each cell that is read can be
pub row_fine : (info : TableInfo) (relation : Relation) (whole : Bool) (cells : List TupleCell) → length cells ≡ width info
    → ((j : ℕ) (column : Column) (c : TupleCell) → slice_get info.columns j ≡ Some column → slice_get cells j ≡ Some c → is_read relation whole j ≡ true → IsReadCell (is_key_place info j) column c)
    → err_of (row_of info relation whole cells) ≡ None
unfolding row_of
row_fine info relation whole cells wide all =
    bind_fine (each (row_cell info relation whole) info cells) (λ (values : List Val). let r : Row = record { cells = values } in Ok r)
    (each_fine (row_cell info relation whole) info cells wide (λ j column c at there. row_cell_fine info relation whole j column c (all j column c at there))) (λ values is. refl)

-- a cell of an update as it is sent: the text, or nothing outside of the key and of a size that isn't fixed
abbrev pub IsReadNew : Bool → Column → TupleCell → Type 0
IsReadNew in_key column cell.Null = in_key ≡ false
IsReadNew in_key column cell.Unchanged = (is_fixed column.ty ≡ false) × (in_key ≡ false)
IsReadNew in_key column (cell.Text text) = is_some (value_of column.ty text) ≡ true

next_fine : (info : TableInfo) (relation : Relation) (whole : Bool) (before : Option Row) (place : ℕ) (column : Column) (c : TupleCell) → IsReadNew (is_key_place info place) column c → err_of (next_cell info relation whole before place column c) ≡ None
next_fine info relation whole before place column cell.Null fine = sent_fine info.name (is_key_place info place) (filling relation whole before place) column None fine
next_fine info relation whole before place column cell.Unchanged fine = left_fine info.name (is_key_place info place) (filling relation whole before place) column fine.0 fine.1
next_fine info relation whole before place column (cell.Text text) fine = sent_fine info.name (is_key_place info place) (filling relation whole before place) column (Some text) fine

pub cells_fine : (info : TableInfo) (relation : Relation) (whole : Bool) (before : Option Row) (cells : List TupleCell) → length cells ≡ width info
    → ((j : ℕ) (column : Column) (c : TupleCell) → slice_get info.columns j ≡ Some column → slice_get cells j ≡ Some c → IsReadNew (is_key_place info j) column c) → err_of (new_cells info relation whole before cells) ≡ None
unfolding new_cells
cells_fine info relation whole before cells wide all = each_fine (next_cell info relation whole before) info cells wide (λ j column c at there. next_fine info relation whole before j column c (all j column c at there))

-- where the key moves, the first cell that is unsent is named
pub unsent_moved : (info : TableInfo) (key : Key) (cells : List Cell) → IsMovedAtMost (err_of (all_sent_if_moved info key cells))
unfolding all_sent_if_moved
unsent_moved info key cells = by (same_key key (new_key_of info cells)) (position_from is_unsent 0 cells)
  where
    by : (b : Bool) (o : Option ℕ) → IsMovedAtMost (err_of (if b then Ok tt else unsent_fault info.name info.columns o))
    by true o = tt
    by false None = tt
    by false (Some place) = (info.name, name_at info.columns place, refl)
