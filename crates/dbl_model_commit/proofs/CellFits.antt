-- Rows that are read column by column fit their columns.
use Rattle.std.proofs.Common.{◌≡◌, inl, inr, ℕ, zero, suc, ◌+◌, ◌<◌, List, [], ◌∷◌, length, map, refl, sym, ◌∙◌, ap, subst, arith, eq-eqb}
use Rattle.std.proofs.lemmas.Option.{slice_get-map}
use Rattle.std.specs.Prelude.{Bool, true, false, ◌||◌, nat_eq, nat_lt, if◌then◌else◌, Option, Some, None, Result, Ok, Err, slice_get}
use Rattle.std.specs.List.{AllByRecursion, list_any, list_all}
use Rattle.std.specs.Str.{IsUtf8}
use Rattle.dbl_pgmsg.specs.declared.messages.TupleCell.{TupleCell}
use Rattle.dbl_pgmsg.specs.declared.messages.TupleCell.TheVariants as cell
use Rattle.dbl_pgmsg.specs.Grammar.{FitsCell}
use Rattle.dbl_value_types.specs.declared.column_type.PgType.{PgType}
use Rattle.dbl_value_types.specs.declared.value.Val.{Val}
use Rattle.dbl_value_types.specs.declared.value.Val.TheVariants as val
use Rattle.dbl_value_types.specs.Values.{value_of, IsOf, IsCellOf}
use Rattle.dbl_value_types.specs.Faults.{fault_of}
use Rattle.dbl_model_table.specs.declared.table.TableName.{TableName}
use Rattle.dbl_model_table.specs.declared.table.Column.{Column}
use Rattle.dbl_model_table.specs.declared.table.TableInfo.{TableInfo}
use Rattle.dbl_model_table.specs.declared.row.Row.{Row}
use Rattle.dbl_model_table.specs.declared.change.Cell.{Cell}
use Rattle.dbl_model_table.specs.declared.change.Cell.TheVariants.{Given, Unchanged}
use Rattle.dbl_model_commit.specs.declared.message_parts.Relation.{Relation}
use Rattle.dbl_model_commit.specs.declared.txn_error.TxnError.{TxnError}
use Rattle.dbl_model_commit.specs.declared.txn_error.TxnError.TheVariants as errors
use Rattle.dbl_model_table.specs.Tables.{type_at}
use Rattle.dbl_model_table.specs.Keys.{cell_or_null, given_or_null}
use Rattle.dbl_model_history.specs.Fit.{AreOf}
use Rattle.dbl_model_history.specs.FitsInfos.{AreCellsOf, IsSentOf, AreSentOf}
use Rattle.dbl_model_table.proofs.Lists.{and_left, and_right}
use Rattle.dbl_model_commit.specs.Tuples.{◌>>=◌, some_or, spelled_value, is_key_place, null_cell, given_cell, is_fixed, filled_cell, new_cell, each_from, is_read, row_cell, filling, next_cell}

-- a value that was read in a column: of its type or Null, and in a key of its type
pub record IsReadAs (in_key : Bool) (ty : PgType) (v : Val) : Type 0 where
  pub cell : IsCellOf ty v
  pub key : in_key ≡ true → IsOf ty v

-- a cell that was read: the same, or left unsent, but not in a key
pub record IsSentAs (in_key : Bool) (ty : PgType) (c : Cell) : Type 0 where
  pub cell : IsSentOf ty c
  pub key : in_key ≡ true → IsOf ty (given_or_null c)

spelled : (table : TableName) (column : Column) (text : List ℕ) (v : Val) → IsUtf8 text → spelled_value table column text ≡ Ok v → IsOf column.ty v
unfolding spelled_value
spelled table column text v utf8 is = by (value_of column.ty text) refl is
  where
    by : (o : Option Val) → value_of column.ty text ≡ o → some_or o (errors.Value table column.name (fault_of column.ty text)) ≡ Ok v → IsOf column.ty v
    by None same told = cc
    by (Some w) same told = let e : w ≡ v = cc in record { text = text; utf8 = utf8; spells = same ∙ ap (λ x. Some x) e }

given : (table : TableName) (in_key : Bool) (column : Column) (c : TupleCell) (v : Val) → FitsCell c → given_cell table in_key column c ≡ Ok v → IsReadAs in_key column.ty v
unfolding given_cell
given table true column cell.Null v fits is = cc
given table false column cell.Null v fits is = let e : val.Null ≡ v = cc in record { cell = inl (sym e); key = λ never. cc }
given table in_key column cell.Unchanged v fits is = cc
given table in_key column (cell.Text text) v fits is = let o = spelled table column text v fits.utf8 is in record { cell = inr o; key = λ any. o }

pub row_read : (info : TableInfo) (relation : Relation) (whole : Bool) (place : ℕ) (column : Column) (c : TupleCell) (v : Val) → FitsCell c
    → (is_key_place info place ≡ true → is_read relation whole place ≡ true) → row_cell info relation whole place column c ≡ Ok v → IsReadAs (is_key_place info place) column.ty v
row_read info relation whole place column c v fits must is = by (is_read relation whole place) refl is
  where
    by : (b : Bool) → is_read relation whole place ≡ b → (if b then given_cell info.name (is_key_place info place) column c else Ok val.Null) ≡ Ok v → IsReadAs (is_key_place info place) column.ty v
    by true read told = given info.name (is_key_place info place) column c v fits told
    by false unread told = let e : val.Null ≡ v = cc in record { cell = inl (sym e); key = λ in_key. let read = must in_key in cc }

module _ {A : Type 0} (P : ℕ → Column → A → Type 0) where
  -- what was read, column by column
  abbrev pub AreRead : ℕ → List Column → List A → Type 0
  AreRead i [] [] = Unit {0}
  AreRead i [] (x ∷ xs) = ⊥
  AreRead i (c ∷ columns) [] = ⊥
  AreRead i (c ∷ columns) (x ∷ xs) = P i c x × AreRead (i + 1) columns xs

  -- what stands at a place
  pub record ReadAt (i : ℕ) (columns : List Column) (xs : List A) (place : ℕ) : Type 0 where
    pub column : Column
    pub item : A
    pub column_at : slice_get columns place ≡ Some column
    pub item_at : slice_get xs place ≡ Some item
    pub is : P (i + place) column item

  pub read_at : (i : ℕ) (columns : List Column) (xs : List A) (place : ℕ) → AreRead i columns xs → place < length columns → ReadAt i columns xs place
  read_at i [] [] place all lt = absurd (omega arith)
  read_at i [] (x ∷ xs) place all lt = absurd all
  read_at i (c ∷ columns) [] place all lt = absurd all
  read_at i (c ∷ columns) (x ∷ xs) zero all lt = record { column = c; item = x; column_at = refl; item_at = refl; is = (let e : i ≡ i + zero = omega arith in subst (λ (n : ℕ). P n c x) e all.0) }
  read_at i (c ∷ columns) (x ∷ xs) (suc place) all lt =
      let below = read_at (i + 1) columns xs place all.1 (omega arith) in
      record { column = below.column; item = below.item; column_at = below.column_at; item_at = below.item_at; is = (let e : (i + 1) + place ≡ i + suc place = omega arith in subst (λ (n : ℕ). P n below.column below.item) e below.is) }

  module _ (read : ℕ → Column → TupleCell → Result A TxnError) (all : List Column)
      (step : (place : ℕ) (column : Column) (c : TupleCell) (x : A) → slice_get all place ≡ Some column → FitsCell c → read place column c ≡ Ok x → P place column x) where
    pub each_read : (i : ℕ) (columns : List Column) (cells : List TupleCell) (xs : List A) → ((j : ℕ) → slice_get columns j ≡ slice_get all (i + j)) → length cells ≡ length columns
        → AllByRecursion FitsCell cells → each_from read i columns cells ≡ Ok xs → AreRead i columns xs
    each_read i [] [] xs at len fits is = let e : [] ≡ xs = cc in subst (AreRead i []) e tt
    each_read i [] (c ∷ cells) xs at len fits is = absurd (omega (arith, len))
    each_read i (column ∷ columns) [] xs at len fits is = absurd (omega (arith, len))
    each_read i (column ∷ columns) (c ∷ cells) xs at len fits is =
        by (read i column c) refl is (λ ys below. each_read (i + 1) columns cells ys (λ j. let e : i + suc j ≡ (i + 1) + j = omega arith in at (suc j) ∙ ap (slice_get all) e) (omega (arith, len)) fits.1 below)
      where
        here : slice_get all i ≡ Some column
        here = let e : i + zero ≡ i = omega arith in subst (λ (n : ℕ). slice_get all n ≡ Some column) e (sym (at zero))

        both : (x : A) → read i column c ≡ Ok x → (r : Result (List A) TxnError) → (r >>= λ ys. Ok (x ∷ ys)) ≡ Ok xs → ((ys : List A) → r ≡ Ok ys → AreRead (i + 1) columns ys) → AreRead i (column ∷ columns) xs
        both x same (Err e) told below = cc
        both x same (Ok ys) told below = let e : x ∷ ys ≡ xs = cc in subst (AreRead i (column ∷ columns)) e (step i column c x here fits.0 same, below ys refl)

        by : (r : Result A TxnError) → read i column c ≡ r → (r >>= λ x. each_from read (i + 1) columns cells >>= λ ys. Ok (x ∷ ys)) ≡ Ok xs
            → ((ys : List A) → each_from read (i + 1) columns cells ≡ Ok ys → AreRead (i + 1) columns ys) → AreRead i (column ∷ columns) xs
        by (Err e) same told below = cc
        by (Ok x) same told below = both x same (each_from read (i + 1) columns cells) told below

-- values that were read in the columns of a table
abbrev pub AreValues : TableInfo → List Val → Type 0
AreValues info values = AreRead (λ place column v. IsReadAs (is_key_place info place) column.ty v) 0 info.columns values

abbrev pub AreCells : TableInfo → List Cell → Type 0
AreCells info cells = AreRead (λ place column c. IsSentAs (is_key_place info place) column.ty c) 0 info.columns cells

pub values_fit : (info : TableInfo) (i : ℕ) (columns : List Column) (values : List Val) → AreRead (λ place column v. IsReadAs (is_key_place info place) column.ty v) i columns values
    → AreCellsOf (map (λ column. column.ty) columns) values
values_fit info i [] [] all = tt
values_fit info i [] (v ∷ values) all = absurd all
values_fit info i (c ∷ columns) [] all = absurd all
values_fit info i (c ∷ columns) (v ∷ values) all = (all.0.cell, values_fit info (i + 1) columns values all.1)

pub cells_fit : (info : TableInfo) (i : ℕ) (columns : List Column) (cells : List Cell) → AreRead (λ place column c. IsSentAs (is_key_place info place) column.ty c) i columns cells
    → AreSentOf (map (λ column. column.ty) columns) cells
cells_fit info i [] [] all = tt
cells_fit info i [] (v ∷ cells) all = absurd all
cells_fit info i (c ∷ columns) [] all = absurd all
cells_fit info i (c ∷ columns) (v ∷ cells) all = (all.0.cell, cells_fit info (i + 1) columns cells all.1)

or_true_right : (a b : Bool) → b ≡ true → (a || b) ≡ true
or_true_right true b is = refl
or_true_right false b is = is

or_true_left : (a b : Bool) → a ≡ true → (a || b) ≡ true
or_true_left true b is = refl
or_true_left false b is = cc

below_is : (a b : ℕ) → nat_lt a b ≡ true → a < b
below_is a b is = grind arith

-- Places whose cells are of their columns' types make a key of them.
pub key_fits : (columns : List Column) (values : List Val) (places : List ℕ) → list_all (λ place. nat_lt place (length columns)) places ≡ true
    → ((place : ℕ) → list_any (nat_eq place) places ≡ true → place < length columns → IsOf (type_at columns place) (cell_or_null values place))
    → AreOf (map (type_at columns) places) (map (cell_or_null values) places)
key_fits columns values [] within each = tt
key_fits columns values (k ∷ places) within each = (
  each k (or_true_left (nat_eq k k) (list_any (nat_eq k) places) (eq-eqb k k refl)) (below_is k (length columns) (and_left (nat_lt k (length columns)) _ within)),
  key_fits columns values places (and_right (nat_lt k (length columns)) _ within) (λ place some lt. each place (or_true_right (nat_eq place k) (list_any (nat_eq place) places) some) lt),
)

pub value_at_key : (info : TableInfo) (values : List Val) (place : ℕ) → AreValues info values → is_key_place info place ≡ true → place < length info.columns → IsOf (type_at info.columns place) (cell_or_null values place)
value_at_key info values place all key lt =
    let found = read_at (λ p column v. IsReadAs (is_key_place info p) column.ty v) 0 info.columns values place all lt in
    let at : IsReadAs (is_key_place info place) found.column.ty found.item = (let e : 0 + place ≡ place = omega arith in subst (λ (n : ℕ). IsReadAs (is_key_place info n) found.column.ty found.item) e found.is) in
    rw (found.column_at, found.item_at) (at.key key)

pub cell_at_key : (info : TableInfo) (cells : List Cell) (place : ℕ) → AreCells info cells → is_key_place info place ≡ true → place < length info.columns → IsOf (type_at info.columns place) (cell_or_null (map given_or_null cells) place)
cell_at_key info cells place all key lt =
    let found = read_at (λ p column c. IsSentAs (is_key_place info p) column.ty c) 0 info.columns cells place all lt in
    let at : IsSentAs (is_key_place info place) found.column.ty found.item = (let e : 0 + place ≡ place = omega arith in subst (λ (n : ℕ). IsSentAs (is_key_place info n) found.column.ty found.item) e found.is) in
    rw (slice_get-map given_or_null cells place, found.column_at, found.item_at) (at.key key)

-- the old row, if one was read
abbrev pub WasRead : TableInfo → Option Row → Type 0
WasRead info None = Unit {0}
WasRead info (Some r) = AreValues info r.cells

filled : (info : TableInfo) (relation : Relation) (whole : Bool) (before : Option Row) (place : ℕ) (column : Column) (v : Val) → WasRead info before → slice_get info.columns place ≡ Some column → place < length info.columns
    → filling relation whole before place ≡ Some v → IsReadAs (is_key_place info place) column.ty v
filled info relation whole None place column v was at lt is = cc
filled info relation whole (Some r) place column v was at lt is = by (is_read relation whole place) is
  where
    by : (b : Bool) → (if b then slice_get r.cells place else None) ≡ Some v → IsReadAs (is_key_place info place) column.ty v
    by false told = cc
    by true told =
        let found = read_at (λ p c w. IsReadAs (is_key_place info p) c.ty w) 0 info.columns r.cells place was lt in
        let same_column : found.column ≡ column = (let e : Some found.column ≡ Some column = sym found.column_at ∙ at in cc) in
        let same_value : found.item ≡ v = (let e : Some found.item ≡ Some v = sym found.item_at ∙ told in cc) in
        subst (λ (c : Column). IsReadAs (is_key_place info place) c.ty v) same_column
        (subst (λ (w : Val). IsReadAs (is_key_place info place) found.column.ty w) same_value
        (let e : 0 + place ≡ place = omega arith in subst (λ (n : ℕ). IsReadAs (is_key_place info n) found.column.ty found.item) e found.is))

sent : (in_key : Bool) (ty : PgType) (v : Val) → IsReadAs in_key ty v → IsSentAs in_key ty (Given v)
sent in_key ty v r = record { cell = r.cell; key = r.key }

null_given : (table : TableName) (in_key : Bool) (ty : PgType) (c : Cell) → (null_cell table in_key >>= λ v. Ok (Given v)) ≡ Ok c → IsSentAs in_key ty c
null_given table true ty c is = cc
null_given table false ty c is = let e : Given val.Null ≡ c = cc in subst (IsSentAs false ty) e (record { cell = inl refl; key = λ never. cc })

text_given : (table : TableName) (in_key : Bool) (column : Column) (text : List ℕ) (c : Cell) → IsUtf8 text → (r : Result Val TxnError) → spelled_value table column text ≡ r
    → (r >>= λ v. Ok (Given v)) ≡ Ok c → IsSentAs in_key column.ty c
text_given table in_key column text c utf8 (Err e) same is = cc
text_given table in_key column text c utf8 (Ok v) same is =
    let o = spelled table column text v utf8 same in
    let e : Given v ≡ c = cc in
    subst (IsSentAs in_key column.ty) e (record { cell = inr o; key = λ any. o })

unsent_given : (table : TableName) (in_key : Bool) (o : Option Val) (column : Column) (c : Cell) → ((v : Val) → o ≡ Some v → IsReadAs in_key column.ty v)
    → filled_cell table in_key o column ≡ Ok c → IsSentAs in_key column.ty c
unsent_given table in_key (Some v) column c from is = let e : Given v ≡ c = cc in subst (IsSentAs in_key column.ty) e (sent in_key column.ty v (from v refl))
unsent_given table true None column c from is = cc
unsent_given table false None column c from is = let e : Unchanged ≡ c = cc in subst (IsSentAs false column.ty) e (record { cell = tt; key = λ never. cc })

pub new_read : (info : TableInfo) (relation : Relation) (whole : Bool) (before : Option Row) (place : ℕ) (column : Column) (t : TupleCell) (c : Cell) → WasRead info before → slice_get info.columns place ≡ Some column
    → place < length info.columns → FitsCell t → next_cell info relation whole before place column t ≡ Ok c → IsSentAs (is_key_place info place) column.ty c
unfolding new_cell
new_read info relation whole before place column cell.Null c was at lt fits is = null_given info.name (is_key_place info place) column.ty c is
new_read info relation whole before place column (cell.Text text) c was at lt fits is = text_given info.name (is_key_place info place) column text c fits.utf8 (spelled_value info.name column text) refl is
new_read info relation whole before place column cell.Unchanged c was at lt fits is = by (is_fixed column.ty) is
  where
    by : (b : Bool) → (if b then Err (errors.UnchangedCell info.name column.name) else filled_cell info.name (is_key_place info place) (filling relation whole before place) column) ≡ Ok c → IsSentAs (is_key_place info place) column.ty c
    by true told = cc
    by false told = unsent_given info.name (is_key_place info place) (filling relation whole before place) column c (λ v fill. filled info relation whole before place column v was at lt fill) told
