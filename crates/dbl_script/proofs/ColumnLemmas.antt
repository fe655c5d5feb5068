-- Columns that are read one by one into two lists.
use Rattle.std.proofs.Common.{◌≡◌, ◌∙◌, ℕ, ◌<◌, ◌≤◌, ◌==◌, Bool, true, false, cond, nat_le, ◌⊎◌, List, [], ◌∷◌, ◌++◌, Option, Some, None, option_map, option_and_then, length, map, filter, refl, ap, sym, arith, inl, inr}
use Rattle.std.proofs.lemmas.List.{map-append, length-map}
use Rattle.std.proofs.lemmas.Bool.{false_from_ne_true, le-leb, ne_eqb, leb-true}
use Rattle.dbl_model_table.specs.declared.table.RawColumn.{RawColumn}
use Rattle.dbl_script.specs.declared.columns.ColumnWord.{ColumnWord}
use Rattle.dbl_script.specs.declared.fault.Fault.{Fault}
use Rattle.dbl_script.specs.declared.fault.Fault.TheVariants.{Memory}
use Rattle.dbl_script.specs.Reads.{all_of, some_of}
use Rattle.dbl_script.specs.Columns.{column_of, columns_in, key_in, columns_of, split_columns}
use Rattle.dbl_script.proofs.Many.{with_front, front_begins, front_more, front_fails, front_ends}

-- these words were read, and the rest is to come
pub record IsReading (old rest : List (List ℕ)) (columns : List RawColumn) (key : List (List ℕ)) : Type 0 where
  pub seen : List ColumnWord
  pub columns_are : columns ≡ columns_in seen
  pub key_is : key ≡ key_in seen
  pub reads : with_front seen (all_of column_of rest) ≡ all_of column_of old

pub reading_begins : (words : List (List ℕ)) (columns : List RawColumn) (key : List (List ℕ)) → columns ≡ [] → key ≡ [] → IsReading words words columns key
reading_begins words columns key no_columns no_key = record { seen = []; columns_are = no_columns; key_is = no_key; reads = front_begins (all_of column_of words) }

key_step : (b : Bool) (w : ColumnWord) (xs ys : List (List ℕ)) → cond b (w.column.name ∷ (xs ++ ys)) (xs ++ ys) ≡ cond b (w.column.name ∷ xs) xs ++ ys
key_step true w xs ys = refl
key_step false w xs ys = refl

key_cond : (b : Bool) (w : ColumnWord) (ws : List ColumnWord) → map (λ (v : ColumnWord). v.column.name) (cond b (w ∷ filter (λ v. v.is_key) ws) (filter (λ v. v.is_key) ws)) ≡ cond b (w.column.name ∷ key_in ws) (key_in ws)
key_cond true w ws = refl
key_cond false w ws = refl

-- the key of words that stand one after the other
pub key_in-append : (xs ys : List ColumnWord) → key_in (xs ++ ys) ≡ key_in xs ++ key_in ys
key_in-append [] ys = refl
key_in-append (x ∷ xs) ys = key_cond x.is_key x (xs ++ ys) ∙ ap (λ k. cond x.is_key (x.column.name ∷ k) k) (key_in-append xs ys) ∙ key_step x.is_key x (key_in xs) (key_in ys) ∙ ap (λ k. k ++ key_in ys) (sym (key_cond x.is_key x xs))

pub reading_more : (old rest next : List (List ℕ)) (part : List ℕ) (columns more : List RawColumn) (key keys : List (List ℕ)) (word : ColumnWord) → IsReading old rest columns key
    → rest ≡ part ∷ next → column_of part ≡ Some word → more ≡ columns ++ word.column ∷ [] → keys ≡ key ++ key_in (word ∷ []) → IsReading old next more keys
reading_more old rest next part columns more key keys word so_far rest_is is more_is keys_are = record {
  seen = so_far.seen ++ word ∷ [];
  columns_are = more_is ∙ ap (λ xs. xs ++ word.column ∷ []) so_far.columns_are ∙ sym (map-append (λ (w : ColumnWord). w.column) so_far.seen (word ∷ []));
  key_is = keys_are ∙ ap (λ xs. xs ++ key_in (word ∷ [])) so_far.key_is ∙ sym (key_in-append so_far.seen (word ∷ []));
  reads = front_more column_of so_far.seen part next word is ∙ ap (λ words. with_front so_far.seen (all_of column_of words)) (sym rest_is) ∙ so_far.reads;
}

pub reading_fails : (old rest next : List (List ℕ)) (part : List ℕ) (columns : List RawColumn) (key : List (List ℕ)) → IsReading old rest columns key
    → rest ≡ part ∷ next → column_of part ≡ None → option_map split_columns (all_of column_of old) ≡ None
reading_fails old rest next part columns key so_far rest_is is =
    ap (option_map split_columns) (sym so_far.reads ∙ ap (λ words. with_front so_far.seen (all_of column_of words)) rest_is ∙ front_fails column_of so_far.seen part next is)

pub reading_refuses : (old rest next : List (List ℕ)) (part : List ℕ) (columns : List RawColumn) (key : List (List ℕ)) (e : Fault) → IsReading old rest columns key
    → rest ≡ part ∷ next → (e ≡ Memory) ⊎ (column_of part ≡ None) → (e ≡ Memory) ⊎ (option_map split_columns (all_of column_of old) ≡ None)
reading_refuses old rest next part columns key e so_far rest_is (inl wanting) = inl wanting
reading_refuses old rest next part columns key e so_far rest_is (inr is) = inr (reading_fails old rest next part columns key so_far rest_is is)

pub reading_ends : (old rest : List (List ℕ)) (columns : List RawColumn) (key : List (List ℕ)) → IsReading old rest columns key → rest ≡ [] → option_map split_columns (all_of column_of old) ≡ Some (columns, key)
reading_ends old rest columns key so_far rest_is =
    let all : all_of column_of old ≡ Some so_far.seen = sym so_far.reads ∙ ap (λ words. with_front so_far.seen (all_of column_of words)) rest_is ∙ front_ends column_of so_far.seen in
    let columns_are = so_far.columns_are in
    let key_is = so_far.key_is in
    rw (all, columns_are, key_is) refl

-- ---- how many columns

above_limit : (n : ℕ) → 1600 < n → nat_le n 1600 ≡ false
above_limit n above = false_from_ne_true (nat_le n 1600) (λ holds. let few = leb-true n 1600 holds in absurd (omega arith))

-- what `columns_of` makes of what was read
abbrev limited : Option (List ColumnWord) → Option (List ColumnWord)
limited o = option_and_then (λ columns. cond (nat_le (length columns) 1600) (Some columns) None) (option_and_then (λ all. cond (length all == 0) None (Some all)) o)

limited_is : (words : List (List ℕ)) → columns_of words ≡ limited (all_of column_of words)
unfolding columns_of some_of
limited_is words = refl

abbrev both : List RawColumn → List (List ℕ) → Option (List RawColumn × List (List ℕ))
both columns key = Some (columns, key)

first_list : Option (List RawColumn × List (List ℕ)) → List RawColumn
first_list None = []
first_list (Some p) = p.0

columns_length : (words : List ColumnWord) (columns : List RawColumn) (key : List (List ℕ)) → both (columns_in words) (key_in words) ≡ both columns key → length columns ≡ length words
unfolding first_list
columns_length words columns key same = let same_columns : columns_in words ≡ columns = ap first_list same in ap length (sym same_columns) ∙ simp length-map

within : (o : Option (List ColumnWord)) (columns : List RawColumn) (key : List (List ℕ)) → option_map split_columns o ≡ Some (columns, key) → (length columns == 0) ≡ false → length columns ≤ 1600 → option_map split_columns (limited o) ≡ Some (columns, key)
within None columns key is some few = cc
within (Some words) columns key is some few =
    let size = columns_length words columns key is in
    let none : (length words == 0) ≡ false = rw (sym size) some in
    let fits : nat_le (length words) 1600 ≡ true = le-leb (length words) 1600 (omega arith) in
    rw (none, fits) is

none : (o : Option (List ColumnWord)) (columns : List RawColumn) (key : List (List ℕ)) → option_map split_columns o ≡ Some (columns, key) → (length columns == 0) ≡ true → option_map split_columns (limited o) ≡ None
none None columns key is empty = refl
none (Some words) columns key is empty =
    let size = columns_length words columns key is in
    let no : (length words == 0) ≡ true = rw (sym size) empty in
    rw no refl

beyond : (o : Option (List ColumnWord)) (columns : List RawColumn) (key : List (List ℕ)) → option_map split_columns o ≡ Some (columns, key) → 1600 < length columns → option_map split_columns (limited o) ≡ None
beyond None columns key is many = refl
beyond (Some words) columns key is many =
    let size = columns_length words columns key is in
    let some : (length words == 0) ≡ false = ne_eqb (length words) 0 (λ zero_is. absurd (omega arith)) in
    let no : nat_le (length words) 1600 ≡ false = above_limit (length words) (omega arith) in
    rw (some, no) refl

refused : (o : Option (List ColumnWord)) → option_map split_columns o ≡ None → option_map split_columns (limited o) ≡ None
refused None is = refl
refused (Some words) is = cc

module _ (words : List (List ℕ)) where
  pub columns_taken : (columns : List RawColumn) (key : List (List ℕ)) → option_map split_columns (all_of column_of words) ≡ Some (columns, key) → (length columns == 0) ≡ false → length columns ≤ 1600
      → option_map split_columns (columns_of words) ≡ Some (columns, key)
  columns_taken columns key is some few = ap (option_map split_columns) (limited_is words) ∙ within (all_of column_of words) columns key is some few

  pub columns_none : (columns : List RawColumn) (key : List (List ℕ)) → option_map split_columns (all_of column_of words) ≡ Some (columns, key) → (length columns == 0) ≡ true
      → option_map split_columns (columns_of words) ≡ None
  columns_none columns key is empty = ap (option_map split_columns) (limited_is words) ∙ none (all_of column_of words) columns key is empty

  pub columns_beyond : (columns : List RawColumn) (key : List (List ℕ)) → option_map split_columns (all_of column_of words) ≡ Some (columns, key) → 1600 < length columns
      → option_map split_columns (columns_of words) ≡ None
  columns_beyond columns key is many = ap (option_map split_columns) (limited_is words) ∙ beyond (all_of column_of words) columns key is many

  pub columns_refused : option_map split_columns (all_of column_of words) ≡ None → option_map split_columns (columns_of words) ≡ None
  columns_refused is = ap (option_map split_columns) (limited_is words) ∙ refused (all_of column_of words) is
