-- The tables of a generated workload, and its accounts' rows and keys.
use Rattle.std.proofs.Common.{◌≡◌, ◌∙◌, ◌<◌, ◌≤◌, ◌^◌, ℕ, ℤ, pos, Bool, true, false, Option, Some, List, [], ◌∷◌, ◌++◌, length, codes, refl, sym, ap, arith, length-append}
use Rattle.std.specs.Prelude.{◌+◌, ◌&&◌, is_some, option_map, unwrap_or, flat_map}
use Rattle.std.specs.Fmt.{decimal}
use Rattle.std.proofs.lemmas.Bool.{lt-ltb}
use Rattle.std.proofs.lemmas.Fmt.{length-decimal-le}
use Rattle.dbl_pgmsg.specs.declared.messages.Message.{Message}
use Rattle.dbl_pgmsg.specs.declared.messages.Tuple.{Tuple}
use Rattle.dbl_pgmsg.specs.declared.messages.TupleCell.TheVariants as sent
use Rattle.dbl_pgmsg.specs.Grammar.{cell, spelling}
use Rattle.dbl_pgmsg.proofs.MessageSizes.{insert_size}
use Rattle.dbl_pgmsg.proofs.Sizes.{text_size, tuple_size}
use Rattle.dbl_value_types.specs.declared.column_type.PgType.TheVariants as type
use Rattle.dbl_value_types.specs.declared.value.Val.TheVariants as val
use Rattle.dbl_value_types.specs.Decimals.{integer_of}
use Rattle.dbl_value_types.specs.Types.{type_of}
use Rattle.dbl_value_types.proofs.Decimals.{integer_spelled}
use Rattle.dbl_model_table.specs.declared.row.Key.{Key}
use Rattle.dbl_model_table.specs.declared.table.TableInfo.{TableInfo}
use Rattle.dbl_model_table.specs.Keys.{same_key}
use Rattle.dbl_model_table.proofs.KeyLemmas.{same_key-other}
use Rattle.dbl_source_log.specs.Relations.{first_oid}
use Rattle.dbl_source_log.specs.Texts.{Texts, key_in}
use Rattle.dbl_tables_rows.specs.declared.demo_table.DemoTable.{DemoTable}
use Rattle.dbl_tables_rows.specs.Cells.{is_readable_row}
use Rattle.dbl_tables_rows.specs.Sending.{insert_message, raw_of, whole_tuple}
use Rattle.dbl_demo_wal.specs.Workloads.{IsTableOf}
use Rattle.dbl_gen.specs.Laws.{account_cells, accounts_table, empty_table}
use Rattle.dbl_gen.specs.Workload.{numbered}

-- ---- the tables

abbrev pub accounts_info : TableInfo
accounts_info = record {
  name = accounts_table.raw.name;
  columns = record { name = codes "id"; ty = type.Int8 } ∷ record { name = codes "owner"; ty = type.Text } ∷ record { name = codes "balance"; ty = type.Int8 } ∷ record { name = codes "note"; ty = type.Text } ∷ [];
  key = 0 ∷ [];
  -- the name is good, and the key is a column
  sound = λ i. true;
}

abbrev pub empty_info : TableInfo
empty_info = record {
  name = empty_table.raw.name;
  columns = record { name = codes "id"; ty = type.Int4 } ∷ record { name = codes "name"; ty = type.Text } ∷ [];
  key = 0 ∷ [];
  sound = λ i. true;
}

abbrev pub accounts : DemoTable
accounts = record { info = accounts_info; full = false; toast = 64 }

abbrev pub empties : DemoTable
empties = record { info = empty_info; full = false; toast = 64 }

abbrev pub tables : List DemoTable
tables = accounts ∷ empties ∷ []

pub accounts_are : IsTableOf accounts_table accounts
accounts_are = record { info = refl; full = refl; toast = refl }

pub empties_are : IsTableOf empty_table empties
empties_are = record { info = refl; full = refl; toast = refl }

-- ---- an account

abbrev pub row_of : ℕ → Texts
row_of key = Some (decimal key) ∷ Some (numbered (codes "u") key) ∷ Some (codes "100") ∷ Some (codes "nnnnnnnnnnnnnnnnnnnnnnnnnnnnnnnnnnnnnnnnnnnnnnnnnnnnnnnnnnnnnnnn") ∷ []

abbrev pub put : ℕ → Message
put key = insert_message first_oid (row_of key)

abbrev pub own : ℕ → Key
own key = key_in (raw_of accounts) (row_of key)

-- a key's decimal is read as the number
read : (key : ℕ) → key < 1000000 → integer_of (2 ^ 63) (decimal key) ≡ Some (pos key)
read key small = integer_spelled (2 ^ 63) (pos key) (omega arith) (lt-ltb key (2 ^ 63) (omega (arith, small)))

abbrev readable_if : Option ℤ → Bool
readable_if o = ((is_some (option_map val.Int o) && true) && true) && true

pub readable : (key : ℕ) → key < 1000000 → is_readable_row (raw_of accounts) (account_cells key) ≡ true
unfolding type_of
readable key small = ap readable_if (read key small)

abbrev key_if : List ℕ → Option ℤ → Key
key_if text o = record { cells = unwrap_or (option_map val.Int o) (val.Text text) ∷ [] }

own_is : (key : ℕ) → key < 1000000 → own key ≡ record { cells = val.Int (pos key) ∷ [] }
unfolding type_of
own_is key small = ap (key_if (decimal key)) (read key small)

-- accounts have keys of their own
pub keys_apart : (a b : ℕ) → a < 1000000 → b < 1000000 → a < b → same_key (own a) (own b) ≡ false
keys_apart a b small_a small_b less =
    same_key-other (own a) (own b) (λ same.
    let cells : val.Int (pos a) ∷ [] ≡ val.Int (pos b) ∷ [] = ap (λ (k : Key). k.cells) (sym (own_is a small_a) ∙ same ∙ own_is b small_b) in
    let one : a ≡ b = cc in
    absurd (omega (arith, less, one)))

-- ---- its message is short

cells_size : (a b c d : List ℕ) → length (flat_map cell (sent.Text a ∷ sent.Text b ∷ sent.Text c ∷ sent.Text d ∷ [])) ≡ 20 + (length a + (length b + (length c + length d)))
cells_size a b c d =
    let last : List ℕ = cell (sent.Text d) ++ [] in
    let third : List ℕ = cell (sent.Text c) ++ last in
    let second : List ℕ = cell (sent.Text b) ++ third in
    omega (
      arith,
      length-append (cell (sent.Text a)) second,
      length-append (cell (sent.Text b)) third,
      length-append (cell (sent.Text c)) last,
      length-append (cell (sent.Text d)) [],
      text_size a,
      text_size b,
      text_size c,
      text_size d,
    )

pub put_size : (key : ℕ) → key < 1000000 → length (spelling (put key)) ≤ 140
put_size key small =
    let row : Tuple = whole_tuple (row_of key) in
    let digits : length (decimal key) ≤ 6 = length-decimal-le 6 key (omega arith) small (omega arith) in
    omega (
      arith,
      insert_size first_oid row,
      tuple_size row,
      cells_size (decimal key) (numbered (codes "u") key) (codes "100") (codes "nnnnnnnnnnnnnnnnnnnnnnnnnnnnnnnnnnnnnnnnnnnnnnnnnnnnnnnnnnnnnnnn"),
      digits,
    )
