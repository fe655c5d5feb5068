-- The test of a key decides whether the key is of its table's key types.
use Rattle.std.proofs.Common.{◌≡◌, ◌∙◌, ℕ, suc, ◌+◌, ◌<◌, ◌≤◌, ◌^◌, ℤ, pos, negsuc, Bool, true, false, Option, Some, None, List, [], ◌∷◌, ◌++◌, length, map, drop, take, get_or, refl, sym, ap, subst, arith, rules}
use Rattle.std.specs.Prelude.{◌&&◌, if◌then◌else◌, option_map, decimal}
use Rattle.std.specs.List.{AllByRecursion, list_all}
use Rattle.std.specs.Str.{IsUtf8, IsAscii}
use Rattle.std.specs.Fmt.{signed_decimal}
use Rattle.std.proofs.lemmas.Bool.{ltb-true}
use Rattle.std.proofs.lemmas.List.{drop_more, drop_all, take_more}
use Rattle.std.proofs.lemmas.Fmt.{IsAscii-decimal}
use Rattle.std.proofs.lemmas.Str.{IsUtf8-from_ascii, IsAscii-append}
use Rattle.dbl_value_types.specs.declared.column_type.PgType.{PgType}
use Rattle.dbl_value_types.specs.declared.column_type.PgType.TheVariants as type
use Rattle.dbl_value_types.specs.declared.value.Val.{Val}
use Rattle.dbl_value_types.specs.declared.value.Val.TheVariants as val
use Rattle.dbl_value_types.specs.Decimals.{is_within, integer_of}
use Rattle.dbl_value_types.specs.Values.{is_uuid, IsOf}
use Rattle.dbl_value_types.proofs.Decimals.{integer_of-IsRead, integer_spelled}
use Rattle.dbl_model_table.specs.declared.table.Column.{Column}
use Rattle.dbl_model_table.specs.Tables.{type_at, is_key_type}
use Rattle.dbl_model_history.specs.Fit.{AreOf}
use Rattle.dbl_model_history.specs.KeyFits.{is_integer, is_text, is_uuid_text, is_key_cell, are_key_cells, HasUtf8}
use Rattle.dbl_model_table.proofs.Lists.{and_left, and_right}

-- ---- one cell

pub record IsInt (v : Val) (o : Option ℤ) : Type 0 where
  pub z : ℤ
  pub is : v ≡ val.Int z
  pub read : o ≡ Some z

int_there : (o : Option ℤ) (v : Val) → option_map val.Int o ≡ Some v → IsInt v o
int_there None v e = cc
int_there (Some z) v e = record { z = z; is = cc; read = refl }

integer_is : (limit : ℕ) (text : List ℕ) (v : Val) → option_map val.Int (integer_of limit text) ≡ Some v → is_integer limit v ≡ true
integer_is limit text v e =
    let i = int_there (integer_of limit text) v e in
    subst (λ (w : Val). is_integer limit w ≡ true) (sym i.is) (integer_of-IsRead limit text i.z i.read).within

text_is : (text : List ℕ) (v : Val) → Some (val.Text text) ≡ Some v → is_text v ≡ true
text_is text v e = let same : val.Text text ≡ v = cc in subst (λ (w : Val). is_text w ≡ true) same refl

uuid_is : (b : Bool) (text : List ℕ) (v : Val) → is_uuid text ≡ b → (if b then Some (val.Text text) else None) ≡ Some v → is_uuid_text v ≡ true
uuid_is true text v is e = let same : val.Text text ≡ v = cc in subst (λ (w : Val). is_uuid_text w ≡ true) same is
uuid_is false text v is e = cc

pub cell_is : (ty : PgType) (v : Val) → is_key_type ty ≡ true → IsOf ty v → is_key_cell ty v ≡ true
cell_is type.Int2 v key of = integer_is (2 ^ 15) of.text v of.spells
cell_is type.Int4 v key of = integer_is (2 ^ 31) of.text v of.spells
cell_is type.Int8 v key of = integer_is (2 ^ 63) of.text v of.spells
cell_is type.Uuid v key of = uuid_is (is_uuid of.text) of.text v refl of.spells
cell_is type.Text v key of = text_is of.text v of.spells
cell_is type.Varchar v key of = text_is of.text v of.spells
cell_is ty v key of = cc

decimal_utf8 : (limit : ℕ) (z : ℤ) → limit ≤ 2 ^ 63 → is_within limit z ≡ true → IsUtf8 (signed_decimal z)
decimal_utf8 limit (pos n) top within = let small : n < limit = ltb-true n limit within in IsUtf8-from_ascii (decimal n) (IsAscii-decimal n (omega arith))
decimal_utf8 limit (negsuc n) top within =
    let small : n < limit = ltb-true n limit within in
    let minus : IsAscii (45 ∷ []) = search rules in
    IsUtf8-from_ascii (45 ∷ decimal (suc n)) (IsAscii-append (45 ∷ []) (decimal (suc n)) minus (IsAscii-decimal (suc n) (omega arith)))

integer_text : (limit : ℕ) (z : ℤ) → limit ≤ 2 ^ 63 → is_within limit z ≡ true → IsUtf8 (signed_decimal z) × (option_map val.Int (integer_of limit (signed_decimal z)) ≡ Some (val.Int z))
integer_text limit z top within = (decimal_utf8 limit z top within, ap (option_map val.Int) (integer_spelled limit z top within))

pub is_cell : (ty : PgType) (v : Val) → is_key_cell ty v ≡ true → HasUtf8 v → IsOf ty v
is_cell type.Int2 (val.Int z) is utf8 = let t = integer_text (2 ^ 15) z (omega arith) is in record { text = signed_decimal z; utf8 = t.0; spells = t.1 }
is_cell type.Int2 v is utf8 = cc
is_cell type.Int4 (val.Int z) is utf8 = let t = integer_text (2 ^ 31) z (omega arith) is in record { text = signed_decimal z; utf8 = t.0; spells = t.1 }
is_cell type.Int4 v is utf8 = cc
is_cell type.Int8 (val.Int z) is utf8 = let t = integer_text (2 ^ 63) z (omega arith) is in record { text = signed_decimal z; utf8 = t.0; spells = t.1 }
is_cell type.Int8 v is utf8 = cc
is_cell type.Uuid (val.Text t) is utf8 = record { text = t; utf8 = utf8; spells = ap (λ (b : Bool). if b then Some (val.Text t) else None) is }
is_cell type.Uuid v is utf8 = cc
is_cell type.Text (val.Text t) is utf8 = record { text = t; utf8 = utf8; spells = refl }
is_cell type.Text v is utf8 = cc
is_cell type.Varchar (val.Text t) is utf8 = record { text = t; utf8 = utf8; spells = refl }
is_cell type.Varchar v is utf8 = cc
is_cell ty v is utf8 = cc

-- ---- all cells

both_true : (a b : Bool) → a ≡ true → b ≡ true → (a && b) ≡ true
both_true true b first second = second
both_true false b first second = cc

pub cells_are : (columns : List Column) (places : List ℕ) (values : List Val) → list_all (λ place. is_key_type (type_at columns place)) places ≡ true → AreOf (map (type_at columns) places) values → are_key_cells (map (type_at columns) places) values ≡ true
cells_are columns [] [] keys of = refl
cells_are columns [] (v ∷ values) keys of = elim of [ ]
cells_are columns (place ∷ places) [] keys of = elim of [ ]
cells_are columns (place ∷ places) (v ∷ values) keys of =
    both_true (is_key_cell (type_at columns place) v) (are_key_cells (map (type_at columns) places) values) (cell_is (type_at columns place) v (and_left (is_key_type (type_at columns place)) _ keys) of.0)
    (cells_are columns places values (and_right (is_key_type (type_at columns place)) _ keys) of.1)

pub are_cells : (types : List PgType) (values : List Val) → are_key_cells types values ≡ true → AllByRecursion HasUtf8 values → AreOf types values
are_cells [] [] are utf8 = tt
are_cells [] (v ∷ values) are utf8 = cc
are_cells (ty ∷ types) [] are utf8 = cc
are_cells (ty ∷ types) (v ∷ values) are utf8 = (is_cell ty v (and_left (is_key_cell ty v) (are_key_cells types values) are) utf8.0, are_cells types values (and_right (is_key_cell ty v) (are_key_cells types values) are) utf8.1)

-- ---- cell by cell

module _ (f : ℕ → PgType) where
  pub cells-step : (places : List ℕ) (cells : List Val) (i : ℕ) (v : Val) → i < length places → i < length cells
      → are_key_cells (map f (drop i places)) (drop i cells) ≡ (is_key_cell (f (get_or places i 0)) (get_or cells i v) && are_key_cells (map f (drop (i + 1) places)) (drop (i + 1) cells))
  cells-step places cells i v within in_cells = rw (drop_more places i 0 within, drop_more cells i v in_cells) refl

  pub cells-yes : (places : List ℕ) (cells : List Val) (i : ℕ) (v : Val) → i < length places → i < length cells → is_key_cell (f (get_or places i 0)) (get_or cells i v) ≡ true
      → are_key_cells (map f (drop i places)) (drop i cells) ≡ are_key_cells (map f places) cells → are_key_cells (map f (drop (i + 1) places)) (drop (i + 1) cells) ≡ are_key_cells (map f places) cells
  cells-yes places cells i v within in_cells fits h = sym (cells-step places cells i v within in_cells ∙ ap (λ b. b && are_key_cells (map f (drop (i + 1) places)) (drop (i + 1) cells)) fits) ∙ h

  pub cells-no : (places : List ℕ) (cells : List Val) (i : ℕ) (v : Val) → i < length places → i < length cells → is_key_cell (f (get_or places i 0)) (get_or cells i v) ≡ false
      → are_key_cells (map f (drop i places)) (drop i cells) ≡ are_key_cells (map f places) cells → false ≡ are_key_cells (map f places) cells
  cells-no places cells i v within in_cells fits h = sym (cells-step places cells i v within in_cells ∙ ap (λ b. b && are_key_cells (map f (drop (i + 1) places)) (drop (i + 1) cells)) fits) ∙ h

  pub cells-all : (places : List ℕ) (cells : List Val) (i : ℕ) → length places ≡ length cells → length places ≤ i → are_key_cells (map f (drop i places)) (drop i cells) ≡ are_key_cells (map f places) cells → true ≡ are_key_cells (map f places) cells
  cells-all places cells i same end h = rw (drop_all i places end, drop_all i cells (omega (arith, same, end))) at h

  pub cells-apart : (places : List ℕ) (cells : List Val) → (length places ≡ length cells → ⊥) → false ≡ are_key_cells (map f places) cells
  cells-apart [] [] apart = absurd (apart refl)
  cells-apart [] (v ∷ cells) apart = refl
  cells-apart (place ∷ places) [] apart = refl
  cells-apart (place ∷ places) (v ∷ cells) apart = by (is_key_cell (f place) v) (cells-apart places cells (λ same. apart (ap suc same)))
    where
      by : (b : Bool) → false ≡ are_key_cells (map f places) cells → false ≡ (b && are_key_cells (map f places) cells)
      by true rest = rest
      by false rest = refl

all_append : (xs : List Val) (v : Val) → AllByRecursion HasUtf8 xs → HasUtf8 v → AllByRecursion HasUtf8 (xs ++ v ∷ [])
all_append [] v all last = (last, tt)
all_append (x ∷ xs) v all last = (all.0, all_append xs v all.1 last)

pub utf8-more : (cells : List Val) (i : ℕ) (v : Val) → i < length cells → AllByRecursion HasUtf8 (take i cells) → HasUtf8 (get_or cells i v) → AllByRecursion HasUtf8 (take (i + 1) cells)
utf8-more cells i v within all last = subst (AllByRecursion HasUtf8) (sym (take_more cells i v within)) (all_append (take i cells) (get_or cells i v) all last)
