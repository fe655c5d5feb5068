-- Whether a key is of its table's key types, as a test.
use Rattle.std.specs.Prelude.{ℕ, ◌^◌, ◌&&◌, Bool, true, false, List, [], ◌∷◌}
use Rattle.std.specs.Str.{IsUtf8}
use Rattle.dbl_value_types.specs.declared.column_type.PgType.{PgType}
use Rattle.dbl_value_types.specs.declared.column_type.PgType.TheVariants as type
use Rattle.dbl_value_types.specs.declared.value.Val.{Val}
use Rattle.dbl_value_types.specs.declared.value.Val.TheVariants as val
use Rattle.dbl_value_types.specs.Decimals.{is_within}
use Rattle.dbl_value_types.specs.Values.{is_uuid}

-- Whether a value is an integer at least -limit and below limit.
abbrev pub is_integer : ℕ → Val → Bool
is_integer limit (val.Int z) = is_within limit z
is_integer limit v = false

-- Whether a value is a text.
abbrev pub is_text : Val → Bool
is_text (val.Text text) = true
is_text v = false

-- Whether a value is the text of a UUID.
abbrev pub is_uuid_text : Val → Bool
is_uuid_text (val.Text text) = is_uuid text
is_uuid_text v = false

-- Whether a value is of this type, which a key column may have; false for other types.
abbrev pub is_key_cell : PgType → Val → Bool
is_key_cell type.Int2 v = is_integer (2 ^ 15) v
is_key_cell type.Int4 v = is_integer (2 ^ 31) v
is_key_cell type.Int8 v = is_integer (2 ^ 63) v
is_key_cell type.Uuid v = is_uuid_text v
is_key_cell type.Text v = is_text v
is_key_cell type.Varchar v = is_text v
is_key_cell ty v = false

-- Whether there are as many values as types, each a value of its type.
abbrev pub are_key_cells : List PgType → List Val → Bool
are_key_cells [] [] = true
are_key_cells [] (v ∷ values) = false
are_key_cells (ty ∷ types) [] = false
are_key_cells (ty ∷ types) (v ∷ values) = is_key_cell ty v && are_key_cells types values

-- Whether a value is not a text or its text is UTF-8.
abbrev pub HasUtf8 : Val → Type 0
HasUtf8 (val.Text text) = IsUtf8 text
HasUtf8 v = Unit {0}
