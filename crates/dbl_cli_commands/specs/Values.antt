-- The values of options, and the positional arguments.
use Rattle.std.specs.Prelude.{ℕ, ◌==◌, ◌&&◌, nat_lt, nat_le, Bool, true, if◌then◌else◌, Option, Some, None, unwrap_or}
use Rattle.std.specs.Prelude.{List, [], ◌∷◌, length, map, option_map}
use Rattle.std.specs.Char.{is_ascii_digit}
use Rattle.std.specs.List.{list_all, before_first, after_first, slice_split}
use Rattle.std.specs.Option.{option_map_or}
use Rattle.std.specs.Str.Parse.{digits_value}
use Rattle.dbl_model_table.specs.declared.table.TableName.{TableName}
use Rattle.dbl_model_table.specs.Tables.{is_name, same_name, are_distinct}
use Rattle.dbl_model_table.specs.declared.table.TableKey.{TableKey}
use Rattle.dbl_cli_commands.specs.declared.commands.MaskWord.{MaskWord}

-- 1 to 9 decimal digits whose number is within bounds
abbrev pub is_number : ℕ → ℕ → List ℕ → Bool
is_number least most text = nat_lt 0 (length text) && nat_le (length text) 9 && list_all is_ascii_digit text
    && nat_le least (digits_value 10 text) && nat_le (digits_value 10 text) most

-- the number of an option, or the default if it is absent
abbrev pub number_or : ℕ → Option (List ℕ) → ℕ
number_or default value = option_map_or (digits_value 10) value default

-- the number of an option, if it is given
abbrev pub number_if : Option (List ℕ) → Option ℕ
number_if value = option_map (digits_value 10) value

-- the option is absent or its value passes the test
abbrev pub passes : (List ℕ → Bool) → Option (List ℕ) → Bool
passes test value = option_map_or test value true

-- a valid placeholder: 1 to 255 bytes
abbrev pub is_placeholder : List ℕ → Bool
is_placeholder text = nat_lt 0 (length text) && nat_le (length text) 255

-- the byte is `.`
abbrev pub is_dot : ℕ → Bool
is_dot c = c == 46

-- the byte is `:`
abbrev pub is_colon : ℕ → Bool
is_colon c = c == 58

-- the byte is `,`
abbrev pub is_comma : ℕ → Bool
is_comma c = c == 44

-- the table of `<schema>.<name>`, each of 1 to 63 letters, digits, `_` and `-`
abbrev pub table_in : List ℕ → TableName
table_in word = record { schema = before_first is_dot word; name = after_first is_dot word }

-- the table's schema and name are valid
abbrev pub is_named : TableName → Bool
is_named table = is_name table.schema && is_name table.name

-- the argument is a valid table; without a dot the name is empty, which is invalid
abbrev pub is_table : List ℕ → Bool
is_table word = is_named (table_in word)

-- the arguments are valid tables, all different
abbrev pub are_tables : List (List ℕ) → Bool
are_tables words = list_all is_table words && are_distinct same_name (map table_in words)

-- the key of `<table>:<columns>`, the columns' names separated by commas, each of at least one character
abbrev pub key_in : List ℕ → TableKey
key_in word = record { table = table_in (before_first is_colon word); columns = slice_split is_comma (after_first is_colon word) }

-- the column's name isn't empty
abbrev pub is_column : List ℕ → Bool
is_column text = nat_lt 0 (length text)

-- the argument is a valid key; without a colon its one column is empty, which is invalid
abbrev pub is_key : List ℕ → Bool
is_key word = is_table (before_first is_colon word) && list_all is_column (key_in word).columns

-- the tables of the keys
abbrev pub tables_in : List TableKey → List TableName
tables_in keys = map (λ (key : TableKey). key.table) keys

-- the arguments are valid keys of different tables
abbrev pub are_keys : List (List ℕ) → Bool
are_keys words = list_all is_key words && are_distinct same_name (tables_in (map key_in words))

-- ---- masks: `<schema>.<name>.<column>:<n>`

-- the table: the word up to its second dot
abbrev pub masked_table_in : List ℕ → TableName
masked_table_in word = record { schema = before_first is_dot word; name = before_first is_dot (after_first is_dot word) }

-- the column and the number: the word after its second dot
abbrev pub after_table : List ℕ → List ℕ
after_table word = after_first is_dot (after_first is_dot word)

-- a text that begins with this character: what precedes its last colon and what follows it, by those of the rest
abbrev pub around_colon : ℕ → List ℕ → Option (List ℕ × List ℕ) → Option (List ℕ × List ℕ)
around_colon c text None = if is_colon c then Some ([], text) else None
around_colon c text (Some parts) = Some (c ∷ parts.0, parts.1)

-- what precedes the last colon of a text and what follows it, if there is one
abbrev pub around_last_colon : List ℕ → Option (List ℕ × List ℕ)
around_last_colon [] = None
around_last_colon (c ∷ text) = around_colon c text (around_last_colon text)

-- the column and the digits of `<column>:<n>`; both are empty if there is no colon
abbrev pub mask_parts : List ℕ → List ℕ × List ℕ
mask_parts text = unwrap_or (around_last_colon text) ([], [])

-- 1 to 3 decimal digits whose number is at most 255
abbrev pub is_stars : List ℕ → Bool
is_stars text = nat_le (length text) 3 && is_number 0 255 text

-- the column's name isn't empty, and the number of asterisks is valid
abbrev pub is_masked : List ℕ × List ℕ → Bool
is_masked parts = is_column parts.0 && is_stars parts.1

-- the mask of the word
abbrev pub mask_in : List ℕ → MaskWord
mask_in word = record {
  table = masked_table_in word;
  column = (mask_parts (after_table word)).0;
  stars = digits_value 10 (mask_parts (after_table word)).1;
}

-- the argument is a valid mask; without its dots and its colon the name of the table or of the column is empty, which is invalid
abbrev pub is_mask : List ℕ → Bool
is_mask word = is_named (masked_table_in word) && is_masked (mask_parts (after_table word))
