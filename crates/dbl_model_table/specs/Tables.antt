-- Tables that can be captured.
use Rattle.std.specs.Prelude.{ℕ, ◌==◌, ◌&&◌, ◌||◌, nat_eq, nat_lt, nat_le, not, Bool, true, false, option_map}
use Rattle.std.specs.Prelude.{unwrap_or, List, [], ◌∷◌, ◌++◌, length, map, slice_get, codes, bytes_eq}
use Rattle.std.specs.List.{list_any, list_all}
use Rattle.std.specs.Char.{is_ascii_digit, is_ascii_lowercase, is_ascii_uppercase}
use Rattle.dbl_value_types.specs.declared.column_type.PgType.{PgType}
use Rattle.dbl_value_types.specs.declared.column_type.PgType.TheVariants as type
use Rattle.dbl_value_types.specs.Types.{is_column_type}
use Rattle.dbl_model_table.specs.declared.table.TableName.{TableName}
use Rattle.dbl_model_table.specs.declared.table.Column.{Column}

-- A letter, a digit, `_` or `-`: a byte that a topic's name has unescaped (Debezium PostgreSQL connector, "Topic names").
abbrev pub is_name_byte : ℕ → Bool
is_name_byte c = is_ascii_lowercase c || is_ascii_uppercase c || is_ascii_digit c || (c == 95) || (c == 45)

-- A text of 1 to 63 of these bytes; PostgreSQL's names have at most 63.
abbrev pub is_name : List ℕ → Bool
is_name text = nat_lt 0 (length text) && nat_le (length text) 63 && list_all is_name_byte text

-- Whether it is the watermark table.
abbrev pub is_watermark : TableName → Bool
is_watermark table = bytes_eq table.schema (codes "public") && bytes_eq table.name (codes "dblog_watermark")

-- Whether a captured table may have this name: not `dblog-progress`, since topics that end in `.dblog-progress` have progress records, and
-- not the watermark table.
abbrev pub is_good_name : TableName → Bool
is_good_name table = is_name table.schema && is_name table.name && not (bytes_eq table.name (codes "dblog-progress"))
    && not (is_watermark table)

-- Whether two table names are equal.
abbrev pub same_name : TableName → TableName → Bool
same_name a b = bytes_eq a.schema b.schema && bytes_eq a.name b.name

-- The name `<schema>.<table>`.
abbrev pub full_name : TableName → List ℕ
full_name table = table.schema ++ codes "." ++ table.name

-- Whether no item of the list equals a later one.
abbrev pub are_distinct : {X : Type 0} → (X → X → Bool) → List X → Bool
are_distinct same [] = true
are_distinct same (x ∷ xs) = not (list_any (same x) xs) && are_distinct same xs

-- The names of some columns.
abbrev pub column_names : List Column → List (List ℕ)
column_names columns = map (λ column. column.name) columns

-- The type of the column at an index, text if there is no such column.
abbrev pub type_at : List Column → ℕ → PgType
type_at columns place = unwrap_or (option_map (λ column. column.ty) (slice_get columns place)) type.Text

-- Whether a type is allowed in a key.
abbrev pub is_key_type : PgType → Bool
is_key_type type.Int2 = true
is_key_type type.Int4 = true
is_key_type type.Int8 = true
is_key_type type.Uuid = true
is_key_type type.Text = true
is_key_type type.Varchar = true
is_key_type ty = false

-- Whether the column at an index has a type that is not allowed in a key.
abbrev pub is_unfit : List Column → ℕ → Bool
is_unfit columns place = not (is_key_type (type_at columns place))

-- Whether the indices are a valid key: at least one, all of columns of the table, none twice, each of a type allowed in a key.
abbrev pub is_key : List Column → List ℕ → Bool
is_key columns key = nat_lt 0 (length key) && list_all (λ place. nat_lt place (length columns)) key && are_distinct nat_eq key
    && list_all (λ place. is_key_type (type_at columns place)) key

-- Whether each column has a type that a column can have.
abbrev pub are_typed : List Column → Bool
are_typed columns = list_all (λ column. is_column_type column.ty) columns

-- Whether a table with these parts can be captured: an allowed name, columns of distinct names and column types, and a valid key.
abbrev pub is_table : TableName → List Column → List ℕ → Bool
is_table name columns key = is_good_name name && are_distinct bytes_eq (column_names columns) && are_typed columns && is_key columns key
