-- The catalogue entries that can be captured, and the errors of the others.
use Rattle.std.specs.Prelude.{ℕ, ◌&&◌, nat_lt, not, Bool, false, if◌then◌else◌, Option, Some, None, option_map}
use Rattle.std.specs.Prelude.{option_and_then, slice_get, List, [], ◌∷◌, ◌++◌, length, map, bytes_eq}
use Rattle.std.specs.List.{find, list_any, list_all, position_from}
use Rattle.dbl_value_types.specs.declared.column_type.PgType.{PgType}
use Rattle.dbl_value_types.specs.Types.{is_float, type_of}
use Rattle.dbl_model_table.specs.declared.table.TableName.{TableName}
use Rattle.dbl_model_table.specs.declared.table.RawColumn.{RawColumn}
use Rattle.dbl_model_table.specs.declared.table.RawTable.{RawTable}
use Rattle.dbl_model_table.specs.declared.error.ModelError.{ModelError}
use Rattle.dbl_model_table.specs.declared.error.ModelError.TheVariants.{BadName, DuplicateColumn, FloatColumn, NoKey, KeyType}
use Rattle.dbl_model_table.specs.Tables.{is_good_name, are_distinct, is_key_type}

-- The names of a catalogue entry's columns.
abbrev pub raw_names : List RawColumn → List (List ℕ)
raw_names columns = map (λ column. column.name) columns

-- The index of the first occurrence of a name in a list.
abbrev pub place_of : List (List ℕ) → List ℕ → Option ℕ
place_of names name = position_from (bytes_eq name) 0 names

-- The first name that repeats an earlier one.
abbrev pub first_repeated : List (List ℕ) → List (List ℕ) → Option (List ℕ)
first_repeated before [] = None
first_repeated before (name ∷ names) = if list_any (bytes_eq name) before then Some name else first_repeated (before ++ name ∷ []) names

-- The name of the first column of a float type.
abbrev pub first_float : List RawColumn → Option (List ℕ)
first_float columns = option_map (λ column. column.name) (find (λ column. is_float column.oid) columns)

-- Whether the key names at least one column of the table, only columns of the table, and none twice.
abbrev pub has_key : RawTable → Bool
has_key raw = nat_lt 0 (length raw.key) && list_all (λ name. list_any (bytes_eq name) (raw_names raw.columns)) raw.key
    && are_distinct bytes_eq raw.key

-- Whether a type is known and allowed in a key.
abbrev pub may_be_key : Option PgType → Bool
may_be_key None = false
may_be_key (Some ty) = is_key_type ty

-- Whether a column exists and its type is allowed in a key.
abbrev pub is_key_column : Option RawColumn → Bool
is_key_column None = false
is_key_column (Some column) = may_be_key (type_of column.oid)

-- The first column of this name.
abbrev pub column_named : List RawColumn → List ℕ → Option RawColumn
column_named columns name = option_and_then (slice_get columns) (place_of (raw_names columns) name)

-- Whether the column of this name has a type that is allowed in a key.
abbrev pub has_key_type : List RawColumn → List ℕ → Bool
has_key_type columns name = is_key_column (column_named columns name)

-- The first name of the key whose column's type is not allowed in a key.
abbrev pub first_unfit : RawTable → Option (List ℕ)
first_unfit raw = find (λ name. not (has_key_type raw.columns name)) raw.key

-- ---- errors of a catalogue entry

-- The error of a table name that no captured table may have.
abbrev pub name_fault : RawTable → Option ModelError
name_fault raw = if is_good_name raw.name then None else Some (BadName raw.name)

-- The error of the first column whose name repeats an earlier one.
abbrev pub column_fault : RawTable → Option ModelError
column_fault raw = option_map (DuplicateColumn raw.name) (first_repeated [] (raw_names raw.columns))

-- The error of the first column of a float type.
abbrev pub float_fault : RawTable → Option ModelError
float_fault raw = option_map (FloatColumn raw.name) (first_float raw.columns)

-- The error of an empty key, or one that names a missing column or repeats one.
abbrev pub key_fault : RawTable → Option ModelError
key_fault raw = if has_key raw then None else Some (NoKey raw.name)

-- The error of the first key column whose type is not allowed in a key.
abbrev pub key_type_fault : RawTable → Option ModelError
key_type_fault raw = option_map (KeyType raw.name) (first_unfit raw)

-- The first error of a list of possible errors.
abbrev pub first_fault : List (Option ModelError) → Option ModelError
first_fault [] = None
first_fault (Some fault ∷ faults) = Some fault
first_fault (None ∷ faults) = first_fault faults

-- The first error of a catalogue entry, in the order: its name, a repeated column name, a float column, its key, a key column's type.
abbrev pub table_fault : RawTable → Option ModelError
table_fault raw = first_fault (name_fault raw ∷ column_fault raw ∷ float_fault raw ∷ key_fault raw ∷ key_type_fault raw ∷ [])
