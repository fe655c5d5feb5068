-- Columns of a workload's table.
use Rattle.std.specs.Prelude.{ℕ, nat_le, Bool, true, false, if◌then◌else◌, Option, Some, None, List, length, map, filter, bytes_eq, codes}
use Rattle.dbl_model_table.specs.declared.table.RawColumn.{RawColumn}
use Rattle.dbl_script.specs.declared.columns.ColumnWord.{ColumnWord}
use Rattle.dbl_script.specs.Words.{cut_at}
use Rattle.dbl_script.specs.Reads.{◌>>=◌, some_of}
use Rattle.dbl_script.specs.Texts.{column_name_of, oid_of}

-- a column of this name and type
abbrev pub column_with : List ℕ → List ℕ → Bool → Option ColumnWord
column_with word type is_key = do
  name ← column_name_of word
  oid ← oid_of type
  Some (record { column = record { name = name; oid = oid }; is_key = is_key })

-- a column whose type may be followed by `:key`
unfoldable pub typed_column : List ℕ → List ℕ → Option (List ℕ × List ℕ) → Option ColumnWord
typed_column name type None = column_with name type false
typed_column name type (Some parts) = if bytes_eq parts.1 (codes "key") then column_with name parts.0 true else None

-- a column, given its name and the text after the colon
unfoldable pub named_column : Option (List ℕ × List ℕ) → Option ColumnWord
named_column None = None
named_column (Some parts) = typed_column parts.0 parts.1 (cut_at 58 parts.1)

-- `<name>:<type>`, or `<name>:<type>:key` for a key column
unfoldable pub column_of : List ℕ → Option ColumnWord
column_of word = named_column (cut_at 58 word)

-- the columns without their key marks
abbrev pub columns_in : List ColumnWord → List RawColumn
columns_in words = map (λ w. w.column) words

-- the names of the key columns, in order
abbrev pub key_in : List ColumnWord → List (List ℕ)
key_in words = map (λ w. w.column.name) (filter (λ w. w.is_key) words)

-- for private clauses: the columns, and the names of the key columns
abbrev pub split_columns : List ColumnWord → List RawColumn × List (List ℕ)
split_columns words = (columns_in words, key_in words)

-- one or more columns, at most 1,600, the maximum of a PostgreSQL table
unfoldable pub columns_of : List (List ℕ) → Option (List ColumnWord)
columns_of words = do
  columns ← some_of column_of words
  if nat_le (length columns) 1600 then Some columns else None
