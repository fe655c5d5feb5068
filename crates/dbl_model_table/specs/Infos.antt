-- Captured tables and their entries in the source's catalogue.
use Rattle.std.specs.Prelude.{◌≡◌, ℕ, Option, option_map, unwrap_or, List, [], ◌++◌, length, map, slice_get, codes, bytes_eq}
use Rattle.std.specs.List.{position_from}
use Rattle.dbl_value_types.specs.declared.column_type.PgType.{PgType}
use Rattle.dbl_value_types.specs.Values.{oid_of}
use Rattle.dbl_model_table.specs.declared.table.TableName.{TableName}
use Rattle.dbl_model_table.specs.declared.table.Column.{Column}
use Rattle.dbl_model_table.specs.declared.table.RawColumn.{RawColumn}
use Rattle.dbl_model_table.specs.declared.table.RawTable.{RawTable}
use Rattle.dbl_model_table.specs.declared.table.TableInfo.{TableInfo}
use Rattle.dbl_model_table.specs.declared.identity.Identity.{Identity}
use Rattle.dbl_model_table.specs.Tables.{same_name, type_at, column_names, full_name}

-- The catalogue's entry of a column: its name and its type's OID.
abbrev pub raw_column : Column → RawColumn
raw_column column = record { name = column.name; oid = oid_of column.ty }

-- The name of the column at an index, empty if there is no such column.
abbrev pub name_at : List Column → ℕ → List ℕ
name_at columns place = unwrap_or (option_map (λ column. column.name) (slice_get columns place)) []

-- The types of a table's columns.
abbrev pub column_types : TableInfo → List PgType
column_types info = map (λ column. column.ty) info.columns

-- The names of the key columns, in key order.
abbrev pub key_names : TableInfo → List (List ℕ)
key_names info = map (name_at info.columns) info.key

-- The types of the key columns, in key order.
abbrev pub key_types : TableInfo → List PgType
key_types info = map (type_at info.columns) info.key

-- The catalogue's entry of a captured table, with version 1: a description has no version.
abbrev pub catalogue_of : TableInfo → RawTable
catalogue_of info = record { name = info.name; columns = map raw_column info.columns; key = key_names info; version = 1 }

-- Whether the description is of the table with this catalogue entry: of its name, its columns and its key, whatever its version.
abbrev pub IsInfoOf : RawTable → TableInfo → Type 0
IsInfoOf raw info = catalogue_of info ≡ record raw { version = 1 }

-- The index of the column with this name.
abbrev pub column_of : List Column → List ℕ → Option ℕ
column_of columns name = position_from (bytes_eq name) 0 (column_names columns)

-- The number of a table's columns.
abbrev pub width : TableInfo → ℕ
width info = length info.columns

-- The index of a table among the captured ones.
abbrev pub number_of : List TableInfo → TableName → Option ℕ
number_of infos name = position_from (λ info. same_name info.name name) 0 infos

-- The columns of the captured table with this index, none if there is no such table.
abbrev pub columns_of : List TableInfo → ℕ → List Column
columns_of infos table = unwrap_or (option_map (λ info. info.columns) (slice_get infos table)) []

-- The indices of the key columns of the captured table with this index, none if there is no such table.
abbrev pub key_places : List TableInfo → ℕ → List ℕ
key_places infos table = unwrap_or (option_map (λ info. info.key) (slice_get infos table)) []

-- The table's topic `<prefix>.<schema>.<table>` (Debezium PostgreSQL connector, "Topic names").
abbrev pub topic_of : Identity → TableInfo → List ℕ
topic_of identity info = identity.prefix ++ codes "." ++ full_name info.name
