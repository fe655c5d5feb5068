-- The history of the captured tables only, with cells read as values.
use Rattle.std.specs.Prelude.{ℕ, Option, Some, None, option_map, unwrap_or, List, [], ◌∷◌, map, filter_map}
use Rattle.dbl_value_types.specs.declared.column_type.PgType.{PgType}
use Rattle.dbl_value_types.specs.declared.column_type.PgType.TheVariants as type
use Rattle.dbl_value_types.specs.declared.value.Val.{Val}
use Rattle.dbl_value_types.specs.declared.value.Val.TheVariants as val
use Rattle.dbl_value_types.specs.Values.{value_of}
use Rattle.dbl_model_table.specs.declared.table.RawRow.{RawRow}
use Rattle.dbl_model_table.specs.declared.table.TableInfo.{TableInfo}
use Rattle.dbl_model_table.specs.declared.row.Key.{Key}
use Rattle.dbl_model_table.specs.declared.row.Row.{Row}
use Rattle.dbl_model_table.specs.declared.change.Cell.{Cell}
use Rattle.dbl_model_table.specs.declared.change.Cell.TheVariants as cell
use Rattle.dbl_model_table.specs.declared.change.Change.{Change}
use Rattle.dbl_model_table.specs.declared.change.Change.TheVariants as change
use Rattle.dbl_model_table.specs.declared.change.Body.{Body}
use Rattle.dbl_model_table.specs.declared.change.Body.TheVariants as body
use Rattle.dbl_model_table.specs.declared.change.Commit.{Commit}
use Rattle.dbl_model_table.specs.Tables.{type_at}
use Rattle.dbl_model_table.specs.Infos.{number_of, columns_of, key_places}
use Rattle.dbl_model_history.specs.History.{RawCell, RawKey, RawChange, RawBody, RawCommit, History}
use Rattle.dbl_model_history.specs.History as raw

-- The value of a cell's text at a type; a text that doesn't parse is kept as a Text.
abbrev pub typed_cell : PgType → Option (List ℕ) → Val
typed_cell ty None = val.Null
typed_cell ty (Some text) = unwrap_or (value_of ty text) (val.Text text)

-- The values of cells of columns of these types, in the columns' order; cells past the last column are read as text.
abbrev pub typed_cells : List PgType → List (Option (List ℕ)) → List Val
typed_cells types [] = []
typed_cells [] (text ∷ texts) = typed_cell type.Text text ∷ typed_cells [] texts
typed_cells (ty ∷ types) (text ∷ texts) = typed_cell ty text ∷ typed_cells types texts

-- The cells of an update of columns of these types, each sent one read as a value.
abbrev pub typed_update : List PgType → List RawCell → List Cell
typed_update types [] = []
typed_update [] (raw.Given text ∷ cells) = cell.Given (typed_cell type.Text text) ∷ typed_update [] cells
typed_update [] (raw.Unchanged ∷ cells) = cell.Unchanged ∷ typed_update [] cells
typed_update (ty ∷ types) (raw.Given text ∷ cells) = cell.Given (typed_cell ty text) ∷ typed_update types cells
typed_update (ty ∷ types) (raw.Unchanged ∷ cells) = cell.Unchanged ∷ typed_update types cells

-- The types of the columns of the captured table with this index.
abbrev pub types_of : List TableInfo → ℕ → List PgType
types_of infos table = map (λ column. column.ty) (columns_of infos table)

-- The types of the key columns of the captured table with this index, in key order.
abbrev pub key_types_of : List TableInfo → ℕ → List PgType
key_types_of infos table = map (type_at (columns_of infos table)) (key_places infos table)

-- A row with its cells read as values of the table's columns.
abbrev pub typed_row : List TableInfo → ℕ → RawRow → Row
typed_row infos table row = record { cells = typed_cells (types_of infos table) row.cells }

-- A key with its cells read as values of the table's key columns.
abbrev pub typed_key : List TableInfo → ℕ → RawKey → Key
typed_key infos table key = record { cells = typed_cells (key_types_of infos table) key }

-- A change of a captured table, with the table by its index; None if the table is not captured.
abbrev pub typed_change : List TableInfo → RawChange → Option Change
typed_change infos (raw.Insert name row) = option_map (λ table. change.Insert table (typed_row infos table row)) (number_of infos name)
typed_change infos (raw.Update name key old cells) =
    option_map (λ table. change.Update table (typed_key infos table key) (option_map (typed_row infos table) old)
    (typed_update (types_of infos table) cells)) (number_of infos name)
typed_change infos (raw.Delete name key old) =
    option_map (λ table. change.Delete table (typed_key infos table key) (typed_row infos table old)) (number_of infos name)
typed_change infos (raw.Clear name) = option_map (λ table. change.Clear table) (number_of infos name)

-- The contents of a commit with only the changes of captured tables, typed. An alteration has no change.
abbrev pub typed_body : List TableInfo → RawBody → Body
typed_body infos (raw.Changes changes) = body.Changes (filter_map (typed_change infos) changes)
typed_body infos (raw.Mark value) = body.Mark value
typed_body infos (raw.Alter name columns rows) = body.Changes []

-- A commit with only the changes of captured tables, typed. A commit without such changes is kept.
abbrev pub typed_commit : List TableInfo → RawCommit → Commit
typed_commit infos
    commit = record {
      lsn = commit.lsn;
      end_lsn = commit.end_lsn;
      time = commit.time;
      xid = commit.xid;
      body = typed_body infos commit.body;
    }

-- The commits of a history with only the changes of captured tables, typed.
abbrev pub typed : List TableInfo → History → List Commit
typed infos history = map (typed_commit infos) history.commits
