-- Rows that a select answers as texts are rows of their table, with the keys of their texts.
use Rattle.std.proofs.Common.{◌≡◌, ◌∙◌, ℕ, Option, Some, List, [], ◌∷◌, map, refl, ap}
use Rattle.std.specs.Prelude.{option_map, slice_get, unwrap_or}
use Rattle.dbl_script.specs.Value.declared.column_type.PgType.{PgType}
use Rattle.dbl_script.specs.ModelTable.declared.row.Key.{Key}
use Rattle.dbl_script.specs.ModelTable.declared.row.Row.{Row}
use Rattle.dbl_script.specs.ModelTable.declared.table.Column.{Column}
use Rattle.dbl_script.specs.ModelTable.declared.table.RawRow.{RawRow}
use Rattle.dbl_script.specs.ModelTable.declared.table.RawTable.{RawTable}
use Rattle.dbl_script.specs.ModelTable.declared.table.TableInfo.{TableInfo}
use Rattle.dbl_script.specs.ModelTable.Infos.{IsInfoOf, column_types}
use Rattle.dbl_script.specs.ModelTable.Keys.{key_of}
use Rattle.dbl_tables_laws.specs.ModelHistory.Typed.{types_of, typed_cells}
use Rattle.dbl_tables_laws.specs.SourceModel.Selected.{keyed_row}
use Rattle.dbl_tables_laws.specs.SourceLog.declared.logged.LogTable.{LogTable}
use Rattle.dbl_tables_laws.specs.SourceLog.Texts.{key_in}
use Rattle.dbl_tables_laws.proofs.SourceLogKeyTexts.{key_is}

-- a row with its key, by its texts
abbrev pub entry_as : RawTable → List PgType → RawRow → Key × Row
entry_as raw types row = (key_in raw row.cells, record { cells = typed_cells types row.cells })

-- and by its values
abbrev entry_by : TableInfo → List PgType → RawRow → Key × Row
entry_by info types row = (key_of info (typed_cells types row.cells), record { cells = typed_cells types row.cells })

module _ (table : LogTable) (info : TableInfo) (is_info : IsInfoOf table.raw info) where
  module _ (infos : List TableInfo) (t : ℕ) (there : slice_get infos t ≡ Some info) where
    types_here : types_of infos t ≡ column_types info
    types_here = ap (λ (o : Option TableInfo). map (λ (column : Column). column.ty) (unwrap_or (option_map (λ (x : TableInfo). x.columns) o) [])) there

    row_is : (row : RawRow) → keyed_row infos t info row ≡ entry_as table.raw (column_types info) row
    row_is row =
        ap (λ (types : List PgType). entry_by info types row) types_here
        ∙ ap (λ (k : Key). let e : Key × Row = (k, record { cells = typed_cells (column_types info) row.cells }) in e) (key_is table info is_info row.cells)

    pub rows_are : (rows : List RawRow) → map (keyed_row infos t info) rows ≡ map (entry_as table.raw (column_types info)) rows
    rows_are [] = refl
    rows_are (row ∷ rows) =
        ap (λ (e : Key × Row). e ∷ map (keyed_row infos t info) rows) (row_is row)
        ∙ ap (λ (l : List (Key × Row)). entry_as table.raw (column_types info) row ∷ l) (rows_are rows)
