-- Single changes of a source's history match the captured tables.
use Rattle.std.specs.Prelude.{◌≡◌, Some, List}
use Rattle.dbl_model_table.specs.declared.table.TableInfo.{TableInfo}
use Rattle.dbl_model_table.specs.declared.change.Change.{Change}
use Rattle.dbl_model_table.specs.Rows.{Rows}
use Rattle.dbl_model_history.specs.History.{RawChange}
use Rattle.dbl_model_history.specs.Ranges.{IsRawChangeInRange}
use Rattle.dbl_model_history.specs.Typed.{typed_change}
use Rattle.dbl_model_history.specs.Fit.{IsFit}
use Rattle.dbl_model_history.specs.FitsInfos.{FitsInfos, IsReadableChange}

-- A change that is valid after the rows just before it, and whose cells are readable, matches the captured tables.
abbrev pub FitChangesFitOneByOne : Type 0
FitChangesFitOneByOne = (infos : List TableInfo) (rows : Rows) (raw : RawChange) (change : Change) → IsRawChangeInRange raw
    → IsReadableChange infos raw
    → typed_change infos raw ≡ Some change → IsFit infos rows change → FitsInfos infos change
