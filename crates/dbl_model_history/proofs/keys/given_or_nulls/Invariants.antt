use Rattle.std.proofs.Common.{◌≡◌, take, map}
use Rattle.dbl_model_table.specs.Keys.{given_or_null}
use Rattle.dbl_model_history.proofs.keys.given_or_nulls.Given as goal

abbrev pub invariant-loop-cell : goal.invariant-loop-cell
invariant-loop-cell l = l.row.items ≡ map given_or_null (take l.cell-index l.cell-items)
