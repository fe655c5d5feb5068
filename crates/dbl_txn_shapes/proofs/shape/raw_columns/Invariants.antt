use Rattle.std.proofs.Common.{◌≡◌, map, take}
use Rattle.dbl_model_commit.specs.Shapes.{column_in}
use Rattle.dbl_txn_shapes.proofs.shape.raw_columns.Given as goal

abbrev pub invariant-loop-column : goal.invariant-loop-column
invariant-loop-column l = l.raw_columns.items ≡ map column_in (take l.column-index l.columns.items)
