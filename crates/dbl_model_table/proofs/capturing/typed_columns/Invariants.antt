use Rattle.std.proofs.Common.{◌≡◌, true, take, drop, map}
use Rattle.std.specs.List.{find}
use Rattle.dbl_model_table.specs.Tables.{are_typed}
use Rattle.dbl_model_table.specs.Infos.{raw_column}
use Rattle.dbl_model_table.proofs.Making.{is_float_column}
use Rattle.dbl_model_table.proofs.capturing.typed_columns.Given as goal

abbrev pub invariant-loop-column : goal.invariant-loop-column
invariant-loop-column l = record {
  made : map raw_column l.typed.items ≡ take l.column-index l.columns;
  typed : are_typed l.typed.items ≡ true;
  so_far : find is_float_column (drop l.column-index l.columns) ≡ find is_float_column l.columns;
}
