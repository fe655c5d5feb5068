use Rattle.std.proofs.Common.{◌≡◌, take}
use Rattle.dbl_model_table.specs.Tables.{column_names}
use Rattle.cases_ages.proofs.plain_json.names_of_columns.Given as goal

abbrev pub invariant-loop-column : goal.invariant-loop-column
invariant-loop-column l = l.names.items ≡ column_names (take l.column-index l.column-items)
