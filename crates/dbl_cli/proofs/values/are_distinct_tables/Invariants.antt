use Rattle.std.proofs.Common.{◌≡◌, drop}
use Rattle.dbl_model_table.specs.Tables.{are_distinct, same_name}
use Rattle.dbl_cli.proofs.values.are_distinct_tables.Given as goal

abbrev pub invariant-loop-i : goal.invariant-loop-i
invariant-loop-i l = are_distinct same_name l.tables ≡ are_distinct same_name (drop l.i l.tables)
