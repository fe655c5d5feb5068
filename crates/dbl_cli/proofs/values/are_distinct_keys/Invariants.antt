use Rattle.std.proofs.Common.{◌≡◌, drop}
use Rattle.dbl_model_table.specs.Tables.{are_distinct, same_name}
use Rattle.dbl_cli_commands.specs.Values.{tables_in}
use Rattle.dbl_cli.proofs.values.are_distinct_keys.Given as goal

abbrev pub invariant-loop-i : goal.invariant-loop-i
invariant-loop-i l = are_distinct same_name (tables_in l.keys) ≡ are_distinct same_name (tables_in (drop l.i l.keys))
