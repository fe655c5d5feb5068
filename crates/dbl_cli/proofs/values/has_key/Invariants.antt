use Rattle.std.proofs.Common.{◌≡◌, drop}
use Rattle.std.specs.List.{list_any}
use Rattle.dbl_model_table.specs.Tables.{same_name}
use Rattle.dbl_cli_commands.specs.Values.{tables_in}
use Rattle.dbl_cli.proofs.values.has_key.Given as goal

abbrev pub invariant-loop-other : goal.invariant-loop-other
invariant-loop-other l = list_any (same_name l.table) (tables_in l.others) ≡ list_any (same_name l.table) (tables_in (drop l.other-index l.others))
