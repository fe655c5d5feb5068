use Rattle.std.proofs.Common.{◌≡◌, drop}
use Rattle.dbl_cli.specs.Items.{has_value}
use Rattle.dbl_cli.specs.Names.{all_named}
use Rattle.dbl_cli.proofs.names.has_value.Given as goal

abbrev pub invariant-loop-name : goal.invariant-loop-name
invariant-loop-name l = has_value (all_named l.names) l.text ≡ has_value (all_named (drop l.name-index l.names)) l.text
