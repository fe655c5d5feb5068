use Rattle.std.specs.List.{AllZip}
use Rattle.dbl_tables.specs.Stands.{IsMade}
use Rattle.dbl_tables.proofs.tables.make_tables.Given as goal

abbrev pub invariant-loop-table : goal.invariant-loop-table
invariant-loop-table l = AllZip IsMade l.yielded l.made.items
