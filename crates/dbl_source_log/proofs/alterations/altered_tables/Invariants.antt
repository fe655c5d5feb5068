use Rattle.std.proofs.Common.{◌≡◌, map}
use Rattle.dbl_source_log.specs.Alterations.{altered_table}
use Rattle.dbl_source_log.proofs.alterations.altered_tables.Given as goal

abbrev pub invariant-loop-table : goal.invariant-loop-table
invariant-loop-table l = l.altered.items ≡ map (altered_table l.name l.columns) l.yielded
