use Rattle.std.proofs.Common.{◌≡◌, map, take}
use Rattle.dbl_source_log.specs.Relations.{relation_column}
use Rattle.dbl_source_log.proofs.relations.relation_columns.Given as goal

abbrev pub invariant-loop-column : goal.invariant-loop-column
invariant-loop-column l = l.columns.items ≡ map (relation_column l.table) (take l.column-index l.column-items)
