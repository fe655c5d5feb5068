use Rattle.std.proofs.Common.{◌≡◌, map, take}
use Rattle.dbl_tables_rows.specs.Cells.{text_given}
use Rattle.dbl_tables_rows.proofs.given.row_given.Given as goal

abbrev pub invariant-loop-column : goal.invariant-loop-column
invariant-loop-column l = l.row.items ≡ map (λ column. text_given l.cells column.name) (take l.column-index l.column-items)
