use Rattle.std.proofs.Common.{◌≡◌, true}
use Rattle.std.specs.Prelude.{bytes_eq}
use Rattle.dbl_model_table.specs.Tables.{are_distinct}
use Rattle.dbl_tables_rows.specs.Given.{HasColumns, given_names}
use Rattle.dbl_tables_changes.specs.First.{cells_named}
use Rattle.dbl_tables_changes.proofs.first.take_cells.Given as goal

abbrev pub invariant-loop-cell : goal.invariant-loop-cell
invariant-loop-cell l = HasColumns l.rows.table.info l.rows.places → (l.named.items ≡ cells_named l.rows.table.info l.yielded) × (are_distinct bytes_eq (given_names l.yielded) ≡ true)
