use Rattle.std.proofs.Common.{◌≡◌, ◌++◌, map, drop}
use Rattle.std.specs.List.{AllByRecursion}
use Rattle.dbl_model_table.specs.Infos.{raw_column}
use Rattle.dbl_tables_rows.specs.Sending.{new_cells}
use Rattle.dbl_tables_rows.specs.Given.{IsUtf8Cell}
use Rattle.dbl_tables_rows.proofs.sending.new_cells.Given as goal

abbrev pub invariant-loop-i : goal.invariant-loop-i
invariant-loop-i l = record {
  sent : l.cells.items ++ new_cells l.table (drop l.i (map raw_column l.columns)) (drop l.i l.before) (drop l.i l.row) ≡ new_cells l.table (map raw_column l.columns) l.before l.row;
  utf8 : AllByRecursion IsUtf8Cell l.cells.items;
}
