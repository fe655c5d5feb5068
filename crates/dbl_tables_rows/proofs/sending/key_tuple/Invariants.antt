use Rattle.std.proofs.Common.{◌≡◌, ◌++◌, drop}
use Rattle.std.specs.List.{AllByRecursion}
use Rattle.dbl_model_table.specs.Infos.{catalogue_of}
use Rattle.dbl_tables_rows.specs.Sending.{key_cells}
use Rattle.dbl_tables_rows.specs.Given.{IsUtf8Cell}
use Rattle.dbl_tables_rows.proofs.sending.key_tuple.Given as goal

abbrev pub invariant-loop-i : goal.invariant-loop-i
invariant-loop-i l = record {
  sent : l.cells.items ++ key_cells (catalogue_of l.info) (drop l.i (catalogue_of l.info).columns) (drop l.i l.row.cells) ≡ key_cells (catalogue_of l.info) (catalogue_of l.info).columns l.row.cells;
  utf8 : AllByRecursion IsUtf8Cell l.cells.items;
}
