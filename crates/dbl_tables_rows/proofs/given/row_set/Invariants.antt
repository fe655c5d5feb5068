use Rattle.std.proofs.Common.{◌≡◌, ◌++◌, drop}
use Rattle.dbl_model_table.specs.Infos.{catalogue_of}
use Rattle.dbl_tables_rows.specs.Cells.{row_set}
use Rattle.dbl_tables_rows.proofs.given.row_set.Given as goal

-- what is written, and what is to come
abbrev pub invariant-loop-i : goal.invariant-loop-i
invariant-loop-i l = l.row.items ++ row_set (drop l.i (catalogue_of l.info).columns) l.cells (drop l.i l.before.cells) ≡ row_set (catalogue_of l.info).columns l.cells l.before.cells
