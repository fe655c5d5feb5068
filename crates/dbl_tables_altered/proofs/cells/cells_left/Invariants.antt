use Rattle.std.proofs.Common.{◌≡◌, ◌++◌, drop}
use Rattle.dbl_model_table.specs.Infos.{catalogue_of}
use Rattle.dbl_tables_altered.specs.Alterations.{cells_left}
use Rattle.dbl_tables_altered.proofs.cells.cells_left.Given as goal

-- the cells that are left of those so far, and those to come
abbrev pub invariant-loop-i : goal.invariant-loop-i
invariant-loop-i l = l.left.items ++ cells_left l.alteration (drop l.i (catalogue_of l.info).columns) (drop l.i l.row.cells) ≡ cells_left l.alteration (catalogue_of l.info).columns l.row.cells
