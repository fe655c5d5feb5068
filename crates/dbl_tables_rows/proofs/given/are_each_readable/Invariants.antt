use Rattle.std.proofs.Common.{◌≡◌, true, take}
use Rattle.std.specs.BTreeMap.{get}
use Rattle.std.specs.List.{list_all}
use Rattle.dbl_base.specs.Texts.{text_cmp}
use Rattle.dbl_model_table.specs.Tables.{column_names}
use Rattle.dbl_model_table.specs.Infos.{catalogue_of}
use Rattle.dbl_tables_rows.specs.Cells.{is_readable}
use Rattle.dbl_tables_rows.specs.Given.{Places}
use Rattle.dbl_tables_rows.proofs.given.are_each_readable.Given as goal

abbrev pub invariant-loop-cell : goal.invariant-loop-cell
invariant-loop-cell l = Places (column_names l.info.columns) (get text_cmp l.columns) → list_all (is_readable (catalogue_of l.info)) (take l.cell-index l.cells) ≡ true
