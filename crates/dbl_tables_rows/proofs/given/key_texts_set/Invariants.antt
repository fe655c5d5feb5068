use Rattle.std.proofs.Common.{◌≡◌, ◌++◌, drop}
use Rattle.dbl_model_table.specs.Infos.{catalogue_of}
use Rattle.dbl_tables_rows.specs.Cells.{key_texts_set}
use Rattle.dbl_tables_rows.proofs.given.key_texts_set.Given as goal

abbrev pub invariant-loop-i : goal.invariant-loop-i
invariant-loop-i l = l.texts.items ++ key_texts_set l.cells (drop l.i (catalogue_of l.info).key) (drop l.i l.before) ≡ key_texts_set l.cells (catalogue_of l.info).key l.before
