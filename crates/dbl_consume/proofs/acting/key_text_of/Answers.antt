use Rattle.std.proofs.Common.{◌∙◌, Some, sym, ap}
use Rattle.dbl_consume.specs.Cells.{cells_data}
use Rattle.dbl_consume.proofs.FlatLemmas.{key_of_cells}
use Rattle.dbl_consume.proofs.acting.key_text_of.Goals as goal

pub returns-in-Ok-clause-ok : goal.returns-in-Ok-clause-ok
returns-in-Ok-clause-ok c = key_of_cells (cells_data c.args.cells.now) c.in-Ok.ensures.ok ∙ ap Some (sym c.in_ok-object_text-in-Ok.ensures)
