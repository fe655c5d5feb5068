use Rattle.dbl_model_table.specs.Tables.{type_at}
use Rattle.dbl_model_history.proofs.KeyFitLemmas.{cells-apart}
use Rattle.dbl_model_history.proofs.fitting_keys.are_key_cells.Goals as goal

pub returns-then-places-cells-clause-is : goal.returns-then-places-cells-clause-is
returns-then-places-cells-clause-is c = cells-apart (type_at c.args.columns.now) c.args.places.now c.args.cells.now c.if-places-cells.true
