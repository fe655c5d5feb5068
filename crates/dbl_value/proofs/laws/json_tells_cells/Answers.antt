use Rattle.dbl_value_types.proofs.JsonTexts.{json_tells_cells}
use Rattle.dbl_value.proofs.laws.json_tells_cells.Goals as goal

pub returns : goal.returns
returns c = json_tells_cells
