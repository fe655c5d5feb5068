use Rattle.dbl_tables_epochs.proofs.KeptLemmas.{kept_cells}
use Rattle.dbl_tables_epochs.proofs.laws.kept_cells_stay.Goals as goal

pub returns : goal.returns
returns c = kept_cells
