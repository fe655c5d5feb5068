use Rattle.dbl_faithful.proofs.Words.{cells_miss_empty_rows}
use Rattle.dbl_faithful.proofs.log_laws.cells_miss_empty_rows.Goals as goal

pub returns : goal.returns
returns c = cells_miss_empty_rows
