use Rattle.dbl_consume_laws.proofs.ReadRows.{progress_changes_no_cell}
use Rattle.dbl_consume_laws.proofs.record_laws.progress_changes_no_cell.Goals as goal

pub returns : goal.returns
returns c = progress_changes_no_cell
