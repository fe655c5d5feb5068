use Rattle.dbl_consume_laws.proofs.ReadRows.{read_rows_change_cells}
use Rattle.dbl_consume_laws.proofs.record_laws.read_rows_change_cells.Goals as goal

pub returns : goal.returns
returns c = read_rows_change_cells
