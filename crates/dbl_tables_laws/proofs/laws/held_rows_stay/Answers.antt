use Rattle.dbl_tables_laws.proofs.SeenLemmas.{held_stay}
use Rattle.dbl_tables_laws.proofs.laws.held_rows_stay.Goals as goal

pub returns : goal.returns
returns c = held_stay
