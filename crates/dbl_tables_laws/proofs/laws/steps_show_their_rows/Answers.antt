use Rattle.dbl_tables_laws.proofs.ShownLemmas.{steps_shown}
use Rattle.dbl_tables_laws.proofs.laws.steps_show_their_rows.Goals as goal

pub returns : goal.returns
returns c = steps_shown
