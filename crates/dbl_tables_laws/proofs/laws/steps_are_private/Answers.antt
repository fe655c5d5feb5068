use Rattle.dbl_tables_laws.proofs.SeenLemmas.{steps_private}
use Rattle.dbl_tables_laws.proofs.laws.steps_are_private.Goals as goal

pub returns : goal.returns
returns c = steps_private
