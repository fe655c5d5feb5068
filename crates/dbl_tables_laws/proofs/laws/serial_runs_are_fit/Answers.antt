use Rattle.dbl_tables_laws.proofs.RangedLemmas.{runs_fit}
use Rattle.dbl_tables_laws.proofs.laws.serial_runs_are_fit.Goals as goal

pub returns : goal.returns
returns c = runs_fit
