use Rattle.dbl_tables_laws.proofs.SendableLemmas.{runs_fair}
use Rattle.dbl_tables_laws.proofs.laws.serial_runs_are_fair.Goals as goal

pub returns : goal.returns
returns c = runs_fair
