use Rattle.dbl_consume_laws.proofs.KnownKeys.{told_bounds}
use Rattle.dbl_consume_laws.proofs.moment_laws.told_bounds_are_told.Goals as goal

pub returns : goal.returns
returns c = told_bounds
