use Rattle.dbl_consume_laws.proofs.Clashes.{fit_changes_are_wide}
use Rattle.dbl_consume_laws.proofs.record_laws.fit_changes_are_wide.Goals as goal

pub returns : goal.returns
returns c = fit_changes_are_wide
