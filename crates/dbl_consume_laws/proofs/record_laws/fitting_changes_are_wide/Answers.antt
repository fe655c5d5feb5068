use Rattle.dbl_consume_laws.proofs.Clashes.{fitting_changes_are_wide}
use Rattle.dbl_consume_laws.proofs.record_laws.fitting_changes_are_wide.Goals as goal

pub returns : goal.returns
returns c = fitting_changes_are_wide
