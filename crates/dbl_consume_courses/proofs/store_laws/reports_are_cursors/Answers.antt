use Rattle.dbl_consume_courses.proofs.StoreSteps.{reports_are}
use Rattle.dbl_consume_courses.proofs.store_laws.reports_are_cursors.Goals as goal

pub returns : goal.returns
returns c = reports_are
