use Rattle.dbl_consume_courses.proofs.StoreSteps.{later_positions}
use Rattle.dbl_consume_courses.proofs.store_laws.cursors_stay_at_later_positions.Goals as goal

pub returns : goal.returns
returns c = later_positions
