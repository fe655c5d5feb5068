use Rattle.dbl_consume_courses.proofs.StoreSteps.{longer_histories}
use Rattle.dbl_consume_courses.proofs.store_laws.cursors_stay_as_histories_grow.Goals as goal

pub returns : goal.returns
returns c = longer_histories
