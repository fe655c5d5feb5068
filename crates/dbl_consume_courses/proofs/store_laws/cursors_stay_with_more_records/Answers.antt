use Rattle.dbl_consume_courses.proofs.StoreSteps.{more_records}
use Rattle.dbl_consume_courses.proofs.store_laws.cursors_stay_with_more_records.Goals as goal

pub returns : goal.returns
returns c = more_records
