use Rattle.dbl_consume_courses.proofs.StoreSteps.{goes_on}
use Rattle.dbl_consume_courses.proofs.store_laws.agreement_goes_on.Goals as goal

pub returns : goal.returns
returns c = goes_on
