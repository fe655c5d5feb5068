use Rattle.dbl_consume_courses.proofs.AgeLemmas.{new_aged}
use Rattle.dbl_consume_courses.proofs.age_laws.new_courses_are_aged.Goals as goal

pub returns : goal.returns
returns c = new_aged
