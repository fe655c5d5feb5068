use Rattle.dbl_consume_courses.proofs.BetweenLemmas.{empty_aged}
use Rattle.dbl_consume_courses.proofs.between_laws.empty_logs_are_aged.Goals as goal

pub returns : goal.returns
returns c = empty_aged
