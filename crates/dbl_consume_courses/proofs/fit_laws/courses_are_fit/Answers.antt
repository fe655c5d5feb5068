use Rattle.dbl_consume_courses.proofs.FitLemmas.{are_fit}
use Rattle.dbl_consume_courses.proofs.fit_laws.courses_are_fit.Goals as goal

pub returns : goal.returns
returns c = are_fit
