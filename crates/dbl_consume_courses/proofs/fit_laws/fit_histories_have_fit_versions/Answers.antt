use Rattle.dbl_consume_courses.proofs.FitHistoryLemmas.{fit_versions}
use Rattle.dbl_consume_courses.proofs.fit_laws.fit_histories_have_fit_versions.Goals as goal

pub returns : goal.returns
returns c = fit_versions
