use Rattle.dbl_consume_courses.proofs.FitHistoryLemmas.{plain_fit_versions}
use Rattle.dbl_consume_courses.proofs.fit_laws.plain_histories_have_fit_versions.Goals as goal

pub returns : goal.returns
returns c = plain_fit_versions
