use Rattle.dbl_consume_laws.proofs.Commits.{fit_commits}
use Rattle.dbl_consume_laws.proofs.moment_laws.fit_histories_have_fit_commits.Goals as goal

pub returns : goal.returns
returns c = fit_commits
