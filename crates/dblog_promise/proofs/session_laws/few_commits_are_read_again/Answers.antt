use Rattle.dblog_promise.proofs.Again.{few_commits_are_read_again}
use Rattle.dblog_promise.proofs.session_laws.few_commits_are_read_again.Goals as goal

pub returns : goal.returns
returns c = few_commits_are_read_again
