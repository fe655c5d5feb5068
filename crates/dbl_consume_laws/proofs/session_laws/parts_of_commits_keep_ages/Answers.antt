use Rattle.dbl_consume_laws.proofs.Between.{parts_of_commits_keep_ages}
use Rattle.dbl_consume_laws.proofs.session_laws.parts_of_commits_keep_ages.Goals as goal

pub returns : goal.returns
returns c = parts_of_commits_keep_ages
