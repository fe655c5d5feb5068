use Rattle.dbl_consume_laws.proofs.Changes.{parts_keep_age}
use Rattle.dbl_consume_laws.proofs.ageing_laws.parts_of_commits_keep_age.Goals as goal

pub returns : goal.returns
returns c = parts_keep_age
