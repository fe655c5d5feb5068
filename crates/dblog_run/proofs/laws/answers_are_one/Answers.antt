use Rattle.dblog_run.proofs.CommandLemmas.{means_one}
use Rattle.dblog_run.proofs.laws.answers_are_one.Goals as goal

pub returns : goal.returns
returns c = means_one
