use Rattle.dblog_run.proofs.StandLemmas.{means_stand}
use Rattle.dblog_run.proofs.laws.answers_stand.Goals as goal

pub returns : goal.returns
returns c = means_stand
