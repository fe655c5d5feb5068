use Rattle.dblog_init.proofs.StandLaws.{answers_stand}
use Rattle.dblog_init.proofs.laws.init_answers_stand.Goals as goal

pub returns : goal.returns
returns c = answers_stand
