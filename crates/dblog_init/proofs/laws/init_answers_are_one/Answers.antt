use Rattle.dblog_init.proofs.AnswerLaws.{one_answer}
use Rattle.dblog_init.proofs.laws.init_answers_are_one.Goals as goal

pub returns : goal.returns
returns c = one_answer
