use Rattle.dbl_capture_laws.proofs.Answered.{unread_answers_ask}
use Rattle.dbl_capture_laws.proofs.answer_laws.unread_answers_ask.Goals as goal

pub returns : goal.returns
returns c = unread_answers_ask
