use Rattle.dbl_capture_laws.proofs.Answered.{quiet_answers_ask_nothing}
use Rattle.dbl_capture_laws.proofs.answer_laws.quiet_answers_ask_nothing.Goals as goal

pub returns : goal.returns
returns c = quiet_answers_ask_nothing
