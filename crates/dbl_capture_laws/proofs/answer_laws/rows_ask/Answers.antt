use Rattle.dbl_capture_laws.proofs.Answered.{rows_ask}
use Rattle.dbl_capture_laws.proofs.answer_laws.rows_ask.Goals as goal

pub returns : goal.returns
returns c = rows_ask
