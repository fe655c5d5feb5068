use Rattle.dbl_capture_laws.proofs.Answered.{newest_bytes_ask}
use Rattle.dbl_capture_laws.proofs.answer_laws.newest_bytes_ask.Goals as goal

pub returns : goal.returns
returns c = newest_bytes_ask
