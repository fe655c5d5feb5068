use Rattle.dbl_capture_laws.proofs.Answered.{failures_excuse}
use Rattle.dbl_capture_laws.proofs.answer_laws.failures_excuse.Goals as goal

pub returns : goal.returns
returns c = failures_excuse
