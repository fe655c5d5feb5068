use Rattle.dbl_consume_laws.proofs.Spans.{goes_back}
use Rattle.dbl_consume_laws.proofs.ageing_laws.age_goes_back.Goals as goal

pub returns : goal.returns
returns c = goes_back
