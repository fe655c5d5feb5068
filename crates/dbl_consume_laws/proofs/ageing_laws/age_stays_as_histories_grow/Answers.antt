use Rattle.dbl_consume_laws.proofs.Spans.{stays_in_longer}
use Rattle.dbl_consume_laws.proofs.ageing_laws.age_stays_as_histories_grow.Goals as goal

pub returns : goal.returns
returns c = stays_in_longer
