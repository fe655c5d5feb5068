use Rattle.dbl_consume_laws.proofs.Spans.{no_records_are_aged}
use Rattle.dbl_consume_laws.proofs.ageing_laws.no_records_are_aged.Goals as goal

pub returns : goal.returns
returns c = no_records_are_aged
