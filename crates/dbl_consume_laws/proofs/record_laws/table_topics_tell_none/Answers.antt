use Rattle.dbl_consume_laws.proofs.Prints.{table_topics_tell_none}
use Rattle.dbl_consume_laws.proofs.record_laws.table_topics_tell_none.Goals as goal

pub returns : goal.returns
returns c = table_topics_tell_none
