use Rattle.dbl_source_log.proofs.SentLemmas.{stays}
use Rattle.dbl_source_log.proofs.laws.read_messages_stay.Goals as goal

pub returns : goal.returns
returns c = stays
