use Rattle.dbl_source_log.proofs.SentLemmas.{sent_stays}
use Rattle.dbl_source_log.proofs.laws.sent_messages_stay.Goals as goal

pub returns : goal.returns
returns c = sent_stays
