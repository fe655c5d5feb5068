use Rattle.dblog_laws.proofs.SentSizes.{sent_messages_are_few}
use Rattle.dblog_laws.proofs.run_laws.sent_messages_are_few.Goals as goal

pub returns : goal.returns
returns c = sent_messages_are_few
