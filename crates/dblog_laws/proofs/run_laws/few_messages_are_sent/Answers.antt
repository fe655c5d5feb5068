use Rattle.dblog_laws.proofs.WalSizes.{few_messages_are_sent}
use Rattle.dblog_laws.proofs.run_laws.few_messages_are_sent.Goals as goal

pub returns : goal.returns
returns c = few_messages_are_sent
