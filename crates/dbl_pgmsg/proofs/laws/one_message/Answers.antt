use Rattle.dbl_pgmsg.proofs.MessageLaws.{one_message}
use Rattle.dbl_pgmsg.proofs.laws.one_message.Goals as goal

pub returns : goal.returns
returns c = one_message
