use Rattle.dbl_faithful.proofs.CaughtUp.{sent_records_are_caught_up}
use Rattle.dbl_faithful.proofs.caught_up_laws.sent_records_are_caught_up.Goals as goal

pub returns : goal.returns
returns c = sent_records_are_caught_up
