use Rattle.dbl_faithful.proofs.Onward.{sent_records_rise}
use Rattle.dbl_faithful.proofs.onward_laws.sent_records_rise.Goals as goal

pub returns : goal.returns
returns c = sent_records_rise
