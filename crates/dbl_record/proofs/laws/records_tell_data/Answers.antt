use Rattle.dbl_record.proofs.ReadingLemmas.{records_tell_data}
use Rattle.dbl_record.proofs.laws.records_tell_data.Goals as goal

pub returns : goal.returns
returns c = records_tell_data
