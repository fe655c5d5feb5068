use Rattle.dbl_record.proofs.ReadingLemmas.{lines_tell_records}
use Rattle.dbl_record.proofs.laws.lines_tell_records.Goals as goal

pub returns : goal.returns
returns c = lines_tell_records
