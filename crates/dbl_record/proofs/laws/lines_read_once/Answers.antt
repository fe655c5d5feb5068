use Rattle.dbl_record.proofs.ReadingLemmas.{lines_read_once}
use Rattle.dbl_record.proofs.laws.lines_read_once.Goals as goal

pub returns : goal.returns
returns c = lines_read_once
