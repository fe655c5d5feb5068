use Rattle.dbl_record.proofs.Lines.{lines_read_back}
use Rattle.dbl_record.proofs.laws.lines_read_back.Goals as goal

pub returns : goal.returns
returns c = lines_read_back
