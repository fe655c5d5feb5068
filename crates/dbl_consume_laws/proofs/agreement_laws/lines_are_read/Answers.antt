use Rattle.dbl_consume_laws.proofs.Lines.{lines_are_read}
use Rattle.dbl_consume_laws.proofs.agreement_laws.lines_are_read.Goals as goal

pub returns : goal.returns
returns c = lines_are_read
