use Rattle.dbl_journal.proofs.Reading.{one_journal}
use Rattle.dbl_journal.proofs.laws.journals_are_read_once.Goals as goal

pub returns : goal.returns
returns c = one_journal
