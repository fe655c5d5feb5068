use Rattle.dbl_value.proofs.ReadBack.{texts_read_back}
use Rattle.dbl_value.proofs.laws.texts_read_back.Goals as goal

pub returns : goal.returns
returns c = texts_read_back
