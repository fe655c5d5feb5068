use Rattle.dbl_lines.proofs.PutLemmas.{text_told}
use Rattle.dbl_lines.proofs.laws.text_is_told.Goals as goal

pub returns : goal.returns
returns c = text_told
