use Rattle.dbl_faithful.proofs.Faithful.{cursors_were_told}
use Rattle.dbl_faithful.proofs.faithful_laws.cursors_were_told.Goals as goal

pub returns : goal.returns
returns c = cursors_were_told
