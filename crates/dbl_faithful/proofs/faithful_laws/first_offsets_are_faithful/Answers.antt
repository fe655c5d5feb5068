use Rattle.dbl_faithful.proofs.Faithful.{first_offsets_are_faithful}
use Rattle.dbl_faithful.proofs.faithful_laws.first_offsets_are_faithful.Goals as goal

pub returns : goal.returns
returns c = first_offsets_are_faithful
