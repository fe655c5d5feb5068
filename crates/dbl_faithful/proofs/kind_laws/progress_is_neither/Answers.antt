use Rattle.dbl_faithful.proofs.RecordKinds.{progress_is_neither}
use Rattle.dbl_faithful.proofs.kind_laws.progress_is_neither.Goals as goal

pub returns : goal.returns
returns c = progress_is_neither
