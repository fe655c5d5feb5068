use Rattle.dbl_faithful.proofs.RecordKinds.{events_are_changes}
use Rattle.dbl_faithful.proofs.kind_laws.events_are_changes.Goals as goal

pub returns : goal.returns
returns c = events_are_changes
