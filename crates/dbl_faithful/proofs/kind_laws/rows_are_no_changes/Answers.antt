use Rattle.dbl_faithful.proofs.RecordKinds.{rows_are_no_changes}
use Rattle.dbl_faithful.proofs.kind_laws.rows_are_no_changes.Goals as goal

pub returns : goal.returns
returns c = rows_are_no_changes
