use Rattle.dbl_faithful.proofs.RecordKinds.{read_rows_are_rows}
use Rattle.dbl_faithful.proofs.kind_laws.read_rows_are_rows.Goals as goal

pub returns : goal.returns
returns c = read_rows_are_rows
