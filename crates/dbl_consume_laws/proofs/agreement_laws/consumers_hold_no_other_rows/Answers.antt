use Rattle.dbl_consume_laws.proofs.Named.{no_other_rows}
use Rattle.dbl_consume_laws.proofs.agreement_laws.consumers_hold_no_other_rows.Goals as goal

pub returns : goal.returns
returns c = no_other_rows
