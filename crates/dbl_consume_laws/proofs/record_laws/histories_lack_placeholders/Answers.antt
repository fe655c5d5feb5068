use Rattle.dbl_consume_laws.proofs.Clashes.{histories_lack_placeholders}
use Rattle.dbl_consume_laws.proofs.record_laws.histories_lack_placeholders.Goals as goal

pub returns : goal.returns
returns c = histories_lack_placeholders
