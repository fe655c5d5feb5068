use Rattle.dbl_consume_laws.proofs.Clashes.{commits_lack_placeholders}
use Rattle.dbl_consume_laws.proofs.record_laws.commits_lack_placeholders.Goals as goal

pub returns : goal.returns
returns c = commits_lack_placeholders
