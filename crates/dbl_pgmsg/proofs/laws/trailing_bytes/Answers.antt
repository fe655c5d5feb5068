use Rattle.dbl_pgmsg.proofs.PrefixLaws.{trailing_iff}
use Rattle.dbl_pgmsg.proofs.laws.trailing_bytes.Goals as goal

pub returns : goal.returns
returns c = trailing_iff
