use Rattle.dbl_pgmsg.proofs.PrefixLaws.{truncated_at_end, truncated_front}
use Rattle.dbl_pgmsg.proofs.laws.truncated_bytes.Goals as goal

pub returns-clause-place : goal.returns-clause-place
returns-clause-place c = truncated_at_end

pub returns-clause-cut : goal.returns-clause-cut
returns-clause-cut c = truncated_front
