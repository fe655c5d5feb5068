use Rattle.dbl_demo_wal.proofs.EndLemmas.{reads_end}
use Rattle.dbl_demo_wal.proofs.log_laws.reads_end_once.Goals as goal

pub returns : goal.returns
returns c = reads_end
