use Rattle.dbl_source_log.proofs.ReaderLemmas.{reads_right}
use Rattle.dbl_source_log.proofs.laws.fair_logs_are_read_right.Goals as goal

pub returns : goal.returns
returns c = reads_right
