use Rattle.dbl_source_log.proofs.ReaderLemmas.{reads_all}
use Rattle.dbl_source_log.proofs.laws.readers_at_the_end_have_read_all.Goals as goal

pub returns : goal.returns
returns c = reads_all
