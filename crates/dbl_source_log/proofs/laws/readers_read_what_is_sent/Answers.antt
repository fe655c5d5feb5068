use Rattle.dbl_source_log.proofs.SentLemmas.{reads_what_is_sent}
use Rattle.dbl_source_log.proofs.laws.readers_read_what_is_sent.Goals as goal

pub returns : goal.returns
returns c = reads_what_is_sent
