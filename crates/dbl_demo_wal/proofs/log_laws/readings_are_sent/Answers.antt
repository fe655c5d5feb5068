use Rattle.dbl_tables_laws.proofs.SourceLogSentLemmas.{reads_what_is_sent}
use Rattle.dbl_demo_wal.specs.Sound.{logged_in}
use Rattle.dbl_demo_wal.specs.Standings.{tables_of}
use Rattle.dbl_demo_wal.proofs.log_laws.readings_are_sent.Goals as goal

pub returns : goal.returns
returns c = λ wal place. reads_what_is_sent (tables_of wal) (logged_in wal.entries) place
