use Rattle.dbl_source_log.proofs.LogLemmas.{entries_of_tables}
use Rattle.dbl_source_log.proofs.laws.entries_are_of_tables.Goals as goal

pub returns : goal.returns
returns c = entries_of_tables
