use Rattle.dbl_tables_laws.proofs.SeenLemmas.{shows}
use Rattle.dbl_tables_laws.proofs.laws.commits_show_what_was_seen.Goals as goal

pub returns : goal.returns
returns c = shows
