use Rattle.dbl_tables_changes.proofs.HolderLemmas.{holders_first}
use Rattle.dbl_tables_changes.proofs.laws.holders_are_first.Goals as goal

pub returns : goal.returns
returns c = holders_first
