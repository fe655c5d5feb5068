use Rattle.dbl_tables_laws.proofs.FirstLemmas.{first_rows_one}
use Rattle.dbl_tables_laws.proofs.laws.first_rows_are_one_list.Goals as goal

pub returns : goal.returns
returns c = first_rows_one
