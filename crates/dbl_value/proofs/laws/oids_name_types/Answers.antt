use Rattle.dbl_value_types.proofs.TypeLemmas.{oids_name_types}
use Rattle.dbl_value.proofs.laws.oids_name_types.Goals as goal

pub returns : goal.returns
returns c = oids_name_types
