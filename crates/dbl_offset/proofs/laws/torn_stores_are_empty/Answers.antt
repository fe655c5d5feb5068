use Rattle.dbl_offset.proofs.StoreLaws.{nothing_is_no_store, torn_has_none}
use Rattle.dbl_offset.proofs.laws.torn_stores_are_empty.Goals as goal

pub returns-clause-torn : goal.returns-clause-torn
returns-clause-torn c = torn_has_none

pub returns-clause-empty : goal.returns-clause-empty
returns-clause-empty c = nothing_is_no_store
