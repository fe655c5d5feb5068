use Rattle.dbl_offset.proofs.StoreLaws.{no_bad_offset, no_fault, not_both, one_bad_offset, one_no_store}
use Rattle.dbl_offset.proofs.laws.stores_or_faults.Goals as goal

pub returns-clause-no_fault : goal.returns-clause-no_fault
returns-clause-no_fault c = no_fault

pub returns-clause-no_bad_offset : goal.returns-clause-no_bad_offset
returns-clause-no_bad_offset c = no_bad_offset

pub returns-clause-not_both : goal.returns-clause-not_both
returns-clause-not_both c = not_both

pub returns-clause-one_no_store : goal.returns-clause-one_no_store
returns-clause-one_no_store c = one_no_store

pub returns-clause-one_bad_offset : goal.returns-clause-one_bad_offset
returns-clause-one_bad_offset c = one_bad_offset
