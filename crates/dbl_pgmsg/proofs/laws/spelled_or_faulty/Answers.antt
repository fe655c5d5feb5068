use Rattle.dbl_pgmsg.proofs.FaultLaws.{either, not_both, one_fault}
use Rattle.dbl_pgmsg.proofs.laws.spelled_or_faulty.Goals as goal

pub returns-clause-one_of : goal.returns-clause-one_of
returns-clause-one_of c = either

pub returns-clause-not_both : goal.returns-clause-not_both
returns-clause-not_both c = not_both

pub returns-clause-one_fault : goal.returns-clause-one_fault
returns-clause-one_fault c = one_fault
