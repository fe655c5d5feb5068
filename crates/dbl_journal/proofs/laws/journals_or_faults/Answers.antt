use Rattle.dbl_journal.proofs.Reading.{journal_or_fault, one_fault}
use Rattle.dbl_journal.proofs.laws.journals_or_faults.Goals as goal

pub returns-clause-not_both : goal.returns-clause-not_both
returns-clause-not_both c = journal_or_fault

pub returns-clause-one_fault : goal.returns-clause-one_fault
returns-clause-one_fault c = one_fault
