use Rattle.dbl_stream2.proofs.ReadingLaws.{either, not_both, one_message, one_fault}
use Rattle.dbl_stream2.proofs.laws.stream_message_or_fault.Goals as goal

pub returns-clause-one_of : goal.returns-clause-one_of
returns-clause-one_of c = either

pub returns-clause-not_both : goal.returns-clause-not_both
returns-clause-not_both c = not_both

pub returns-clause-one_message : goal.returns-clause-one_message
returns-clause-one_message c = one_message

pub returns-clause-one_fault : goal.returns-clause-one_fault
returns-clause-one_fault c = one_fault
