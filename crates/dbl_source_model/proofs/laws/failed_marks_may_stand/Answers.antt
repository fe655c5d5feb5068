use Rattle.dbl_source_model.proofs.CallLemmas.{may_be_marked}
use Rattle.dbl_source_model.proofs.laws.failed_marks_may_stand.Goals as goal

pub returns : goal.returns
returns c = may_be_marked
