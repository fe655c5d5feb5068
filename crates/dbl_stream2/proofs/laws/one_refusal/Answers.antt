use Rattle.dbl_stream2.proofs.Refusals.{none_refused, one_refusal}
use Rattle.dbl_stream2.proofs.laws.one_refusal.Goals as goal

pub returns-clause-none : goal.returns-clause-none
returns-clause-none c = none_refused

pub returns-clause-one : goal.returns-clause-one
returns-clause-one c = one_refusal
