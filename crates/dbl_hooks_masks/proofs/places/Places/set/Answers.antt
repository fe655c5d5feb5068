use Rattle.std.proofs.Common.{refl}
use Rattle.dbl_hooks_masks.proofs.ResultLemmas.{at_failure}
use Rattle.dbl_hooks_masks.proofs.places.Places.set.Goals as goal

pub returns-in_err-insert-in-Some-clause-same : goal.returns-in_err-insert-in-Some-clause-same
returns-in_err-insert-in-Some-clause-same c = at_failure c.from_residual.result (λ oid. rw c.in_err-insert-in-Some.ensures.err refl)
