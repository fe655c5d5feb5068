use Rattle.std.proofs.Common.{subst}
use Rattle.dbl_model_event.specs.Snapshots.{FitsChunk}
use Rattle.dbl_window.specs.Plans.{Chunk}
use Rattle.dbl_window.specs.Promise.{closed_of}
use Rattle.dbl_window.proofs.states.Armed.awaited_mark.Goals as goal

pub returns-clause-fits : goal.returns-clause-fits
returns-clause-fits c = subst (λ (w : Chunk). FitsChunk w.plan.info (closed_of w)) c.self.view_is c.low_mark.ensures.fits
