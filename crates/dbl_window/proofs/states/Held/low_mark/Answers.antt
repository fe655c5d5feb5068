use Rattle.std.proofs.Common.{subst}
use Rattle.dbl_window.specs.Plans.{Chunk, IsFitChunk}
use Rattle.dbl_window.proofs.FitLemmas.{chunk_fits}
use Rattle.dbl_window.proofs.states.Held.low_mark.Goals as goal

pub returns-clause-fits : goal.returns-clause-fits
returns-clause-fits c = chunk_fits c.args.self.now (subst (λ (w : Chunk). IsFitChunk w.plan.info w.plan.limit w.rows w.through) c.self.view_is c.self.invariant.fit)
