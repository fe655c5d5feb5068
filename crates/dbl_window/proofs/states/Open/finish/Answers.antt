use Rattle.std.proofs.Common.{◌≤◌, length, subst}
use Rattle.std.specs.List.{AllByRecursion}
use Rattle.dbl_model_history.specs.Fit.{IsKeyOf}
use Rattle.dbl_model_event.specs.Snapshots.{FitsChunk}
use Rattle.dbl_window.specs.Plans.{Chunk}
use Rattle.dbl_window.specs.Promise.{KeepsPromise}
use Rattle.dbl_window.proofs.FitLemmas.{fits_chunk, fit_keys}
use Rattle.dbl_window.proofs.PromiseLemmas.{kept_promise}
use Rattle.dbl_window.proofs.states.Open.finish.Goals as goal

pub returns-clause-promise : goal.returns-clause-promise
returns-clause-promise c =
    subst (λ (w : Chunk). KeepsPromise w c.finish.result) c.self.view_is
    (kept_promise c.self.inside.held c.finish.result c.finish.ensures.closed c.finish.ensures.ordered)

pub returns-clause-fits : goal.returns-clause-fits
returns-clause-fits c =
    subst (λ (w : Chunk). FitsChunk w.plan.info c.finish.result) c.self.view_is
    (fits_chunk c.self.inside.held.plan.info c.self.inside.held.plan.limit c.finish.result c.finish.ensures.fit)

pub returns-clause-keys : goal.returns-clause-keys
returns-clause-keys c =
    subst (λ (w : Chunk). AllByRecursion (λ entry. IsKeyOf w.plan.info entry.0) c.finish.result.rows) c.self.view_is
    (fit_keys c.self.inside.held.plan.info c.self.inside.held.plan.limit c.finish.result c.finish.ensures.fit)

pub returns-clause-few : goal.returns-clause-few
returns-clause-few c =
    subst (λ (w : Chunk). length c.finish.result.rows ≤ w.plan.limit) c.self.view_is c.finish.ensures.fit.few
