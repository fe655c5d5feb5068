use Rattle.std.proofs.Common.{◌≤◌, ℕ, List, length, sym, subst, arith}
use Rattle.dbl_model_history.specs.MarkTexts.Side.{High}
use Rattle.dbl_model_history.proofs.MarkLemmas.{marks_short}
use Rattle.dbl_window.specs.Plans.{Chunk, IsFitChunk}
use Rattle.dbl_window.proofs.FitLemmas.{chunk_fits}
use Rattle.dbl_window.proofs.states.Held.high_mark.Goals as goal

pub returns-clause-short : goal.returns-clause-short
returns-clause-short c =
    let frame = c.self.inside.frame in
    let short = (marks_short frame.incarnation frame.number High c.self.invariant.named.is.incarnation c.self.invariant.named.is.number).1 in
    subst (λ (text : List ℕ). length text ≤ 64) (sym c.self.invariant.named.high_is) (omega (arith, short))

pub returns-clause-few : goal.returns-clause-few
returns-clause-few c = subst (λ (w : Chunk). length w.rows ≤ w.plan.limit) c.self.view_is c.self.invariant.fit.few

pub returns-clause-fits : goal.returns-clause-fits
returns-clause-fits c = chunk_fits c.args.self.now (subst (λ (w : Chunk). IsFitChunk w.plan.info w.plan.limit w.rows w.through) c.self.view_is c.self.invariant.fit)
