use Rattle.std.proofs.Common.{◌≤◌, ℕ, List, length, sym, subst, arith}
use Rattle.dbl_model_history.specs.MarkTexts.Side.{Low}
use Rattle.dbl_model_history.proofs.MarkLemmas.{marks_short}
use Rattle.dbl_window.proofs.states.Marked.low_mark.Goals as goal

pub returns-clause-short : goal.returns-clause-short
returns-clause-short c =
    let frame = c.self.inside.frame in
    let short = (marks_short frame.incarnation frame.number Low c.self.invariant.is.incarnation c.self.invariant.is.number).1 in
    subst (λ (text : List ℕ). length text ≤ 64) (sym c.self.invariant.low_is) (omega (arith, short))
