use Rattle.std.proofs.Common.{◌≡◌, ◌≤◌, ◌∙◌, ℕ, inl, inr, length, sym, ap, subst, arith}
use Rattle.std.specs.Prelude.{Ok, Err, nat_lt}
use Rattle.std.proofs.lemmas.Result.{err_from_is_err_and}
use Rattle.dbl_window.specs.declared.error.WindowError.{WindowError}
use Rattle.dbl_window.specs.declared.error.WindowError.TheVariants as window
use Rattle.dbl_window.specs.Plans.{Plan, plan_of, IsFitChunk}
use Rattle.dbl_window.specs.Reading.{answer_read}
use Rattle.dbl_window.specs.Selected.{IsReadAs}
use Rattle.dbl_window.proofs.FitLemmas.{fit_chunk}
use Rattle.dbl_window.proofs.SelectLemmas.{answered_same}
use Rattle.dbl_window.proofs.FaultLemmas.{reads_never_fail}
use Rattle.dbl_window.proofs.states.Marked.holding.Goals as goal

pub returns-in_err-rows-clause-read : goal.returns-in_err-rows-clause-read
returns-in_err-rows-clause-read c =
    let answer = c.args.answer in
    let e = c.in_err-rows.field-0.0 in
    let p = err_from_is_err_and c.from_residual.result c.from_residual.ensures.1 in
    subst (IsReadAs c.args.self answer) (sym (p.1 ∙ ap (λ (x : WindowError). Err x) p.2))
    (subst (λ (plan : Plan). IsReadAs plan answer (Err e)) c.self.view_is
    (elim c.in_err-rows.ensures.read [
      | inl memory ↦ inr (inl memory)
      | inr fault ↦ inr (inr (answered_same (plan_of c.self.inside.frame) answer c.into_items.result.items (Err e) c.if-answer-self.false c.into_items.ensures fault))
    ]))

pub returns-in_err-rows-clause-no_failure : goal.returns-in_err-rows-clause-no_failure
returns-in_err-rows-clause-no_failure c failed =
    let e = c.in_err-rows.field-0.0 in
    let plan = plan_of c.self.inside.frame in
    let p = err_from_is_err_and c.from_residual.result c.from_residual.ensures.1 in
    let both : Err e ≡ Err window.Failed = sym (p.1 ∙ ap (λ (x : WindowError). Err x) p.2) ∙ failed in
    let is : e ≡ window.Failed = cc in
    elim c.in_err-rows.ensures.read [
      | inl memory ↦ (let never : window.Failed ≡ window.Memory = sym is ∙ memory in absurd (cc))
      | inr fault ↦ reads_never_fail plan c.into_items.result.items (fault ∙ ap (λ (x : WindowError). Err x) is)
    ]

pub invariant_of-result : goal.invariant_of-result
invariant_of-result c =
    let frame = c.self.inside.frame in
    let read = c.in_ok-rows.field-0 in
    let counted : read.count ≡ length read.rows.entries = c.in_ok-rows.ensures.count in
    let few : read.count ≤ frame.limit = c.in_ok-rows.ensures.few in
    record {
      named = c.self.invariant;
      fit = fit_chunk frame.info frame.limit frame.above read.rows.entries read.through c.self.invariant.is.start c.in_ok-rows.ensures.fit (omega (arith, counted, few)) c.in_ok-rows.ensures.through;
    }

pub returns-clause-read : goal.returns-clause-read
returns-clause-read c =
    let read = c.in_ok-rows.field-0 in
    let answer = c.args.answer in
    subst (λ (plan : Plan). answer_read plan answer ≡ Ok read.rows.entries) c.self.view_is
    (answered_same (plan_of c.self.inside.frame) answer c.into_items.result.items (Ok read.rows.entries) c.if-answer-self.false c.into_items.ensures c.in_ok-rows.ensures.read)

pub returns-clause-fit : goal.returns-clause-fit
returns-clause-fit c =
    let frame = c.self.inside.frame in
    let read = c.in_ok-rows.field-0 in
    let counted : read.count ≡ length read.rows.entries = c.in_ok-rows.ensures.count in
    let few : read.count ≤ frame.limit = c.in_ok-rows.ensures.few in
    subst (λ (plan : Plan). IsFitChunk plan.info plan.limit read.rows.entries read.through) c.self.view_is
    (fit_chunk frame.info frame.limit frame.above read.rows.entries read.through c.self.invariant.is.start c.in_ok-rows.ensures.fit (omega (arith, counted, few)) c.in_ok-rows.ensures.through)

pub returns-clause-done : goal.returns-clause-done
returns-clause-done c =
    let read = c.in_ok-rows.field-0 in
    ap (λ (count : ℕ). nat_lt count c.self.inside.frame.limit) c.in_ok-rows.ensures.count ∙ ap (λ (plan : Plan). nat_lt (length read.rows.entries) plan.limit) c.self.view_is
