use Rattle.std.proofs.Common.{◌≡◌, ◌∙◌, ap, arith}
use Rattle.std.proofs.lemmas.Result.{err_from_is_err_and}
use Rattle.dbl_source_scripted.specs.declared.asked.Last.TheVariants as answers
use Rattle.dbl_source_scripted.specs.Played.{Played, with_release, with_answer, with_confirmed}
use Rattle.dbl_source_scripted.proofs.PlayedLemmas.{stopped, answered}
use Rattle.dbl_source_scripted.proofs.scripted.ScriptedSource.play_confirm.Goals as goal

pub returns-in_err-release : goal.returns-in_err-release
returns-in_err-release c =
    let p = err_from_is_err_and c.from_residual.result c.from_residual.ensures.1 in
    rw (p.1, p.2) (stopped 0 ⊥ _ _ c.args.self.now c.release.new.self c.in_err-release.field-0.0 c.release.ensures.was c.release.ensures.later c.in_err-release.ensures.planned c.in_err-release.ensures.memory)

pub returns : goal.returns
returns c =
    let begun = c.in_ok-release.ensures.ok in
    let it : c.answer.new.self ≡ with_confirmed c.args.upto (with_release c.args.self.now) = c.answer.ensures ∙ ap (with_answer answers.Done) c.raise.ensures ∙ ap (with_confirmed c.args.upto) begun in
    answered 0 ⊥ _ _ c.args.self.now c.release.new.self c.answer.new.self c.in_ok-release.field-0 _ c.release.ensures.was (omega (arith, c.release.ensures.later, ap (λ (p : Played). p.plan.faults) c.answer.ensures, ap (λ (p : Played). p.plan.faults) c.raise.ensures)) c.in_ok-release.ensures.planned (λ never. never) it
