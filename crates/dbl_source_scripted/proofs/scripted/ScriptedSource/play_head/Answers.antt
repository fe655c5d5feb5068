use Rattle.std.proofs.Common.{◌∙◌, ap, arith, length}
use Rattle.std.proofs.lemmas.Result.{err_from_is_err_and}
use Rattle.dbl_base.specs.declared.lsn.Lsn.{Lsn}
use Rattle.dbl_source_log.specs.Numbers.{lsn_of}
use Rattle.dbl_source_scripted.specs.declared.asked.Last.TheVariants as answers
use Rattle.dbl_source_scripted.specs.Played.{Played, with_release, with_answer}
use Rattle.dbl_source_scripted.specs.Exits.{AnswersPlayedHead}
use Rattle.dbl_source_scripted.proofs.PlayedLemmas.{stopped, answered}
use Rattle.dbl_source_scripted.proofs.scripted.ScriptedSource.play_head.Goals as goal

pub returns-in_err-release : goal.returns-in_err-release
returns-in_err-release c =
    let p = err_from_is_err_and c.from_residual.result c.from_residual.ensures.1 in
    rw (p.1, p.2) (stopped 0 ⊥ _ _ c.args.self.now c.release.new.self c.in_err-release.field-0.0 c.release.ensures.was c.release.ensures.later c.in_err-release.ensures.planned c.in_err-release.ensures.memory)

pub returns : goal.returns
returns c =
    let begun = c.in_ok-release.ensures.ok in
    let told = c.last_lsn-lsn.ensures ∙ ap (λ (p : Played). lsn_of (length p.log)) begun in
    let it : AnswersPlayedHead c.args.self.now c.last_lsn-lsn.result c.answer.new.self = record {
      told = told;
      is = c.answer.ensures ∙ ap (λ (p : Played). with_answer (answers.Head c.last_lsn-lsn.result) p) begun ∙ ap (λ (lsn : Lsn). with_answer (answers.Head lsn) (with_release c.args.self.now)) told;
    } in
    answered 0 ⊥ _ (AnswersPlayedHead c.args.self.now) c.args.self.now c.release.new.self c.answer.new.self c.in_ok-release.field-0 c.last_lsn-lsn.result c.release.ensures.was (omega (arith, c.release.ensures.later, ap (λ (p : Played). p.plan.faults) c.answer.ensures)) c.in_ok-release.ensures.planned (λ never. never) it
