use Rattle.std.proofs.Common.{◌≡◌, ◌∙◌, false, ap, arith}
use Rattle.dbl_source_model.specs.declared.started.Started.{Started}
use Rattle.dbl_source_scripted.specs.declared.asked.Last.TheVariants as answers
use Rattle.dbl_source_scripted.specs.Played.{Played, with_release, with_answer, started_at, place_of}
use Rattle.dbl_source_scripted.specs.Exits.{AnswersPlayedStart}
use Rattle.dbl_source_scripted.proofs.PlayedLemmas.{answered}
use Rattle.dbl_source_scripted.proofs.scripted.ScriptedSource.play_start.Goals as goal

pub returns : goal.returns
returns c =
    let begun = c.in_ok-release.ensures.ok in
    let after = c.args.after in
    let told = c.begin_reading-started.ensures.told ∙ ap (started_at after) begun in
    let from : c.answer.new.self ≡ with_answer (answers.Began c.begin_reading-started.result) (record (with_release c.args.self.now) { place = place_of after c.begin_reading-started.result; ended = false }) =
    c.answer.ensures ∙ ap (with_answer (answers.Began c.begin_reading-started.result)) (c.begin_reading-started.ensures.place ∙ ap (λ (p : Played). record p { place = place_of after c.begin_reading-started.result; ended = false }) begun) in
    let it : AnswersPlayedStart after c.args.self.now c.begin_reading-started.result c.answer.new.self = record {
      told = told;
      is = from ∙ ap (λ (s : Started). with_answer (answers.Began s) (record (with_release c.args.self.now) { place = place_of after s; ended = false })) told;
    } in
    answered 0 ⊥ _ (AnswersPlayedStart after c.args.self.now) c.args.self.now c.release.new.self c.answer.new.self c.in_ok-release.field-0 c.begin_reading-started.result c.release.ensures.was (omega (arith, c.release.ensures.later, ap (λ (p : Played). p.plan.faults) c.answer.ensures, ap (λ (p : Played). p.plan.faults) c.begin_reading-started.ensures.place)) c.in_ok-release.ensures.planned (λ never. never) it
