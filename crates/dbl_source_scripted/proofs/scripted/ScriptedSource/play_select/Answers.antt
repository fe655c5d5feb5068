use Rattle.std.proofs.Common.{◌∙◌, length, ap, arith}
use Rattle.std.specs.Prelude.{option_copied}
use Rattle.std.proofs.lemmas.Result.{err_from_is_err_and}
use Rattle.dbl_source_scripted.specs.Played.{Played, inside_of, next_selected}
use Rattle.dbl_source_scripted.specs.Exits.{AnswersPlayedRows}
use Rattle.dbl_source_scripted.proofs.AddedLemmas.{select_is}
use Rattle.dbl_source_scripted.proofs.MemoryLemmas.{added_both}
use Rattle.dbl_source_scripted.proofs.PlannedLemmas.{no_listed}
use Rattle.dbl_source_scripted.proofs.PlayedLemmas.{wanted, answered}
use Rattle.dbl_source_scripted.proofs.scripted.ScriptedSource.play_select.Goals as goal

pub returns-in_err-answer-clause-plays : goal.returns-in_err-answer-clause-plays
returns-in_err-answer-clause-plays c =
    let p = err_from_is_err_and c.from_residual-in_err-answer.result c.from_residual-in_err-answer.ensures.1 in
    rw (p.1, p.2) (wanted (length (inside_of c.args.self.now)) ⊥ _ _ c.args.self.now c.release_around.new.self c.release_around.new.self _ c.in_ok-release_around.field-0 c.in_err-answer.ensures.err c.release_around.ensures.was c.release_around.ensures.later
    c.in_ok-release_around.ensures.planned (added_both c.args.self.now c.release_around.new.self (λ listed. no_listed c.in_ok-release_around.field-0 (c.in_ok-release_around.ensures.planned.listed listed)) c.in_ok-release_around.ensures.ok))

pub returns-in_err-ask-clause-plays : goal.returns-in_err-ask-clause-plays
returns-in_err-ask-clause-plays c =
    let p = err_from_is_err_and c.from_residual-in_err-ask.result c.from_residual-in_err-ask.ensures.1 in
    rw (p.1, p.2) (wanted (length (inside_of c.args.self.now)) ⊥ _ _ c.args.self.now c.release_around.new.self c.ask.new.self _ c.in_ok-release_around.field-0 c.in_err-ask.ensures.memory c.release_around.ensures.was
    (omega (arith, c.release_around.ensures.later, ap (λ (p : Played). p.plan.faults) c.in_err-ask.ensures.err))
    c.in_ok-release_around.ensures.planned (added_both c.args.self.now c.ask.new.self (λ listed. no_listed c.in_ok-release_around.field-0 (c.in_ok-release_around.ensures.planned.listed listed)) (c.in_err-ask.ensures.err ∙ c.in_ok-release_around.ensures.ok)))

pub returns-clause-plays : goal.returns-clause-plays
returns-clause-plays c =
    let begun = c.in_ok-release_around.ensures.ok in
    let it : AnswersPlayedRows c.args.table.now (option_copied c.args.above) c.args.limit c.args.self.now c.in_ok-answer.answer c.answer.new.self = record {
      told = c.in_ok-answer.ensures.ok ∙ ap next_selected begun;
      is =
          select_is c.args.self.now c.release_around.new.self c.ask.new.self c.answer.new.self c.args.table.now (option_copied c.args.above) c.args.limit c.count-from.result c.number-number.result c.answer.ensures c.in_ok-ask.ensures.ok begun
          c.count-from.ensures c.number-number.ensures;
    } in
    answered (length (inside_of c.args.self.now)) ⊥ _ _ c.args.self.now c.release_around.new.self c.answer.new.self c.in_ok-release_around.field-0 c.in_ok-answer.answer c.release_around.ensures.was
    (omega (arith, c.release_around.ensures.later, ap (λ (p : Played). p.plan.faults) c.answer.ensures, ap (λ (p : Played). p.plan.faults) c.in_ok-ask.ensures.ok))
    c.in_ok-release_around.ensures.planned (λ never. never) it
