use Rattle.std.proofs.Common.{◌≡◌, ◌∙◌, ap, arith}
use Rattle.std.proofs.lemmas.Result.{err_from_is_err_and}
use Rattle.dbl_source_scripted.specs.declared.asked.Last.TheVariants as answers
use Rattle.dbl_source_scripted.specs.Played.{Played, commits_before, past_move, with_release, with_answer, with_mark}
use Rattle.dbl_source_scripted.proofs.AddedLemmas.{room_left}
use Rattle.dbl_source_scripted.proofs.MemoryLemmas.{added_all}
use Rattle.dbl_source_scripted.proofs.PlannedLemmas.{no_listed}
use Rattle.dbl_source_scripted.proofs.PlayedLemmas.{stopped, answered, wanted}
use Rattle.dbl_source_scripted.proofs.scripted.ScriptedSource.play_mark.Goals as goal

pub returns-in_err-release : goal.returns-in_err-release
returns-in_err-release c =
    let p = err_from_is_err_and c.from_residual.result c.from_residual.ensures.1 in
    rw (p.1, p.2) (stopped 1 ⊥ _ _ c.args.self.now c.release.new.self c.in_err-release.field-0.0 c.release.ensures.was c.release.ensures.later c.in_err-release.ensures.planned c.in_err-release.ensures.memory)

pub returns-in_err-write_mark : goal.returns-in_err-write_mark
returns-in_err-write_mark c =
    let p = err_from_is_err_and c.from_residual-in_err-write_mark.result c.from_residual-in_err-write_mark.ensures.1 in
    rw (p.1, p.2) (wanted 1 ⊥ _ _ c.args.self.now c.release.new.self c.write_mark.new.self _ c.in_ok-release.field-0 c.in_err-write_mark.ensures.memory c.release.ensures.was
    (omega (arith, c.release.ensures.later, ap (λ (p : Played). p.plan.faults) c.in_err-write_mark.ensures.err)) c.in_ok-release.ensures.planned
    (added_all c.args.self.now c.write_mark.new.self (λ listed. no_listed c.in_ok-release.field-0 (c.in_ok-release.ensures.planned.listed listed)) (c.in_err-write_mark.ensures.err ∙ c.in_ok-release.ensures.ok)))

pub write_mark-requires : goal.write_mark-requires
write_mark-requires c =
    room_left (past_move c.args.self.now) c.release.new.self (commits_before c.args.self.now) 1 c.in_ok-release.ensures.ok c.in_ok-release.ensures.room

pub returns : goal.returns
returns c =
    let begun = c.in_ok-release.ensures.ok in
    let it : c.answer.new.self ≡ with_mark c.args.value.now (with_release c.args.self.now) = c.answer.ensures ∙ ap (with_answer answers.Done) c.in_ok-write_mark.ensures.ok ∙ ap (with_mark c.args.value.now) begun in
    answered 1 ⊥ _ _ c.args.self.now c.release.new.self c.answer.new.self c.in_ok-release.field-0 _ c.release.ensures.was (omega (arith, c.release.ensures.later, ap (λ (p : Played). p.plan.faults) c.answer.ensures, ap (λ (p : Played). p.plan.faults) c.in_ok-write_mark.ensures.ok)) c.in_ok-release.ensures.planned (λ never. never) it
