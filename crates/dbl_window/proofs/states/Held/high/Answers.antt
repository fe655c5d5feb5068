use Rattle.std.proofs.Common.{◌≡◌, ◌∙◌, List, ℕ, sym, ap, subst, rules}
use Rattle.std.specs.Prelude.{Err}
use Rattle.std.proofs.lemmas.Result.{err_from_is_err_and}
use Rattle.dbl_source.specs.SourceLog.declared.error.SourceError.{SourceError}
use Rattle.dbl_source.specs.SourceLog.declared.error.SourceError.TheVariants as source
use Rattle.dbl_window.specs.declared.error.WindowError.TheVariants as window
use Rattle.dbl_source.specs.SourceModel.Standings.{HasState}
use Rattle.dbl_source.specs.SourceModel.Calls.{IsMarked}
use Rattle.dbl_source.specs.SourceModel.Leaves.{MayFollowMark}
use Rattle.dbl_window.proofs.SelectLemmas.{memory_was, still_led, still_dead}
use Rattle.dbl_window.proofs.states.Held.high.Goals as goal

pub returns-in_err-mark-clause-rests : goal.returns-in_err-mark-clause-rests
returns-in_err-mark-clause-rests g c = record {
  left = λ s l stands may. subst (λ (v : List ℕ). MayFollowMark v s l) c.high_mark.ensures.text (c.mark.ensures.left s l stands may);
  some = search rules;
  still = λ s t before after. still_dead g.S.Source.stands g.S.Source.is_live c.mark.new.self s t (g.met.S.Source.lives c.mark.new.self) c.in_err-mark.ensures.dead after;
  taken = search rules;
}

pub returns-clause-marks : goal.returns-clause-marks
returns-clause-marks g c s stands = subst (λ (v : List ℕ). HasState g.S.Source.stands c.mark.new.self (IsMarked v s)) c.high_mark.ensures.text (c.in_ok-mark.ensures.marked s stands)

pub returns-clause-rests : goal.returns-clause-rests
returns-clause-rests g c = record {
  left = λ s l stands may. subst (λ (v : List ℕ). MayFollowMark v s l) c.high_mark.ensures.text (c.mark.ensures.left s l stands may);
  some = search rules;
  still = λ s t before after. still_led g.S.Source.stands c.mark.new.self _ s t (g.met.S.Source.one c.mark.new.self) (c.in_ok-mark.ensures.marked s before) (λ u marked. marked.reading) after;
  taken = search rules;
}

-- a source that ran out of memory wrote no watermark
pub returns-in_err-mark-clause-unmarked : goal.returns-in_err-mark-clause-unmarked
returns-in_err-mark-clause-unmarked g c is =
    let p = err_from_is_err_and c.from_residual.result c.from_residual.ensures.1 in
    let both : Err p.0 ≡ Err window.Memory = sym p.1 ∙ is in
    let fault : p.0 ≡ window.Memory = cc in
    let memory : c.in_err-mark.field-0.0 ≡ source.Memory = memory_was c.in_err-mark.field-0.0 (sym p.2 ∙ fault) in
    c.mark.ensures.unmarked (c.in_err-mark.was ∙ ap (λ (e : SourceError). Err e) memory)
