use Rattle.std.proofs.Common.{◌≡◌, List, ℕ, ◌∙◌, inl, inr, sym, ap, subst, rules}
use Rattle.std.specs.Prelude.{Err}
use Rattle.std.proofs.lemmas.Result.{err_from_is_err_and}
use Rattle.dbl_source.specs.SourceLog.declared.error.SourceError.{SourceError}
use Rattle.dbl_source.specs.SourceLog.declared.error.SourceError.TheVariants as source
use Rattle.dbl_window.specs.declared.error.WindowError.TheVariants as window
use Rattle.dbl_source.specs.SourceModel.Standings.{SourceState, HasState, left_of}
use Rattle.dbl_source.specs.SourceModel.Calls.{IsMarked}
use Rattle.dbl_source.specs.SourceModel.Leaves.{MayFollowMark}
use Rattle.dbl_window.specs.Plans.{low_text}
use Rattle.dbl_window.proofs.SelectLemmas.{none_taken, memory_was, still_led, still_dead}
use Rattle.dbl_window.proofs.states.Idle.low.Goals as goal

-- where memory runs out the source was asked for nothing
pub returns-in_err-marked-clause-rests : goal.returns-in_err-marked-clause-rests
returns-in_err-marked-clause-rests g c = record {
  left = λ s l stands may. inl (g.met.S.Source.only c.args.src.now s l stands may);
  some = λ s stands. (left_of s, g.met.S.Source.may c.args.src.now s stands);
  still = λ s t before after. ap (λ (u : SourceState). u.reading) (g.met.S.Source.one c.args.src.now t s after before);
  taken = none_taken (g.S.Source.told c.args.src.now);
}

pub returns-in_err-marked-clause-unmarked : goal.returns-in_err-marked-clause-unmarked
returns-in_err-marked-clause-unmarked g c is s l stands may = inl (g.met.S.Source.only c.args.src.now s l stands may)

pub returns-in_err-marked-clause-source : goal.returns-in_err-marked-clause-source
returns-in_err-marked-clause-source g c = record {
  live = search rules;
  honest = search rules;
  comes = g.met.S.Source.comes_self c.args.src.now;
  cause = search rules;
}

pub returns-in_err-mark-clause-rests : goal.returns-in_err-mark-clause-rests
returns-in_err-mark-clause-rests g c = record {
  left = λ s l stands may.
      let text = c.low_mark.ensures.text ∙ ap low_text c.in_ok-marked.ensures in
      inr (subst (λ (v : List ℕ). MayFollowMark v s l) text (c.mark.ensures.left s l stands may));
  some = search rules;
  still = λ s t before after. still_dead g.S.Source.stands g.S.Source.is_live c.mark.new.self s t (g.met.S.Source.lives c.mark.new.self) c.in_err-mark.ensures.dead after;
  taken = search rules;
}

pub returns-clause-marks : goal.returns-clause-marks
returns-clause-marks g c s stands =
    let text = c.low_mark.ensures.text ∙ ap low_text c.in_ok-marked.ensures in
    subst (λ (v : List ℕ). HasState g.S.Source.stands c.mark.new.self (IsMarked v s)) text (c.in_ok-mark.ensures.marked s stands)

pub returns-clause-rests : goal.returns-clause-rests
returns-clause-rests g c = record {
  left = λ s l stands may.
      let text = c.low_mark.ensures.text ∙ ap low_text c.in_ok-marked.ensures in
      inr (subst (λ (v : List ℕ). MayFollowMark v s l) text (c.mark.ensures.left s l stands may));
  some = c.mark.ensures.some;
  still = λ s t before after. still_led g.S.Source.stands c.mark.new.self _ s t (g.met.S.Source.one c.mark.new.self) (c.in_ok-mark.ensures.marked s before) (λ u marked. marked.reading) after;
  taken = c.mark.ensures.taken;
}

-- a source that ran out of memory wrote no watermark
pub returns-in_err-mark-clause-unmarked : goal.returns-in_err-mark-clause-unmarked
returns-in_err-mark-clause-unmarked g c is =
    let p = err_from_is_err_and c.from_residual-in_err-mark.result c.from_residual-in_err-mark.ensures.1 in
    let both : Err p.0 ≡ Err window.Memory = sym p.1 ∙ is in
    let fault : p.0 ≡ window.Memory = cc in
    let memory : c.in_err-mark.field-0.0 ≡ source.Memory = memory_was c.in_err-mark.field-0.0 (sym p.2 ∙ fault) in
    λ s l stands may. inr (c.mark.ensures.unmarked (c.in_err-mark.was ∙ ap (λ (e : SourceError). Err e) memory) s l stands may)

-- what its watermark tells

pub returns-clause-answered : goal.returns-clause-answered
returns-clause-answered g c = record {
  done = c.in_ok-mark.ensures.told;
  reading = search rules;
}

pub returns-clause-source : goal.returns-clause-source
returns-clause-source g c = record {
  live = search rules;
  honest = search rules;
  comes = c.mark.ensures.comes;
  cause = search rules;
}
