use Rattle.std.proofs.Common.{Option, subst, rules}
use Rattle.dbl_model_table.specs.declared.row.Key.{Key}
use Rattle.dbl_model_history.specs.Fit.{IsKeyOf}
use Rattle.dbl_source.specs.SourceModel.Standings.{HasState}
use Rattle.dbl_source.specs.SourceModel.Calls.{Moved}
use Rattle.dbl_source.specs.SourceModel.Selected.{Selects}
use Rattle.std.specs.Prelude.{IfSome}
use Rattle.dbl_window.specs.Plans.{Plan}
use Rattle.dbl_window.proofs.SelectLemmas.{still_led, still_dead}
use Rattle.dbl_window.proofs.states.Marked.answered_rows.Goals as goal

pub returns-clause-selected : goal.returns-clause-selected
returns-clause-selected g c s stands =
    let src = c.select.new.self in
    let frame = c.self.inside.frame in
    let answer = c.in_ok-select.field-0 in
    subst (λ (p : Plan). HasState g.S.Source.stands src (λ t. Moved s t × (g.S.Source.honest src → Selects p.info.name p.above p.limit s.history t.history answer))) c.self.view_is
    (subst (λ (above : Option Key). HasState g.S.Source.stands src (λ t. Moved s t × (g.S.Source.honest src → Selects frame.info.name above frame.limit s.history t.history answer))) c.bound.ensures
    (c.in_ok-select.ensures.selected s stands))

pub returns-clause-starts : goal.returns-clause-starts
returns-clause-starts g c = subst (λ (p : Plan). IfSome p.above (IsKeyOf p.info)) c.self.view_is c.self.invariant.is.start

pub returns-in_err-select-clause-rests : goal.returns-in_err-select-clause-rests
returns-in_err-select-clause-rests g c = record {
  left = search rules;
  some = search rules;
  still = λ s t before after. still_dead g.S.Source.stands g.S.Source.is_live c.select.new.self s t (g.met.S.Source.lives c.select.new.self) c.in_err-select.ensures.dead after;
  taken = search rules;
}

pub returns-clause-rests : goal.returns-clause-rests
returns-clause-rests g c = record {
  left = search rules;
  some = search rules;
  still = λ s t before after. still_led g.S.Source.stands c.select.new.self _ s t (g.met.S.Source.one c.select.new.self) (c.in_ok-select.ensures.selected s before) (λ u selected. selected.0.reading) after;
  taken = search rules;
}
