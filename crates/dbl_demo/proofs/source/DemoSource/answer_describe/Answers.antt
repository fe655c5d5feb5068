use Rattle.std.proofs.Common.{◌≡◌, ◌∙◌, Err, [], ap, sym, subst, arith}
use Rattle.std.proofs.lemmas.Result.{err_from_is_err_and}
use Rattle.std.specs.Prelude.{Ok}
use Rattle.dbl_source_model.specs.ModelHistory.History.{entry_of}
use Rattle.dbl_source_log.specs.Histories.{history_of}
use Rattle.dbl_source_log.specs.declared.error.SourceError.TheVariants.{Failed, Memory}
use Rattle.dbl_demo_laws.specs.Answers.{RunsStepsAndWrites, AnswersEntry}
use Rattle.dbl_demo_laws.specs.Calls.{next_end}
use Rattle.dbl_demo_laws.proofs.ExitLemmas.{answering, answers_from, fails_from}
use Rattle.dbl_demo_laws.specs.Demo.{Demo}
use Rattle.dbl_demo.proofs.source.DemoSource.answer_describe.Goals as goal

pub run_to_tick-requires-clause-live : goal.run_to_tick-requires-clause-live
run_to_tick-requires-clause-live g c = c.self.invariant.usable (ap (λ (s : Demo _). s.live) c.self.view_is ∙ c.requires)

-- the source can't be used while the call runs
pub invariant_of-self : goal.invariant_of-self
invariant_of-self g c = record {
  has_run = c.self.invariant.has_run;
  usable = λ live. cc;
  few = c.self.invariant.few;
  there = c.self.invariant.there;
  near = c.self.invariant.near;
}

pub returns-in_err-run_to_tick : goal.returns-in_err-run_to_tick
returns-in_err-run_to_tick g c =
    let p = err_from_is_err_and c.from_residual.result c.from_residual.ensures.1 in
    fails_from g.D.Disk c.self.view_is c.run_to_tick.new.self c.run_to_tick.ensures.same c.run_to_tick.ensures.crash c.run_to_tick.ensures.comes c.run_to_tick.ensures.cause.later next_end (λ s. []) (AnswersEntry c.args.name.now) c.from_residual.result p.0 p.1 (omega arith) (λ is. c.run_to_tick.ensures.cause.cause (c.in_err-run_to_tick.was ∙ ap Err (sym p.2 ∙ is)))

pub returns-in_err-entry : goal.returns-in_err-entry
returns-in_err-entry g c =
    let p = err_from_is_err_and c.from_residual-in_err-entry.result c.from_residual-in_err-entry.ensures.1 in
    fails_from g.D.Disk c.self.view_is c.run_to_tick.new.self c.run_to_tick.ensures.same c.run_to_tick.ensures.crash c.run_to_tick.ensures.comes c.run_to_tick.ensures.cause.later next_end (λ s. []) (AnswersEntry c.args.name.now) c.from_residual-in_err-entry.result p.0 p.1 (omega arith) (λ is. absurd (let wrong : Memory ≡ Failed = sym c.in_err-entry.ensures.memory ∙ sym p.2 ∙ is in cc))

pub returns : goal.returns
returns g c =
    let entry = c.in_ok-entry.ensures.entry ∙ ap (λ (d : Demo _). entry_of (history_of d.tables []) c.args.name.now) c.run_to_tick.ensures.same in
    subst (λ (d : Demo _). RunsStepsAndWrites g.D.Disk (next_end c.args.self.now) [] (AnswersEntry c.args.name.now c.args.self.now) c.args.self.now (answering d) (Ok c.in_ok-entry.entry)) (sym c.self-2.view_is)
    (answers_from g.D.Disk c.self.view_is c.run_to_tick.new.self c.run_to_tick.ensures.same c.run_to_tick.ensures.crash c.run_to_tick.ensures.comes c.run_to_tick.ensures.cause.later (AnswersEntry c.args.name.now) c.in_ok-entry.entry c.in_ok-run_to_tick.ensures.ran c.in_ok-run_to_tick.ensures.end
    (record { reader = record { place = ap (λ (d : Demo _). d.place) c.run_to_tick.ensures.same; ended = ap (λ (d : Demo _). d.ended) c.run_to_tick.ensures.same }; is = entry }) c.in_ok-run_to_tick.ensures.steady)
