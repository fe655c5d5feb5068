use Rattle.std.proofs.Common.{◌≡◌, ◌∙◌, true, false, Option, Err, None, Some, [], ap, sym, subst, refl, arith}
use Rattle.std.proofs.lemmas.Result.{err_from_is_err_and}
use Rattle.std.specs.Prelude.{Ok}
use Rattle.dbl_source_model.specs.declared.started.Started.TheVariants.{Gone, Ready}
use Rattle.dbl_demo_laws.specs.Answers.{RunsStepsAndWrites, AnswersStart}
use Rattle.dbl_demo_laws.specs.Calls.{next_end, start_answer}
use Rattle.dbl_demo_laws.proofs.ExitLemmas.{fails_from}
use Rattle.dbl_demo_laws.proofs.ReaderLemmas.{begun_reader, gone_reader, nothing_in, starts_from}
use Rattle.dbl_demo_laws.specs.Demo.{Demo}
use Rattle.dbl_source_log.specs.declared.reader_position.ReaderPosition.{ReaderPosition}
use Rattle.dbl_demo.proofs.OwnExits.{gone_so, ready_so}
use Rattle.dbl_demo.proofs.source.DemoSource.answer_start.Goals as goal

-- a source that was told where to read, and answers
abbrev reading : {D : Type 0} → Demo D → Option ReaderPosition → Demo D
reading demo place = record demo { place = place; live = true }

pub run_to_tick-requires-clause-live : goal.run_to_tick-requires-clause-live
run_to_tick-requires-clause-live g c = c.self.invariant.usable (ap (λ (s : Demo _). s.live) c.self.view_is ∙ c.requires)

-- the source can't be used while the call runs
pub invariant_of-self : goal.invariant_of-self
invariant_of-self g c = record {
  has_run = c.self.invariant.has_run;
  usable = λ live. cc;
  few = c.self.invariant.few;
  there = c.self.invariant.there;
  near = c.self.invariant.near;
}

pub returns-in_err-run_to_tick : goal.returns-in_err-run_to_tick
returns-in_err-run_to_tick g c =
    let p = err_from_is_err_and c.from_residual.result c.from_residual.ensures.1 in
    fails_from g.D.Disk c.self.view_is c.run_to_tick.new.self c.run_to_tick.ensures.same c.run_to_tick.ensures.crash c.run_to_tick.ensures.comes c.run_to_tick.ensures.cause.later next_end (λ s. []) (AnswersStart c.args.after) c.from_residual.result p.0 p.1 (omega arith) (λ is. c.run_to_tick.ensures.cause.cause (c.in_err-run_to_tick.was ∙ ap Err (sym p.2 ∙ is)))

-- the log is gone below the confirmed position, which no step moves
pub returns-then-after-self : goal.returns-then-after-self
returns-then-after-self g c =
    let at = c.self-2.view_is ∙ c.forget_reader.ensures.same in
    let confirmed : c.self-2.inside.confirmed ≡ c.self.inside.confirmed = ap (λ (d : Demo _). d.confirmed) at ∙ ap (λ (d : Demo _). d.confirmed) c.run_to_tick.ensures.same in
    let gone = Gone c.self-2.inside.confirmed in
    let says : gone ≡ start_answer c.args.after c.self.inside.confirmed = sym (gone_so c.args.after c.self-2.inside.confirmed c.if-after-self.true) ∙ ap (start_answer c.args.after) confirmed in
    subst (λ (d : Demo _). RunsStepsAndWrites g.D.Disk (next_end c.args.self.now) [] (AnswersStart c.args.after c.args.self.now) c.args.self.now (reading d None) (Ok gone)) (sym at)
    (starts_from g.D.Disk c.self.view_is c.run_to_tick.new.self c.run_to_tick.ensures.crash c.run_to_tick.ensures.comes c.run_to_tick.ensures.cause.later c.in_ok-run_to_tick.ensures.ran c.in_ok-run_to_tick.ensures.end c.args.after None c.forget_reader.new.self.described gone
    (λ tables log. gone_reader tables log c.forget_reader.new.self.described None) says refl c.in_ok-run_to_tick.ensures.steady)

pub returns : goal.returns
returns g c =
    let at = c.self-2.view_is ∙ c.forget_reader.ensures.same in
    let confirmed : c.self-2.inside.confirmed ≡ c.self.inside.confirmed = ap (λ (d : Demo _). d.confirmed) at ∙ ap (λ (d : Demo _). d.confirmed) c.run_to_tick.ensures.same in
    let says : Ready ≡ start_answer c.args.after c.self.inside.confirmed = sym (ready_so c.args.after c.self-2.inside.confirmed c.if-after-self.false) ∙ ap (start_answer c.args.after) confirmed in
    let first : ReaderPosition = record { after = c.args.after; commits = 0; begun = false; change = 0; table = 0 } in
    subst (λ (d : Demo _). RunsStepsAndWrites g.D.Disk (next_end c.args.self.now) [] (AnswersStart c.args.after c.args.self.now) c.args.self.now (reading d (Some first)) (Ok Ready)) (sym at)
    (starts_from g.D.Disk c.self.view_is c.run_to_tick.new.self c.run_to_tick.ensures.crash c.run_to_tick.ensures.comes c.run_to_tick.ensures.cause.later c.in_ok-run_to_tick.ensures.ran c.in_ok-run_to_tick.ensures.end c.args.after
    (Some first) c.forget_reader.new.self.described Ready
    (λ tables log. begun_reader tables log c.args.after c.forget_reader.new.self.described (nothing_in c.forget_reader.new.self.described c.forget_reader.ensures.undescribed)) says refl c.in_ok-run_to_tick.ensures.steady)
