use Rattle.std.proofs.Common.{◌≡◌, ◌∙◌, Err, [], length, ap, sym, subst, arith}
use Rattle.std.proofs.lemmas.Result.{err_from_is_err_and}
use Rattle.dbl_source_log.specs.Numbers.{lsn_of}
use Rattle.std.specs.Prelude.{Ok}
use Rattle.dbl_demo_laws.specs.Answers.{RunsStepsAndWrites, AnswersHead}
use Rattle.dbl_demo_laws.specs.Calls.{next_end}
use Rattle.dbl_demo_laws.proofs.ExitLemmas.{answering, answers_from, fails_from}
use Rattle.dbl_demo_laws.specs.Demo.{Demo}
use Rattle.dbl_demo.proofs.source.DemoSource.answer_head.Goals as goal

pub run_to_tick-requires-clause-live : goal.run_to_tick-requires-clause-live
run_to_tick-requires-clause-live g c = c.self.invariant.usable (ap (λ (s : Demo _). s.live) c.self.view_is ∙ c.requires)

-- the source can't be used while the call runs
pub invariant_of-self : goal.invariant_of-self
invariant_of-self g c = record {
  has_run = c.self.invariant.has_run;
  usable = λ live. cc;
  few = c.self.invariant.few;
  there = c.self.invariant.there;
  near = c.self.invariant.near;
}

pub returns-in_err-run_to_tick : goal.returns-in_err-run_to_tick
returns-in_err-run_to_tick g c =
    let p = err_from_is_err_and c.from_residual.result c.from_residual.ensures.1 in
    fails_from g.D.Disk c.self.view_is c.run_to_tick.new.self c.run_to_tick.ensures.same c.run_to_tick.ensures.crash c.run_to_tick.ensures.comes c.run_to_tick.ensures.cause.later next_end (λ s. []) AnswersHead c.from_residual.result p.0 p.1 (omega arith) (λ is. c.run_to_tick.ensures.cause.cause (c.in_err-run_to_tick.was ∙ ap Err (sym p.2 ∙ is)))

pub returns : goal.returns
returns g c =
    let commits = ap (λ (d : Demo _). length d.commits) c.self-2.view_is in
    let count : c.len.result ≡ length c.run_to_tick.new.self.commits = omega (arith, c.len.ensures, c.self-2.inside.commits.ok.0, commits) in
    subst (λ (d : Demo _). RunsStepsAndWrites g.D.Disk (next_end c.args.self.now) [] (AnswersHead c.args.self.now) c.args.self.now (answering d) (Ok c.lsn_of.result)) (sym c.self-2.view_is)
    (answers_from g.D.Disk c.self.view_is c.run_to_tick.new.self c.run_to_tick.ensures.same c.run_to_tick.ensures.crash c.run_to_tick.ensures.comes c.run_to_tick.ensures.cause.later AnswersHead c.lsn_of.result c.in_ok-run_to_tick.ensures.ran c.in_ok-run_to_tick.ensures.end
    (record { reader = record { place = ap (λ (d : Demo _). d.place) c.run_to_tick.ensures.same; ended = ap (λ (d : Demo _). d.ended) c.run_to_tick.ensures.same }; is = c.lsn_of.ensures ∙ ap lsn_of count }) c.in_ok-run_to_tick.ensures.steady)
