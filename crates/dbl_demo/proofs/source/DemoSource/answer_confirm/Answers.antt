use Rattle.std.proofs.Common.{◌≡◌, ◌∙◌, Err, drop, ap, sym, subst, arith}
use Rattle.std.specs.Prelude.{Ok}
use Rattle.std.proofs.lemmas.Result.{err_from_is_err_and}
use Rattle.dbl_source_log.specs.declared.error.SourceError.{SourceError}
use Rattle.dbl_source_log.specs.declared.error.SourceError.TheVariants.{Failed, Memory}
use Rattle.dbl_demo_laws.specs.Answers.{RunsStepsAndWrites, AnswersNothing}
use Rattle.dbl_demo_laws.specs.Calls.{confirm_of, next_end}
use Rattle.dbl_demo_laws.proofs.ExitLemmas.{answering, fails_from}
use Rattle.dbl_demo_laws.specs.Demo.{Demo}
use Rattle.dbl_demo.proofs.OwnExits.{confirm_answers, confirm_fails, first_from, rises_not, rises_so, starved_from, unrisen_answers}
use Rattle.dbl_demo_laws.proofs.KnownLemmas.{known_on}
use Rattle.dbl_demo.proofs.source.DemoSource.answer_confirm.Goals as goal

pub run_to_tick-requires-clause-live : goal.run_to_tick-requires-clause-live
run_to_tick-requires-clause-live g c = c.self.invariant.usable (ap (λ (s : Demo _). s.live) c.self.view_is ∙ c.requires)

-- the source can't be used while the call runs
pub invariant_of-self : goal.invariant_of-self
invariant_of-self g c = record {
  has_run = c.self.invariant.has_run;
  usable = λ live. cc;
  few = c.self.invariant.few;
  there = c.self.invariant.there;
  near = c.self.invariant.near;
}

-- the group failed
pub returns-in_err-run_to_tick-clause-added : goal.returns-in_err-run_to_tick-clause-added
returns-in_err-run_to_tick-clause-added g c =
    let p = err_from_is_err_and c.from_residual.result c.from_residual.ensures.1 in
    fails_from g.D.Disk c.self.view_is c.run_to_tick.new.self c.run_to_tick.ensures.same c.run_to_tick.ensures.crash c.run_to_tick.ensures.comes c.run_to_tick.ensures.cause.later next_end (λ s. confirm_of s.confirmed c.args.upto) AnswersNothing c.from_residual.result p.0 p.1 (omega arith) (λ is. c.run_to_tick.ensures.cause.cause (c.in_err-run_to_tick.was ∙ ap Err (sym p.2 ∙ is)))

pub returns-in_err-run_to_tick-clause-starved : goal.returns-in_err-run_to_tick-clause-starved
returns-in_err-run_to_tick-clause-starved g c = λ is. first_from g.D.Disk c.self.view_is c.run_to_tick.new.self c.run_to_tick.ensures.crash

-- memory ran out for the position's entry
pub returns-in_err-entry-clause-added : goal.returns-in_err-entry-clause-added
returns-in_err-entry-clause-added g c =
    let p = err_from_is_err_and c.from_residual-in_err-entry.result c.from_residual-in_err-entry.ensures.1 in
    fails_from g.D.Disk c.self.view_is c.run_to_tick.new.self c.run_to_tick.ensures.same c.run_to_tick.ensures.crash c.run_to_tick.ensures.comes c.run_to_tick.ensures.cause.later next_end (λ s. confirm_of s.confirmed c.args.upto) AnswersNothing c.from_residual-in_err-entry.result p.0 p.1 (omega arith) (λ is. absurd (let wrong : Memory ≡ Failed = sym p.2 ∙ is in cc))

pub returns-in_err-entry-clause-starved : goal.returns-in_err-entry-clause-starved
returns-in_err-entry-clause-starved g c = λ is. first_from g.D.Disk c.self.view_is c.run_to_tick.new.self c.run_to_tick.ensures.crash

pub log_confirm-requires-clause-live : goal.log_confirm-requires-clause-live
log_confirm-requires-clause-live g c = c.in_ok-run_to_tick.ensures.live

-- it wasn't appended
pub returns-in_err-log_confirm-clause-added : goal.returns-in_err-log_confirm-clause-added
returns-in_err-log_confirm-clause-added g c =
    let p = err_from_is_err_and c.from_residual-in_err-log_confirm.result c.from_residual-in_err-log_confirm.ensures.1 in
    let log = c.log_confirm.ensures in
    let own = rises_so c.self.inside.confirmed c.args.upto (omega (arith, c.if-upto-self.false, ap (λ (d : Demo _). d.confirmed.0) (c.self-2.view_is ∙ c.run_to_tick.ensures.same))) in
    confirm_fails g.D.Disk c.self.view_is c.run_to_tick.new.self c.run_to_tick.ensures.same c.in_ok-run_to_tick.ensures.ran c.in_ok-run_to_tick.ensures.end c.run_to_tick.ensures.comes c.run_to_tick.ensures.cause.later log.small c.log_confirm.new.self log.comes log.cause.later (drop 4 c.in_ok-entry.entry.items) log.left
    c.args.upto c.in_ok-entry.ensures.entry (omega (arith, c.if-upto-self.false, ap (λ (d : Demo _). d.confirmed.0) c.self-2.view_is)) own log.same
    c.from_residual-in_err-log_confirm.result p.0 p.1 (λ is. log.cause.cause (c.in_err-log_confirm.was ∙ ap Err (sym p.2 ∙ is)))

pub returns-in_err-log_confirm-clause-starved : goal.returns-in_err-log_confirm-clause-starved
returns-in_err-log_confirm-clause-starved g c = λ is.
    let p = err_from_is_err_and c.from_residual-in_err-log_confirm.result c.from_residual-in_err-log_confirm.ensures.1 in
    let same : ◌≡◌ {A = SourceError} p.0 Memory = (let both = sym p.1 ∙ is in cc) in
    starved_from g.D.Disk c.self.view_is c.run_to_tick.new.self c.log_confirm.new.self c.in_ok-run_to_tick.ensures.ran (λ forms lists. c.log_confirm.ensures.kept forms lists (c.in_err-log_confirm.was ∙ ap Err (sym p.2 ∙ same)))

-- it was
pub returns-clause-added : goal.returns-clause-added
returns-clause-added g c =
    let log = c.log_confirm.ensures in
    let own = rises_so c.self.inside.confirmed c.args.upto (omega (arith, c.if-upto-self.false, ap (λ (d : Demo _). d.confirmed.0) (c.self-2.view_is ∙ c.run_to_tick.ensures.same))) in
    subst (λ (d : Demo _). RunsStepsAndWrites g.D.Disk (next_end c.args.self.now) (confirm_of c.args.self.now.confirmed c.args.upto) (AnswersNothing c.args.self.now) c.args.self.now (answering d) (Ok tt)) (sym c.self-3.view_is)
    (confirm_answers g.D.Disk c.self.view_is c.run_to_tick.new.self c.run_to_tick.ensures.same c.in_ok-run_to_tick.ensures.ran c.in_ok-run_to_tick.ensures.end c.run_to_tick.ensures.comes c.run_to_tick.ensures.cause.later log.small c.log_confirm.new.self log.comes log.cause.later (drop 4 c.in_ok-entry.entry.items) log.left
    c.args.upto c.in_ok-entry.ensures.entry (omega (arith, c.if-upto-self.false, ap (λ (d : Demo _). d.confirmed.0) c.self-2.view_is)) own log.same c.in_ok-log_confirm.ensures.confirmed c.in_ok-log_confirm.ensures.added
    (known_on g.D.Disk _ _ _ c.in_ok-run_to_tick.ensures.steady c.in_ok-log_confirm.ensures.steady))

-- a position that doesn't rise
pub returns-then-upto-self-clause-added : goal.returns-then-upto-self-clause-added
returns-then-upto-self-clause-added g c =
    let own = rises_not c.self.inside.confirmed c.args.upto (omega (arith, c.if-upto-self.true, ap (λ (d : Demo _). d.confirmed.0) (c.self-2.view_is ∙ c.run_to_tick.ensures.same))) in
    subst (λ (d : Demo _). RunsStepsAndWrites g.D.Disk (next_end c.args.self.now) (confirm_of c.args.self.now.confirmed c.args.upto) (AnswersNothing c.args.self.now) c.args.self.now (answering d) (Ok tt)) (sym c.self-2.view_is)
    (unrisen_answers g.D.Disk c.self.view_is c.run_to_tick.new.self c.run_to_tick.ensures.same c.in_ok-run_to_tick.ensures.ran c.in_ok-run_to_tick.ensures.end c.run_to_tick.ensures.crash c.run_to_tick.ensures.comes c.run_to_tick.ensures.cause.later c.args.upto own c.in_ok-run_to_tick.ensures.steady)
