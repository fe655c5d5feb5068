use Rattle.std.proofs.Common.{◌≡◌, ◌∙◌, ℕ, Err, [], ap, sym, subst}
use Rattle.std.proofs.lemmas.Result.{err_from_is_err_and}
use Rattle.std.specs.Prelude.{option_copied, Ok}
use Rattle.dbl_disk.specs.Model.{DiskModel}
use Rattle.dbl_demo_wal.specs.Shown.{AreRowsShown}
use Rattle.dbl_demo_wal.specs.Wals.{Wal}
use Rattle.dbl_demo_wal.specs.Workloads.{acts_at}
use Rattle.dbl_demo_wal.proofs.GroupLemmas.{end_later}
use Rattle.dbl_source_log.specs.declared.error.SourceError.TheVariants.{Failed, Memory}
use Rattle.dbl_demo_laws.specs.Answers.{RunsStepsAndWrites, IsReaderKept}
use Rattle.dbl_demo_laws.specs.Calls.{next_end, second_end}
use Rattle.dbl_demo_laws.proofs.ExitLemmas.{answering, fails_from}
use Rattle.dbl_demo_laws.specs.Demo.{Demo, IsDemo}
use Rattle.dbl_demo_laws.proofs.TwiceLemmas.{answers_again, fails_again, kept_both, rows_shown}
use Rattle.dbl_demo_laws.proofs.KnownLemmas.{known_on}
use Rattle.dbl_demo.proofs.source.DemoSource.answer_select.Goals as goal

pub run_to_tick-requires-clause-live : goal.run_to_tick-requires-clause-live
run_to_tick-requires-clause-live g c = c.self.invariant.usable (ap (λ (s : Demo _). s.live) c.self.view_is ∙ c.requires)

-- the source can't be used while the call runs
pub invariant_of-self : goal.invariant_of-self
invariant_of-self g c = record {
  has_run = c.self.invariant.has_run;
  usable = λ live. cc;
  few = c.self.invariant.few;
  there = c.self.invariant.there;
  near = c.self.invariant.near;
}

pub returns-in_err-run_to_tick-clause-added : goal.returns-in_err-run_to_tick-clause-added
returns-in_err-run_to_tick-clause-added g c =
    let p = err_from_is_err_and c.from_residual.result c.from_residual.ensures.1 in
    fails_from g.D.Disk c.self.view_is c.run_to_tick.new.self c.run_to_tick.ensures.same c.run_to_tick.ensures.crash c.run_to_tick.ensures.comes c.run_to_tick.ensures.cause.later second_end (λ s. []) (λ s new rows. IsReaderKept s new) c.from_residual.result p.0 p.1 (end_later _ _) (λ is. c.run_to_tick.ensures.cause.cause (c.in_err-run_to_tick.was ∙ ap Err (sym p.2 ∙ is)))

pub returns-in_err-answer-clause-added : goal.returns-in_err-answer-clause-added
returns-in_err-answer-clause-added g c =
    let p = err_from_is_err_and c.from_residual-in_err-answer.result c.from_residual-in_err-answer.ensures.1 in
    fails_from g.D.Disk c.self.view_is c.run_to_tick.new.self c.run_to_tick.ensures.same c.run_to_tick.ensures.crash c.run_to_tick.ensures.comes c.run_to_tick.ensures.cause.later second_end (λ s. []) (λ s new rows. IsReaderKept s new) c.from_residual-in_err-answer.result p.0 p.1 (end_later _ _) (λ is. absurd (let wrong : Memory ≡ Failed = sym c.in_err-answer.ensures.memory ∙ sym p.2 ∙ is in cc))

pub run_to_tick-requires-2-clause-live : goal.run_to_tick-requires-2-clause-live
run_to_tick-requires-2-clause-live g c = c.in_ok-run_to_tick.ensures.live

pub returns-in_err-run_to_tick-2-clause-added : goal.returns-in_err-run_to_tick-2-clause-added
returns-in_err-run_to_tick-2-clause-added g c =
    let p = err_from_is_err_and c.from_residual-in_err-run_to_tick-2.result c.from_residual-in_err-run_to_tick-2.ensures.1 in
    fails_again g.D.Disk c.self.view_is c.run_to_tick.new.self c.run_to_tick.ensures.same c.in_ok-run_to_tick.ensures.ran c.in_ok-run_to_tick.ensures.end c.run_to_tick-2.new.self c.run_to_tick-2.ensures.same c.run_to_tick-2.ensures.crash c.run_to_tick.ensures.comes c.run_to_tick.ensures.cause.later c.run_to_tick-2.ensures.comes c.run_to_tick-2.ensures.cause.later (λ s new rows. IsReaderKept s new) c.from_residual-in_err-run_to_tick-2.result p.0 p.1 (λ is. c.run_to_tick-2.ensures.cause.cause (c.in_err-run_to_tick-2.was ∙ ap Err (sym p.2 ∙ is)))

-- for every answer, once it is live again
live_again : {D T : Type 0} (model : DiskModel D) (upto : ℕ) (Answers : Demo D → T → Type 0) (old : Demo D) {inside new : Demo D} → inside ≡ new → (x : T) → RunsStepsAndWrites model upto [] Answers old (answering new) (Ok x)
    → RunsStepsAndWrites model upto [] Answers old (answering inside) (Ok x)
live_again model upto Answers old is x adds = subst (λ (s : Demo _). RunsStepsAndWrites model upto [] Answers old (answering s) (Ok x)) (sym is) adds

pub returns-clause-added : goal.returns-clause-added
returns-clause-added g c =
    live_again g.D.Disk (second_end c.args.self.now) (λ new rows. IsReaderKept c.args.self.now new) c.args.self.now c.self-2.view_is _
    (answers_again g.D.Disk c.self.view_is c.run_to_tick.new.self c.run_to_tick.ensures.same c.in_ok-run_to_tick.ensures.ran c.in_ok-run_to_tick.ensures.end c.run_to_tick-2.new.self c.run_to_tick-2.ensures.same c.run_to_tick-2.ensures.crash c.run_to_tick.ensures.comes c.run_to_tick.ensures.cause.later c.run_to_tick-2.ensures.comes c.run_to_tick-2.ensures.cause.later (λ s new rows. IsReaderKept s new) _ c.in_ok-run_to_tick-2.ensures.ran c.in_ok-run_to_tick-2.ensures.end
    (kept_both g.D.Disk c.self.view_is c.run_to_tick.new.self c.run_to_tick.ensures.same c.in_ok-run_to_tick.ensures.ran c.in_ok-run_to_tick.ensures.end c.run_to_tick-2.new.self c.run_to_tick-2.ensures.same c.run_to_tick-2.ensures.crash c.run_to_tick.ensures.comes c.run_to_tick.ensures.cause.later c.run_to_tick-2.ensures.comes c.run_to_tick-2.ensures.cause.later)
    (known_on g.D.Disk _ _ _ c.in_ok-run_to_tick.ensures.steady c.in_ok-run_to_tick-2.ensures.steady))

-- the rows are those of the store between the groups
pub returns-clause-shown : goal.returns-clause-shown
returns-clause-shown g c =
    subst (λ (s : Demo _). (wal : Wal) → IsDemo g.D.Disk wal s → AreRowsShown wal.workload.tables (acts_at wal.workload (next_end s)) c.args.table.now (option_copied c.args.above) c.args.limit c.in_ok-answer.answer.rows) c.self.view_is
    (rows_shown g.D.Disk c.self.view_is c.run_to_tick.new.self c.run_to_tick.ensures.same c.in_ok-run_to_tick.ensures.ran c.in_ok-run_to_tick.ensures.end c.args.table.now (option_copied c.args.above) c.args.limit c.in_ok-answer.answer.rows c.in_ok-answer.ensures.rows)
