use Rattle.std.proofs.Common.{◌≡◌, ◌∙◌, ℕ, Err, List, drop, ap, sym, subst, arith, rules}
use Rattle.std.specs.Prelude.{Ok}
use Rattle.std.proofs.lemmas.Result.{err_from_is_err_and}
use Rattle.dbl_source_log.specs.declared.error.SourceError.{SourceError}
use Rattle.dbl_source_log.specs.declared.error.SourceError.TheVariants.{Failed, Memory}
use Rattle.dbl_demo_wal.specs.declared.entry.Entry.TheVariants.{Marks}
use Rattle.dbl_demo_wal.specs.Entries.{EncodesEntry}
use Rattle.dbl_demo_laws.specs.Answers.{RunsStepsAndWrites, AnswersNothing}
use Rattle.dbl_demo_laws.specs.Calls.{mark_entries, next_end}
use Rattle.dbl_demo_laws.proofs.ExitLemmas.{answering, fails_from}
use Rattle.dbl_demo_laws.specs.Demo.{Demo}
use Rattle.dbl_demo.proofs.OwnExits.{first_from, mark_answers, mark_fails, starved_from}
use Rattle.dbl_demo_laws.proofs.KnownLemmas.{known_on}
use Rattle.dbl_demo.proofs.source.DemoSource.answer_mark.Goals as goal

pub run_to_tick-requires-clause-live : goal.run_to_tick-requires-clause-live
run_to_tick-requires-clause-live g c =
    let usable = c.self.invariant.usable (ap (λ (s : Demo _). s.live) c.self.view_is ∙ c.requires.live) in
    search rules

-- the source can't be used while the call runs
pub invariant_of-self : goal.invariant_of-self
invariant_of-self g c = record {
  has_run = c.self.invariant.has_run;
  usable = λ live. cc;
  few = c.self.invariant.few;
  there = c.self.invariant.there;
  near = c.self.invariant.near;
}

-- the group failed
pub returns-in_err-run_to_tick-clause-added : goal.returns-in_err-run_to_tick-clause-added
returns-in_err-run_to_tick-clause-added g c =
    let p = err_from_is_err_and c.from_residual.result c.from_residual.ensures.1 in
    fails_from g.D.Disk c.self.view_is c.run_to_tick.new.self c.run_to_tick.ensures.same c.run_to_tick.ensures.crash c.run_to_tick.ensures.comes c.run_to_tick.ensures.cause.later next_end (λ s. mark_entries c.args.value.now (next_end s)) AnswersNothing c.from_residual.result p.0 p.1 (omega arith) (λ is. c.run_to_tick.ensures.cause.cause (c.in_err-run_to_tick.was ∙ ap Err (sym p.2 ∙ is)))

pub returns-in_err-run_to_tick-clause-starved : goal.returns-in_err-run_to_tick-clause-starved
returns-in_err-run_to_tick-clause-starved g c = λ is. first_from g.D.Disk c.self.view_is c.run_to_tick.new.self c.run_to_tick.ensures.crash

-- memory ran out for the watermark's entry
pub returns-in_err-entry-clause-added : goal.returns-in_err-entry-clause-added
returns-in_err-entry-clause-added g c =
    let p = err_from_is_err_and c.from_residual-in_err-entry.result c.from_residual-in_err-entry.ensures.1 in
    fails_from g.D.Disk c.self.view_is c.run_to_tick.new.self c.run_to_tick.ensures.same c.run_to_tick.ensures.crash c.run_to_tick.ensures.comes c.run_to_tick.ensures.cause.later next_end (λ s. mark_entries c.args.value.now (next_end s)) AnswersNothing c.from_residual-in_err-entry.result p.0 p.1 (omega arith) (λ is. absurd (let wrong : Memory ≡ Failed = sym p.2 ∙ is in cc))

pub returns-in_err-entry-clause-starved : goal.returns-in_err-entry-clause-starved
returns-in_err-entry-clause-starved g c = λ is. first_from g.D.Disk c.self.view_is c.run_to_tick.new.self c.run_to_tick.ensures.crash

pub log_mark-requires-clause-live : goal.log_mark-requires-clause-live
log_mark-requires-clause-live g c =
    let usable = c.self.invariant.usable (ap (λ (s : Demo _). s.live) c.self.view_is ∙ c.requires.live) in
    search rules

-- the watermark is that of the steps that are done
spelled : {D : Type 0} (mid : Demo D) (done steps : ℕ) (bytes value : List ℕ) → done ≡ mid.done → mid.done ≡ steps → EncodesEntry bytes (Marks done value) → EncodesEntry bytes (Marks steps value)
spelled mid done steps bytes value same end spells = subst (λ (n : ℕ). EncodesEntry bytes (Marks n value)) (same ∙ end) spells

-- it wasn't appended
pub returns-in_err-log_mark-clause-added : goal.returns-in_err-log_mark-clause-added
returns-in_err-log_mark-clause-added g c =
    let p = err_from_is_err_and c.from_residual-in_err-log_mark.result c.from_residual-in_err-log_mark.ensures.1 in
    let log = c.log_mark.ensures in
    let spells = spelled c.run_to_tick.new.self c.self-2.inside.done _ (drop 4 c.in_ok-entry.entry.items) c.args.value.now (ap (λ (d : Demo _). d.done) c.self-2.view_is) c.in_ok-run_to_tick.ensures.end c.in_ok-entry.ensures.entry in
    mark_fails g.D.Disk c.self.view_is c.run_to_tick.new.self c.run_to_tick.ensures.same c.in_ok-run_to_tick.ensures.ran c.in_ok-run_to_tick.ensures.end c.run_to_tick.ensures.comes c.run_to_tick.ensures.cause.later log.small c.log_mark.new.self log.comes log.cause.later (drop 4 c.in_ok-entry.entry.items) log.left c.args.value.now spells log.same
    c.from_residual-in_err-log_mark.result p.0 p.1 (λ is. log.cause.cause (c.in_err-log_mark.was ∙ ap Err (sym p.2 ∙ is)))

pub returns-in_err-log_mark-clause-starved : goal.returns-in_err-log_mark-clause-starved
returns-in_err-log_mark-clause-starved g c = λ is.
    let p = err_from_is_err_and c.from_residual-in_err-log_mark.result c.from_residual-in_err-log_mark.ensures.1 in
    let same : ◌≡◌ {A = SourceError} p.0 Memory = (let both = sym p.1 ∙ is in cc) in
    starved_from g.D.Disk c.self.view_is c.run_to_tick.new.self c.log_mark.new.self c.in_ok-run_to_tick.ensures.ran (λ forms lists. c.log_mark.ensures.kept forms lists (c.in_err-log_mark.was ∙ ap Err (sym p.2 ∙ same)))

-- it was
pub returns-clause-added : goal.returns-clause-added
returns-clause-added g c =
    let log = c.log_mark.ensures in
    let spells = spelled c.run_to_tick.new.self c.self-2.inside.done _ (drop 4 c.in_ok-entry.entry.items) c.args.value.now (ap (λ (d : Demo _). d.done) c.self-2.view_is) c.in_ok-run_to_tick.ensures.end c.in_ok-entry.ensures.entry in
    subst (λ (d : Demo _). RunsStepsAndWrites g.D.Disk (next_end c.args.self.now) (mark_entries c.args.value.now (next_end c.args.self.now)) (AnswersNothing c.args.self.now) c.args.self.now (answering d) (Ok tt)) (sym c.self-3.view_is)
    (mark_answers g.D.Disk c.self.view_is c.run_to_tick.new.self c.run_to_tick.ensures.same c.in_ok-run_to_tick.ensures.ran c.in_ok-run_to_tick.ensures.end c.run_to_tick.ensures.comes c.run_to_tick.ensures.cause.later log.small c.log_mark.new.self log.comes log.cause.later (drop 4 c.in_ok-entry.entry.items) log.left c.args.value.now spells log.same
    c.in_ok-log_mark.ensures.commits c.in_ok-log_mark.ensures.added (known_on g.D.Disk _ _ _ c.in_ok-run_to_tick.ensures.steady c.in_ok-log_mark.ensures.steady))
