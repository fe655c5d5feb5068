use Rattle.std.proofs.Common.{◌≡◌, Option, List, ap, sym, subst, arith}
use Rattle.std.specs.Prelude.{IfSome}
use Rattle.dbl_pgmsg.specs.declared.messages.Message.{Message}
use Rattle.dbl_demo_workload.specs.declared.checking.Checked.{Checked}
use Rattle.dbl_demo_workload.specs.Steps.{FitAnEntry}
use Rattle.dbl_demo_workload.proofs.CheckLemmas.{next_by_run, next_no_rows, none_when, rows_taken, some_when}
use Rattle.dbl_demo_workload.proofs.checking.Checked.next_commit.Goals as goal

pub returns-then-is_none-clause-next : goal.returns-then-is_none-clause-next
returns-then-is_none-clause-next c = next_by_run c.args.steps c.args.self.now c.run_to.new.self c.run_to.result (none_when c.args.self.now.prepared.rows c.if-is_none.ensures) c.run_to.ensures.same c.run_to.ensures.runs

pub returns-then-is_none-clause-same : goal.returns-then-is_none-clause-same
returns-then-is_none-clause-same c = ap (λ (x : Checked). x.commits.items) c.run_to.ensures.same

pub returns-then-steps-gt0-clause-next : goal.returns-then-steps-gt0-clause-next
returns-then-steps-gt0-clause-next c =
    let some = some_when c.args.self.now.prepared.rows c.if-is_none.ensures in
    next_no_rows c.args.steps c.args.self.now some.0 some.1 c.if-steps-gt0.true

pub returns-clause-next : goal.returns-clause-next
returns-clause-next c =
    let some = some_when c.args.self.now.prepared.rows c.if-is_none.ensures in
    let none : c.args.steps ≡ 0 = omega arith in
    rows_taken c.args.steps c.args.self.now some.0 c.take.result c.take.new.self some.1 none c.take.ensures.value c.take.ensures.after

pub returns-clause-fits : goal.returns-clause-fits
returns-clause-fits c = subst (λ (o : Option (List Message)). IfSome o FitAnEntry) (sym c.take.ensures.value) c.requires.rows

pub returns-clause-goes : goal.returns-clause-goes
returns-clause-goes c = record {
  has_run = c.requires.has_run;
  rows = subst (λ (o : Option (List Message)). IfSome o FitAnEntry) (sym c.take.ensures.after) tt;
  named = c.requires.named;
}
