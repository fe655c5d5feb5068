use Rattle.std.proofs.Common.{◌∙◌, sym}
use Rattle.dbl_demo_workload.proofs.CheckLemmas.{confirm_falls, confirm_of_rows, none_when, some_when}
use Rattle.dbl_demo_workload.proofs.TakeLemmas.{confirm_is}
use Rattle.dbl_demo_workload.proofs.checking.Checked.take_confirm.Goals as goal

pub returns-then-is_some-clause-takes : goal.returns-then-is_some-clause-takes
returns-then-is_some-clause-takes c =
    let some = some_when c.args.self.now.prepared.rows (sym c.is_some.ensures ∙ c.if-is_some.true) in
    confirm_of_rows c.args.upto c.args.self.now some.0 some.1

pub returns-then-upto-self-clause-takes : goal.returns-then-upto-self-clause-takes
returns-then-upto-self-clause-takes c = confirm_falls c.args.upto c.args.self.now c.if-upto-self.true

pub returns-clause-takes : goal.returns-clause-takes
returns-clause-takes c = confirm_is c.args.upto c.args.self.now (none_when c.args.self.now.prepared.rows (sym c.is_some.ensures ∙ c.if-is_some.false)) c.if-upto-self.false
