use Rattle.std.proofs.Common.{◌∙◌, ◌++◌, ◌∷◌, [], Option, List, ap, refl, sym, subst}
use Rattle.std.specs.Prelude.{Ok}
use Rattle.std.proofs.lemmas.Result.{err_from_is_err_and}
use Rattle.dbl_pgmsg.specs.declared.messages.Message.{Message}
use Rattle.dbl_demo_workload.specs.declared.checking.Checked.{Checked}
use Rattle.dbl_demo_workload.specs.Checking.{RunsTo}
use Rattle.dbl_demo_workload.proofs.CheckLemmas.{mark_not_run, mark_of_rows, mark_of_run, none_when, some_when}
use Rattle.dbl_demo_workload.proofs.TakeLemmas.{mark_is, parts_more}
use Rattle.dbl_demo_workload.proofs.checking.Checked.take_mark.Goals as goal

pub returns-then-is_some-clause-takes : goal.returns-then-is_some-clause-takes
returns-then-is_some-clause-takes c =
    let some = some_when c.args.self.now.prepared.rows (sym c.is_some.ensures ∙ c.if-is_some.true) in
    mark_of_rows c.args.number c.args.steps c.args.self.now some.0 some.1

pub returns-in_err-run_to-clause-takes : goal.returns-in_err-run_to-clause-takes
returns-in_err-run_to-clause-takes c = λ value bytes w entries number_is spells is.
    let p = err_from_is_err_and c.from_residual.result c.from_residual.ensures.1 in
    let none = none_when c.args.self.now.prepared.rows (sym c.is_some.ensures ∙ c.if-is_some.false) in
    rw (p.1, p.2) (mark_not_run c.args.number c.args.steps c.args.self.now c.run_to.new.self c.in_err-run_to.field-0.0 none c.in_err-run_to.ensures.runs value bytes w entries number_is spells is)

pub returns-then-is_some-2-clause-takes : goal.returns-then-is_some-2-clause-takes
returns-then-is_some-2-clause-takes c =
    let none = none_when c.args.self.now.prepared.rows (sym c.is_some.ensures ∙ c.if-is_some.false) in
    let some = some_when c.in_ok-run_to.field-0 (sym c.is_some-2.ensures ∙ c.if-is_some-2.true) in
    mark_of_run c.args.number c.args.steps c.args.self.now c.run_to.new.self some.0 none (subst (λ (o : Option (List Message)). RunsTo c.args.steps c.args.self.now c.run_to.new.self (Ok o)) some.1 c.in_ok-run_to.ensures.runs)

pub returns-in_err-push-clause-takes : goal.returns-in_err-push-clause-takes
returns-in_err-push-clause-takes c = λ value bytes w entries number_is spells is.
    let p = err_from_is_err_and c.from_residual-in_err-push.result c.from_residual-in_err-push.ensures.1 in
    rw (p.1, p.2) tt

pub returns-clause-takes : goal.returns-clause-takes
returns-clause-takes c =
    let none = none_when c.args.self.now.prepared.rows (sym c.is_some.ensures ∙ c.if-is_some.false) in
    let silent = none_when c.in_ok-run_to.field-0 (sym c.is_some-2.ensures ∙ c.if-is_some-2.false) in
    mark_is c.args.number c.args.steps c.args.self.now c.run_to.new.self (record c.run_to.new.self { commits = c.push.new.self }) none c.run_to.ensures.same
    (subst (λ (o : Option (List Message)). RunsTo c.args.steps c.args.self.now c.run_to.new.self (Ok o)) silent c.in_ok-run_to.ensures.runs) refl c.in_ok-push.ensures.items

pub returns-clause-parts : goal.returns-clause-parts
returns-clause-parts c =
    parts_more c.args.number c.args.self.now (record c.run_to.new.self { commits = c.push.new.self }) c.requires (record { has_run = c.run_to.ensures.goes.has_run; rows = c.run_to.ensures.goes.rows; named = c.run_to.ensures.goes.named })
    (c.in_ok-push.ensures.items ∙ ap (λ (x : Checked). x.commits.items ++ c.args.number ∷ []) c.run_to.ensures.same)
