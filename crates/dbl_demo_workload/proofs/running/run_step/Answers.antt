use Rattle.std.proofs.Common.{◌≡◌, ◌∙◌, ap, sym}
use Rattle.dbl_script.specs.declared.script.Step.TheVariants as says
use Rattle.dbl_tables_rows.specs.Steps.{Step as asked}
use Rattle.dbl_demo_wal.specs.Workloads.{session_step_of}
use Rattle.dbl_demo_workload.proofs.RunLemmas.{delete_silent, insert_silent, ran_passed, update_silent}
use Rattle.dbl_demo_workload.proofs.running.run_step.Goals as goal

pub returns-in-Insert-clause-ran : goal.returns-in-Insert-clause-ran
returns-in-Insert-clause-ran c = λ tables past stands.
    let i = c.in-Insert in
    let cells = c.items.result.now.items in
    let is : c.args.step.now ≡ says.Insert i.session i.table cells = i.is ∙ ap (says.Insert i.session i.table) (sym c.items.ensures) in
    ran_passed tables past (asked.Insert i.session i.table cells) c.insert.new.self c.args.step.now (ap session_step_of is) c.insert.result c.pass_answer-in-Insert.result (insert_silent tables past i.session i.table cells)
    (c.insert.ensures tables past stands) c.pass_answer-in-Insert.ensures

pub returns-in-Update-clause-ran : goal.returns-in-Update-clause-ran
returns-in-Update-clause-ran c = λ tables past stands.
    let u = c.in-Update in
    let key = c.items-in-Update.result.now.items in
    let set = c.items-in-Update-2.result.now.items in
    let is : c.args.step.now ≡ says.Update u.session u.table key set =
    u.is ∙ ap (λ k. says.Update u.session u.table k u.set) (sym c.items-in-Update.ensures) ∙ ap (says.Update u.session u.table key) (sym c.items-in-Update-2.ensures) in
    ran_passed tables past (asked.Update u.session u.table key set) c.update.new.self c.args.step.now (ap session_step_of is) c.update.result c.pass_answer-in-Update.result (update_silent tables past u.session u.table key set)
    (c.update.ensures tables past stands) c.pass_answer-in-Update.ensures

pub returns-in-Delete-clause-ran : goal.returns-in-Delete-clause-ran
returns-in-Delete-clause-ran c = λ tables past stands.
    let d = c.in-Delete in
    let key = c.items-in-Delete.result.now.items in
    let is : c.args.step.now ≡ says.Delete d.session d.table key = d.is ∙ ap (says.Delete d.session d.table) (sym c.items-in-Delete.ensures) in
    ran_passed tables past (asked.Delete d.session d.table key) c.delete.new.self c.args.step.now (ap session_step_of is) c.delete.result c.pass_answer-in-Delete.result (delete_silent tables past d.session d.table key)
    (c.delete.ensures tables past stands) c.pass_answer-in-Delete.ensures
