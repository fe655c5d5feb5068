use Rattle.dbl_demo_workload.proofs.WorkloadLemmas.{all_fit, all_ran, all_since, get_there, runnable_at}
use Rattle.dbl_demo_workload.proofs.running.run_next.Goals as goal

pub run_step-requires : goal.run_step-requires
run_step-requires c =
    let step = c.index-steps-done in
    runnable_at c.args.steps.now c.args.done c.args.store.now step.result c.requires.has_run (get_there c.args.steps.now c.args.done step.result c.requires.left step.is)

pub returns-clause-ran : goal.returns-clause-ran
returns-clause-ran c = λ w are stands.
    let step = c.index-steps-done in
    all_ran c.args.steps.now c.args.done step.result c.run_step.new.store (get_there c.args.steps.now c.args.done step.result c.requires.left step.is) w are c.run_step.result (c.run_step.ensures.ran w.tables _ stands)

pub returns-clause-fits : goal.returns-clause-fits
returns-clause-fits c =
    let step = c.index-steps-done in
    let has_run = c.requires.has_run in
    all_fit c.args.steps.now c.args.done step.result c.run_step.new.store (get_there c.args.steps.now c.args.done step.result c.requires.left step.is) c.args.store.now has_run c.run_step.result (c.run_step.ensures.ran has_run.w.tables _ has_run.stands)

pub returns-clause-has_run : goal.returns-clause-has_run
returns-clause-has_run c =
    let step = c.index-steps-done in
    let has_run = c.requires.has_run in
    all_since c.args.steps.now c.args.done step.result c.run_step.new.store (get_there c.args.steps.now c.args.done step.result c.requires.left step.is) c.args.store.now has_run c.requires.left c.run_step.result (c.run_step.ensures.ran has_run.w.tables _ has_run.stands)
