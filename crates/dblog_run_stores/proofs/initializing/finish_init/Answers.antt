use Rattle.std.proofs.Common.{refl, sym, subst}
use Rattle.dbl_lines.specs.declared.status.Status.TheVariants.{Done}
use Rattle.dblog_init.specs.Answers.{InitEnd}
use Rattle.dblog_run_stores.specs.Inits.{FinishesInit}
use Rattle.dblog_run_stores.proofs.initializing.finish_init.Goals as goal

pub returns-in-Ok-clause-finishes : goal.returns-in-Ok-clause-finishes
returns-in-Ok-clause-finishes g c =
    let before = g.O.Output.written c.args.output.now in
    subst (λ (end : InitEnd). FinishesInit end Done before before) (sym c.in-Ok.is) (refl, refl)

pub returns-in-Err-clause-finishes : goal.returns-in-Err-clause-finishes
returns-in-Err-clause-finishes g c =
    subst (λ (end : InitEnd). FinishesInit end c.say_init.result (g.O.Output.written c.args.output.now) (g.O.Output.written c.say_init.new.output)) (sym c.in-Err.is) c.say_init.ensures.says
