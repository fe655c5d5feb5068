use Rattle.std.proofs.Common.{◌∙◌, Err, inl, inr, refl, sym, ap, subst}
use Rattle.dbl_lines.specs.declared.status.Status.TheVariants.{Done}
use Rattle.dblog_stores.specs.Ends.{CommandEnd}
use Rattle.dblog_run_stores.specs.Disks.{Finishes}
use Rattle.dblog_run_stores.proofs.stores.finish.Goals as goal

pub returns-in-Ok-clause-finishes : goal.returns-in-Ok-clause-finishes
returns-in-Ok-clause-finishes g c =
    let before = g.O.Output.written c.args.output.now in
    subst (λ (end : CommandEnd). Finishes end Done before before) (sym c.in-Ok.is) (refl, refl)

pub returns-in-Err-clause-finishes : goal.returns-in-Err-clause-finishes
returns-in-Err-clause-finishes g c =
    subst (λ (end : CommandEnd). Finishes end c.end_with.result (g.O.Output.written c.args.output.now) (g.O.Output.written c.end_with.new.output)) (sym c.in-Err.is) c.end_with.ensures.finishes

pub returns-in-Err-clause-output_failed : goal.returns-in-Err-clause-output_failed
returns-in-Err-clause-output_failed g c = λ is. elim (c.end_with.ensures.output_failed is) [ inl same ↦ inl (c.in-Err.is ∙ ap Err same) | inr rose ↦ inr rose ]
