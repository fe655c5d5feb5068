use Rattle.std.proofs.Common.{◌∙◌, sym, ap, ap₂, subst}
use Rattle.dbl_record.specs.declared.acts.ConsumeError.TheVariants.{BadJson}
use Rattle.dbl_record.specs.Acts.{or_error, bare_value, act_of_data}
use Rattle.dbl_consume.specs.Answers.{Answers}
use Rattle.dbl_consume.specs.JsonValues.{data_at}
use Rattle.dbl_consume.proofs.acting.act_by_key.Goals as goal

pub returns-in-Ok : goal.returns-in-Ok
returns-in-Ok c =
    let p = c.args.placeholder.now in
    subst (λ want. Answers want c.act_of_values.result)
    (ap₂ (λ k v. act_of_data p (bare_value (data_at k)) (bare_value (data_at v))) c.root.ensures c.root-in-Ok.ensures
    ∙ sym (ap (or_error BadJson (λ v. act_of_data p (bare_value (data_at c.args.key.now)) (bare_value v))) c.in-Ok.ensures.ok))
    c.act_of_values.ensures
