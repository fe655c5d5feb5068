use Rattle.std.proofs.Common.{◌∙◌, Some, ap, subst}
use Rattle.dbl_record.specs.declared.acts.ConsumeError.TheVariants.{BadAfter}
use Rattle.dbl_record.specs.Acts.{or_error, set_of, first_error}
use Rattle.dbl_consume.specs.Answers.{Answers}
use Rattle.dbl_consume.specs.Cells.{cells_data}
use Rattle.dbl_consume.specs.Kinds.{kind_in}
use Rattle.dbl_consume.proofs.classifying.kind_after.Goals as goal

pub returns-in-Ok-Some : goal.returns-in-Ok-Some
returns-in-Ok-Some c =
    let found = rw c.in-Ok-Some.field-0-is at c.in-Ok-Some.ensures in
    subst (λ members. Answers (kind_in (or_error BadAfter (λ ms. set_of c.args.placeholder.now c.args.key ms (first_error ms)) members)) c.set_kind.result)
    (ap (λ l. Some (cells_data l)) c.as_slice.ensures.value ∙ found) c.set_kind.ensures
