use Rattle.std.proofs.Common.{option_and_then, subst}
use Rattle.serde_json.specs.Find.{as_object}
use Rattle.dbl_record.specs.declared.acts.ConsumeError.TheVariants.{BadAfter}
use Rattle.dbl_record.specs.Acts.{or_error, set_of, first_error}
use Rattle.dbl_consume.specs.Answers.{Answers}
use Rattle.dbl_consume.specs.Kinds.{kind_in}
use Rattle.dbl_consume.proofs.classifying.put_kind.Goals as goal

pub returns-in-Some : goal.returns-in-Some
returns-in-Some c =
    subst (λ found. Answers (kind_in (or_error BadAfter (λ ms. set_of c.args.placeholder.now c.args.key ms (first_error ms)) (option_and_then as_object found))) c.kind_after.result)
    c.in-Some.ensures c.kind_after.ensures
