use Rattle.std.proofs.Common.{◌∙◌, Some, unwrap_or, codes, refl, sym, ap, subst}
use Rattle.serde_json.specs.Data.{null}
use Rattle.dbl_record.specs.Reading.{part_in}
use Rattle.dbl_consume.specs.Answers.{Answers}
use Rattle.dbl_consume.specs.JsonValues.{data_at, data_or_null}
use Rattle.dbl_consume.specs.Records.{recorded_as}
use Rattle.dbl_consume.proofs.EnvelopeLemmas.{progress_act, parsed_act, no_value_act}
use Rattle.dbl_consume.proofs.acting.act_of_parsed.Goals as goal

pub returns-then-is_progress : goal.returns-then-is_progress
returns-then-is_progress c =
    progress_act c.args.placeholder.now c.topic.result.now (recorded_as c.args.parsed.now) c.topic.ensures (sym c.is_progress.ensures ∙ c.if-is_progress.true)

pub returns-in-Some : goal.returns-in-Some
returns-in-Some c =
    subst (λ want. Answers want c.act_of_values.result)
    (sym (parsed_act c.args.placeholder.now c.topic.result.now (recorded_as c.args.parsed.now) (data_or_null c.key.result) (data_at c.in-Some.value) c.topic.ensures (sym c.is_progress.ensures ∙ c.if-is_progress.false)
    (ap (λ o. Some (unwrap_or o null)) c.key.ensures) (ap (λ o. Some (unwrap_or o null)) c.in-Some.ensures)))
    c.act_of_values.ensures

pub returns-in-None : goal.returns-in-None
returns-in-None c =
    no_value_act c.args.placeholder.now c.topic.result.now (recorded_as c.args.parsed.now) (part_in (codes "key") (data_at c.args.parsed.now.tape)) c.topic.ensures (sym c.is_progress.ensures ∙ c.if-is_progress.false)
    refl (ap (λ o. Some (unwrap_or o null)) c.in-None.ensures)
