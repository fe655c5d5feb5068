use Rattle.std.proofs.Common.{◌≡◌, ◌∙◌, Some, None, refl, ap}
use Rattle.std.proofs.lemmas.Result.{IfOk-weaker, IfErr-weaker}
use Rattle.serde_json.specs.Data.{object}
use Rattle.dbl_record.specs.Acts.{key_text}
use Rattle.dbl_consume.specs.Cells.{cells_data}
use Rattle.dbl_consume.specs.JsonValues.{data_at}
use Rattle.dbl_consume.proofs.FlatLemmas.{key_text-members}
use Rattle.dbl_consume.proofs.acting.key_text_in.Goals as goal

pub returns-in-Ok-Some-clause-ok : goal.returns-in-Ok-Some-clause-ok
returns-in-Ok-Some-clause-ok c =
    let found = rw c.in-Ok-Some.field-0-is at c.in-Ok-Some.ensures in
    let same : key_text (data_at c.args.key.now) ≡ key_text (object (cells_data c.as_slice.result.now))
    = key_text-members (data_at c.args.key.now) (Some (cells_data c.as_slice.result.now)) (ap (λ l. Some (cells_data l)) c.as_slice.ensures.value ∙ found) in
    IfOk-weaker c.key_text_of.result _ _ (λ text h. same ∙ h) c.key_text_of.ensures.ok

pub returns-in-Ok-Some-clause-err : goal.returns-in-Ok-Some-clause-err
returns-in-Ok-Some-clause-err c =
    let found = rw c.in-Ok-Some.field-0-is at c.in-Ok-Some.ensures in
    let same : key_text (data_at c.args.key.now) ≡ key_text (object (cells_data c.as_slice.result.now))
    = key_text-members (data_at c.args.key.now) (Some (cells_data c.as_slice.result.now)) (ap (λ l. Some (cells_data l)) c.as_slice.ensures.value ∙ found) in
    IfErr-weaker c.key_text_of.result _ _ (λ e h other. (same ∙ (h other).0, (h other).1)) c.key_text_of.ensures.err

pub returns-in-Ok-None-clause-err : goal.returns-in-Ok-None-clause-err
returns-in-Ok-None-clause-err c =
    let found = rw c.in-Ok-None.field-0-is at c.in-Ok-None.ensures in
    λ other. (key_text-members (data_at c.args.key.now) None found, refl)
