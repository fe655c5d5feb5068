use Rattle.std.proofs.Common.{◌∙◌, List, ℕ, Some, map, ap, ap₂, codes}
use Rattle.std.proofs.lemmas.Result.{IfOk-weaker}
use Rattle.serde_json.specs.Data.{Data}
use Rattle.serde_json.specs.Written.{compact_text}
use Rattle.dbl_model_event.specs.EventJson.{row_data, sent}
use Rattle.dbl_envelope_json.specs.Frames.{plain_record, framed_event}
use Rattle.dbl_envelope_json.proofs.event.updated_record.Goals as goal

pub returns : goal.returns
returns c =
    let frame = c.args.frame.now in
    let info = frame.info.now in
    let value = c.in_ok-value.ensures ∙ ap (λ (b : Data). compact_text (framed_event frame b (codes "u") (row_data info (map (sent frame.identity.now.placeholder) c.args.cells.now)))) (c.old_side-before.ensures.row frame.identity.now info) in
    IfOk-weaker c.plain_record.result _ _
    (λ r h. h ∙ ap₂ (λ (k v : List ℕ). plain_record frame c.args.stamp.now (Some k) (Some v)) c.in_ok-key.ensures value)
    c.plain_record.ensures
