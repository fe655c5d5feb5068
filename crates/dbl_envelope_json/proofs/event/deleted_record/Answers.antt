use Rattle.std.proofs.Common.{◌∙◌, List, ℕ, Some, ap₂}
use Rattle.std.proofs.lemmas.Result.{IfOk-weaker}
use Rattle.dbl_envelope_json.specs.Frames.{plain_record}
use Rattle.dbl_envelope_json.proofs.event.deleted_record.Goals as goal

pub returns : goal.returns
returns c =
    IfOk-weaker c.plain_record.result _ _
    (λ r h. h ∙ ap₂ (λ (k v : List ℕ). plain_record c.args.frame.now c.args.stamp.now (Some k) (Some v)) c.in_ok-key.ensures c.in_ok-value.ensures)
    c.plain_record.ensures
