use Rattle.std.proofs.Common.{◌∙◌, List, ℕ, Some, None, ap}
use Rattle.std.proofs.lemmas.Result.{IfOk-weaker}
use Rattle.dbl_envelope_json.specs.Frames.{plain_record}
use Rattle.dbl_envelope_json.proofs.event.tombstone.Goals as goal

pub returns : goal.returns
returns c =
    IfOk-weaker c.plain_record.result _ _
    (λ r h. h ∙ ap (λ (k : List ℕ). plain_record c.args.frame.now c.args.stamp.now (Some k) None) c.in_ok-key.ensures)
    c.plain_record.ensures
