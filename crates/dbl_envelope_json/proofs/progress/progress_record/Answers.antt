use Rattle.std.proofs.Common.{◌≡◌, ◌∙◌, Some, None, true, ap}
use Rattle.serde_json.specs.Written.{compact_text}
use Rattle.dbl_model_event.specs.Snapshots.{progress_topic, progress_key, progress_data}
use Rattle.dbl_envelope_json.specs.Frames.{table_data}
use Rattle.dbl_envelope_json.proofs.progress.progress_record.Goals as goal

pub returns : goal.returns
returns c =
    let frame = c.args.frame.now in
    let topic : c.in_ok-topic.topic ≡ progress_topic frame.identity.now = c.in_ok-topic.ensures in
    let key : c.in_ok-key.key ≡ compact_text (progress_key frame.info.now) = c.in_ok-key.ensures ∙ ap (λ t. compact_text (table_data t)) (c.as_str.ensures.value ∙ c.in_ok-table.ensures) in
    let value : c.in_ok-value.value ≡ compact_text (progress_data frame.info.now c.args.through.now c.args.done) = c.in_ok-value.ensures in
    λ i. record { topic = topic i; key = Some (key i); value = Some (value i); position = frame.commit.now.lsn.0; ordinal = c.args.ordinal; last = true; newkey = None; oldkey = None }
