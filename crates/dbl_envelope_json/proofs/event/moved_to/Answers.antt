use Rattle.std.proofs.Common.{◌∙◌, List, ℕ, Some, ap, ap₂, codes}
use Rattle.serde_json.specs.Data.{null}
use Rattle.serde_json.specs.Written.{compact_text}
use Rattle.dbl_record.specs.declared.record.Record.{Record}
use Rattle.dbl_value_types.specs.declared.value.Val.{Val}
use Rattle.dbl_model_table.specs.Keys.{key_of}
use Rattle.dbl_model_event.specs.ModelHistory.Image.{key_text}
use Rattle.dbl_model_event.specs.EventJson.{row_data}
use Rattle.dbl_envelope_json.specs.Frames.{plain_record, framed_event}
use Rattle.dbl_envelope_json.proofs.SideLemmas.{given_sent}
use Rattle.dbl_envelope_json.proofs.event.moved_to.Goals as goal

pub returns : goal.returns
returns c =
    let frame = c.args.frame.now in
    let info = frame.info.now in
    let given = given_sent frame.identity.now.placeholder c.args.cells.now c.requires.given in
    let value = c.in_ok-value.ensures ∙ ap (λ (vs : List Val). compact_text (framed_event frame null (codes "c") (row_data info vs))) given in
    let key = c.in_ok-to.ensures ∙ ap (λ (vs : List Val). key_text info (key_of info vs)) given in
    let record_is = c.in_ok-plain_record.ensures ∙ ap₂ (λ (k v : List ℕ). plain_record frame c.args.stamp.now (Some k) (Some v)) key value in
    ap₂ (λ (d : Record) (o : List ℕ). record { topic = d.topic; key = d.key; value = d.value; position = d.position; ordinal = d.ordinal; last = d.last; newkey = d.newkey; oldkey = Some o }) record_is c.in_ok-oldkey.ensures
