use Rattle.std.proofs.Common.{◌≡◌, ◌∙◌, List, ℕ, Some, ap, ap₂}
use Rattle.dbl_record.specs.declared.record.Record.{Record}
use Rattle.dbl_value_types.specs.declared.value.Val.{Val}
use Rattle.dbl_model_table.specs.Keys.{key_of}
use Rattle.dbl_model_event.specs.ModelHistory.Image.{key_text}
use Rattle.dbl_envelope_json.specs.Frames.{deleted_record}
use Rattle.dbl_envelope_json.proofs.SideLemmas.{given_sent}
use Rattle.dbl_envelope_json.proofs.event.moved_from.Goals as goal

pub returns : goal.returns
returns c =
    let frame = c.args.frame.now in
    let info = frame.info.now in
    let record_is : c.in_ok-deleted_record.field-0 ≡ deleted_record frame c.args.stamp.now c.args.key.now _ =
    c.in_ok-deleted_record.ensures ∙ ap (deleted_record frame c.args.stamp.now c.args.key.now) (c.old_side.ensures.row frame.identity.now info) in
    let key_is : c.in_ok-newkey.newkey ≡ _ =
    c.in_ok-newkey.ensures ∙ ap (λ (vs : List Val). key_text info (key_of info vs)) (given_sent frame.identity.now.placeholder c.args.cells.now c.requires.given) in
    ap₂ (λ (d : Record) (n : List ℕ). record { topic = d.topic; key = d.key; value = d.value; position = d.position; ordinal = d.ordinal; last = d.last; newkey = Some n; oldkey = d.oldkey }) record_is key_is
