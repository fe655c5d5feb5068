use Rattle.std.proofs.Common.{◌∙◌, ◌<◌, length, map, sym, ap, subst}
use Rattle.std.specs.List.{All}
use Rattle.std.proofs.lemmas.Result.{IfOk-weaker}
use Rattle.serde_json.specs.Data.{object}
use Rattle.serde_json.specs.Written.{compact_text}
use Rattle.dbl_model_event.specs.EventJson.{sent}
use Rattle.dbl_envelope_json.specs.declared.layout.Layout.{Layout}
use Rattle.dbl_envelope_json.specs.Layouts.{members_at}
use Rattle.dbl_envelope_json.proofs.LayoutLemmas.{key_fits}
use Rattle.dbl_envelope_json.proofs.SideLemmas.{row_key_is}
use Rattle.dbl_envelope_json.proofs.keys.sent_key.Goals as goal

pub sent_text-requires : goal.sent_text-requires
sent_text-requires c =
    let frame = c.args.frame.now in
    record { places = subst (λ (l : Layout). All (λ p. p.index < length c.args.cells.now) l.key) (sym c.requires.framed.layout) (key_fits frame.identity.now frame.info.now (length c.args.cells.now) c.requires.wide) }

pub returns : goal.returns
returns c =
    let frame = c.args.frame.now in
    IfOk-weaker c.sent_text.result _ _
    (λ t h. h ∙ ap (λ (l : Layout). compact_text (object (members_at (map (sent frame.identity.now.placeholder) c.args.cells.now) l.key))) c.requires.framed.layout ∙ row_key_is frame.identity.now frame.info.now (map (sent frame.identity.now.placeholder) c.args.cells.now))
    c.sent_text.ensures
