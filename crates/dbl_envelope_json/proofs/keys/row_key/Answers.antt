use Rattle.std.proofs.Common.{◌∙◌, ◌<◌, length, sym, ap, subst}
use Rattle.std.specs.List.{All}
use Rattle.std.proofs.lemmas.Result.{IfOk-weaker}
use Rattle.serde_json.specs.Data.{object}
use Rattle.serde_json.specs.Written.{compact_text}
use Rattle.dbl_envelope_json.specs.declared.layout.Layout.{Layout}
use Rattle.dbl_envelope_json.specs.Layouts.{members_at}
use Rattle.dbl_envelope_json.proofs.LayoutLemmas.{key_fits}
use Rattle.dbl_envelope_json.proofs.SideLemmas.{row_key_is}
use Rattle.dbl_envelope_json.proofs.keys.row_key.Goals as goal

pub cells_text-requires : goal.cells_text-requires
cells_text-requires c =
    let frame = c.args.frame.now in
    record { places = subst (λ (l : Layout). All (λ p. p.index < length c.args.cells.now) l.key) (sym c.requires.framed.layout) (key_fits frame.identity.now frame.info.now (length c.args.cells.now) c.requires.wide) }

pub returns : goal.returns
returns c =
    let frame = c.args.frame.now in
    IfOk-weaker c.cells_text.result _ _
    (λ t h. h ∙ ap (λ (l : Layout). compact_text (object (members_at (c.args.cells.now) l.key))) c.requires.framed.layout ∙ row_key_is frame.identity.now frame.info.now c.args.cells.now)
    c.cells_text.ensures
