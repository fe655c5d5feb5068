use Rattle.std.proofs.Common.{◌∙◌, ◌<◌, List, [], length, sym, ap, subst}
use Rattle.std.specs.List.{All}
use Rattle.std.proofs.lemmas.Result.{IfOk-weaker}
use Rattle.serde_json.specs.Data.{object}
use Rattle.serde_json.specs.Written.{compact_text}
use Rattle.dbl_model_table.specs.declared.identity.Identity.{Identity}
use Rattle.dbl_envelope_json.specs.declared.layout.Place.{Place}
use Rattle.dbl_envelope_json.specs.Layouts.{layout_of, members_at}
use Rattle.dbl_envelope_json.proofs.LayoutLemmas.{key_cells_fit}
use Rattle.dbl_envelope_json.proofs.SideLemmas.{key_text_is}
use Rattle.dbl_envelope_json.proofs.texts.key_text.Goals as goal

-- the key's places are the same under every identity
abbrev nobody : Identity
nobody = record { prefix = []; db = []; placeholder = [] }

pub cells_text-requires : goal.cells_text-requires
unfolding layout_of
cells_text-requires c = record { places = subst (λ (ps : List Place). All (λ p. p.index < length c.args.key.now.cells) ps) (sym c.in_ok-places.ensures) (key_cells_fit nobody c.args.info.now (length c.args.key.now.cells) c.requires) }

pub returns : goal.returns
unfolding layout_of
returns c =
    IfOk-weaker c.cells_text.result _ _
    (λ t h. h ∙ ap (λ (ps : List Place). compact_text (object (members_at c.args.key.now.cells ps))) c.in_ok-places.ensures ∙ key_text_is nobody c.args.info.now c.args.key.now c.requires)
    c.cells_text.ensures
