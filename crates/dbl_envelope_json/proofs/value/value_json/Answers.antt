use Rattle.std.proofs.Common.{◌∙◌, ◌++◌, sym, ap₂, subst}
use Rattle.std.specs.String.{string_bytes}
use Rattle.dbl_envelope_json.specs.declared.layout.Layout.{Layout}
use Rattle.dbl_envelope_json.specs.Frames.{FitsPlaces}
use Rattle.dbl_envelope_json.proofs.SideLemmas.{side_fits}
use Rattle.dbl_envelope_json.proofs.ValueLemmas.{value_is}
use Rattle.dbl_envelope_json.proofs.value.value_json.Goals as goal

pub head_text-requires : goal.head_text-requires
head_text-requires c =
    let frame = c.args.frame.now in
    record {
      after = subst (λ (l : Layout). FitsPlaces l.columns c.args.after.now) (sym c.requires.framed.layout) (side_fits frame.identity.now frame.info.now c.args.after.now c.requires.after);
      before = subst (λ (l : Layout). FitsPlaces l.columns c.args.before.now) (sym c.requires.framed.layout) (side_fits frame.identity.now frame.info.now c.args.before.now c.requires.before);
    }

pub returns : goal.returns
returns c =
    let first = string_bytes c.in_ok-text.text in
    value_is c.args.frame.now c.args.after.now c.args.before.now c.args.op.now first _ c.requires.framed c.requires.after c.requires.before c.in_ok-text.ensures
    (c.make.ensures ∙ c.in_ok-push_str-2.ensures.bytes ∙ ap₂ (λ x y. x ++ y) c.in_ok-push_str.ensures.bytes c.as_str.ensures.value)
