use Rattle.std.proofs.Common.{◌≡◌, ◌∙◌, sym, refl, arith, length}
use Rattle.dbl_time.proofs.ShapeLemmas.{has_shape_apart, has_shape-yes, has_shape-no, has_shape-all}
use Rattle.dbl_model_history.proofs.fitting_keys.is_shaped.Goals as goal

pub returns-then-shape-text : goal.returns-then-shape-text
returns-then-shape-text c = sym (has_shape_apart c.args.shape.now c.args.text.now c.if-shape-text.true)

pub loop-place-init : goal.loop-place-init
loop-place-init c = refl

pub returns-then-not-may_stand : goal.returns-then-not-may_stand
returns-then-not-may_stand c =
    let same : length c.args.shape.now ≡ length c.args.text.now = omega arith in
    has_shape-no c.args.shape.now c.args.text.now c.loop-place.place same (omega arith) (sym c.may_stand.ensures ∙ c.if-not-may_stand.true) c.loop-place.invariant

pub loop-place-preserved : goal.loop-place-preserved
loop-place-preserved c =
    let same : length c.args.shape.now ≡ length c.args.text.now = omega arith in
    has_shape-yes c.args.shape.now c.args.text.now c.loop-place.place same (omega arith) (sym c.may_stand.ensures ∙ c.if-not-may_stand.false) c.loop-place.invariant

pub returns : goal.returns
returns c =
    let same : length c.args.shape.now ≡ length c.args.text.now = omega arith in
    has_shape-all c.args.shape.now c.args.text.now c.loop-place.place same (omega arith) c.loop-place.invariant
