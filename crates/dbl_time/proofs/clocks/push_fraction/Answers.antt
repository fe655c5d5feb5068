use Rattle.std.proofs.Common.{◌≡◌, ◌∙◌, ◌++◌, [], sym, ap, refl, arith, drop}
use Rattle.std.proofs.lemmas.List.{drop_all, append-nil}
use Rattle.std.specs.String.{string_bytes}
use Rattle.dbl_time.specs.Clocks.{short_digits, digit_units}
use Rattle.dbl_time.proofs.FractionSteps.{digit_units-AreChained, step_at, digit_at_place, none_left, no_units, fraction_text-none, fraction_text-some}
use Rattle.dbl_time.proofs.clocks.push_fraction.Goals as goal

pub returns-then-micros-eq0 : goal.returns-then-micros-eq0
returns-then-micros-eq0 c = sym (ap (λ t. string_bytes c.args.text.now ++ t) (fraction_text-none c.args.micros c.if-micros-eq0.true) ∙ append-nil (string_bytes c.args.text.now))

pub loop-unit-init : goal.loop-unit-init
loop-unit-init c = (refl, c.requires)

pub returns-then-left-eq0 : goal.returns-then-left-eq0
unfolding lib.Utf8.encode
returns-then-left-eq0 c =
    let written = c.loop-unit.invariant.0 in
    let none = none_left (drop c.loop-unit.unit-index digit_units) c.loop-unit.left (string_bytes c.loop-unit.text) c.if-left-eq0.true in
    let whole : string_bytes c.loop-unit.text ≡ string_bytes c.push.new.self ++ short_digits digit_units c.args.micros = sym none ∙ written in
    whole ∙ fraction_text-some c.args.micros (string_bytes c.args.text.now) (string_bytes c.push.new.self) c.if-micros-eq0.false c.in_ok-push.ensures.bytes

pub push_digit-requires : goal.push_digit-requires
push_digit-requires c = digit_at_place digit_units c.loop-unit.unit-index c.loop-unit.left c.loop-unit-test.true digit_units-AreChained c.loop-unit.invariant.1

pub loop-unit-preserved : goal.loop-unit-preserved
loop-unit-preserved c =
    step_at digit_units c.loop-unit.unit-index c.loop-unit.left (string_bytes c.loop-unit.text) (string_bytes c.push_digit.new.text) _ c.loop-unit-test.true digit_units-AreChained c.if-left-eq0.false c.loop-unit.invariant.1 c.in_ok-push_digit.ensures c.loop-unit.invariant.0

pub returns : goal.returns
unfolding lib.Utf8.encode
returns c =
    let written = c.loop-unit.invariant.0 in
    let end : drop c.loop-unit.unit-index digit_units ≡ [] = drop_all c.loop-unit.unit-index digit_units (omega arith) in
    let whole : string_bytes c.loop-unit.text ≡ string_bytes c.push.new.self ++ short_digits digit_units c.args.micros = sym (no_units c.loop-unit.left (string_bytes c.loop-unit.text)) ∙ ap (λ units. string_bytes c.loop-unit.text ++ short_digits units c.loop-unit.left) (sym end) ∙ written in
    whole ∙ fraction_text-some c.args.micros (string_bytes c.args.text.now) (string_bytes c.push.new.self) c.if-micros-eq0.false c.in_ok-push.ensures.bytes
