use Rattle.std.proofs.Common.{◌≡◌, ◌++◌, ◌<◌, drop}
use Rattle.std.specs.String.{string_bytes}
use Rattle.dbl_time.specs.Clocks.{short_digits, digit_units}
use Rattle.dbl_time.proofs.FractionSteps.{bound_of}
use Rattle.dbl_time.proofs.clocks.push_fraction.Given as goal

abbrev pub invariant-loop-unit : goal.invariant-loop-unit
invariant-loop-unit l =
    (string_bytes l.text ++ short_digits (drop l.unit-index digit_units) l.left ≡ string_bytes l.initial.text ++ short_digits digit_units l.initial.left)
    × (l.left < bound_of (drop l.unit-index digit_units))
