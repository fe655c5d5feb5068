use Rattle.std.proofs.Common.{◌≡◌, ℕ, List, Some, ◌≤◌, ◌+◌, ◌-◌, length}
use Rattle.dbl_base.specs.Streams.{input_limit}
use Rattle.dbl_base.proofs.Readings.{IsReading}
use Rattle.dbl_base.proofs.input.read_all.Given as goal

abbrev pub invariant-pieces : goal.invariant-pieces
invariant-pieces g l =
    IsReading (g.I.Input.left l.fn.input) (g.I.Input.left l.input) l.bytes.items
    × (g.I.Input.faults l.fn.input ≤ g.I.Input.faults l.input)
    × ((bytes : List ℕ) → g.I.Input.left l.fn.input ≡ Some bytes → g.I.Input.faults l.input ≡ g.I.Input.faults l.fn.input)

abbrev pub decreases-pieces : goal.decreases-pieces
decreases-pieces g l = input_limit + 1 - length l.bytes.items
