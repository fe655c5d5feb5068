use Rattle.std.proofs.Common.{◌≡◌, ◌++◌}
use Rattle.dbl_envelope_json.specs.Layouts.{places_of}
use Rattle.dbl_envelope_json.proofs.layout.places.Given as goal

abbrev pub invariant-loop-name : goal.invariant-loop-name
invariant-loop-name l = l.places.items ++ places_of l.name-iterator ≡ places_of l.fn.order.entries
