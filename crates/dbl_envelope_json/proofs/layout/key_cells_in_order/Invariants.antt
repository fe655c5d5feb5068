use Rattle.std.proofs.Common.{◌≡◌, drop}
use Rattle.dbl_envelope_json.specs.Layouts.{sorted, key_names_from}
use Rattle.dbl_envelope_json.proofs.layout.key_cells_in_order.Given as goal

abbrev pub invariant-loop-at : goal.invariant-loop-at
invariant-loop-at l = l.order.entries ≡ sorted (key_names_from l.columns.items l.at (drop l.at l.key.items))
