use Rattle.std.proofs.Common.{◌≡◌, drop}
use Rattle.dbl_envelope_json.specs.Layouts.{sorted, column_names_at}
use Rattle.dbl_envelope_json.proofs.layout.key_in_order.Given as goal

abbrev pub invariant-loop-at : goal.invariant-loop-at
invariant-loop-at l = l.order.entries ≡ sorted (column_names_at l.columns.items (drop l.at l.key.items))
