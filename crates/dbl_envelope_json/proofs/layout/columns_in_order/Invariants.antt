use Rattle.std.proofs.Common.{◌≡◌, drop}
use Rattle.dbl_envelope_json.specs.Layouts.{sorted, column_names_from}
use Rattle.dbl_envelope_json.proofs.layout.columns_in_order.Given as goal

abbrev pub invariant-loop-index : goal.invariant-loop-index
invariant-loop-index l = l.order.entries ≡ sorted (column_names_from l.index (drop l.index l.columns.items))
