use Rattle.std.proofs.Common.{◌≡◌, drop}
use Rattle.std.specs.List.{find}
use Rattle.dbl_value_types.specs.Types.{has_oid}
use Rattle.dbl_value_types.proofs.column_type.first_with_oid.Given as goal

abbrev pub invariant-loop-ty : goal.invariant-loop-ty
invariant-loop-ty l = find (has_oid l.number) (drop l.ty-index l.types) ≡ find (has_oid l.number) l.types
