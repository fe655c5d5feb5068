use Rattle.std.proofs.Common.{◌≡◌, ◌-◌, ◌+◌, ◌^◌, ℕ, length, drop}
use Rattle.std.specs.Prelude.{min}
use Rattle.std.specs.List.{flat_map}
use Rattle.dbl_record.specs.Groups.{record_form, group_form}
use Rattle.dbl_record.proofs.groups.group_length.Given as goal

abbrev pub invariant-records : goal.invariant-records
invariant-records l = (so_far : ℕ) × (l.length ≡ min so_far (2 ^ 64 - 1)) × (so_far + length (flat_map record_form (drop l.item-index l.group)) ≡ length (group_form l.group))
