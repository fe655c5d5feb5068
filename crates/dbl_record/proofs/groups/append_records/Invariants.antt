use Rattle.std.proofs.Common.{◌≡◌, ◌++◌, drop, take}
use Rattle.std.specs.List.{flat_map, AllByRecursion}
use Rattle.dbl_record.specs.Groups.{record_form, FitsRecord}
use Rattle.dbl_record.proofs.groups.append_records.Given as goal

abbrev pub invariant-records : goal.invariant-records
invariant-records l = record {
  written : l.out.items ++ flat_map record_form (drop l.item-index l.group) ≡ l.fn.out.items ++ flat_map record_form l.group;
  fit : AllByRecursion FitsRecord (take l.item-index l.group);
}
