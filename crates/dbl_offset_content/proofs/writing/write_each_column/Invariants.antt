use Rattle.std.proofs.Common.{◌≡◌, ◌++◌, drop}
use Rattle.std.specs.List.{flat_map}
use Rattle.dbl_offset_content.specs.Entries.{column}
use Rattle.dbl_offset_content.proofs.writing.write_each_column.Given as goal

abbrev pub invariant-loop-item : goal.invariant-loop-item
invariant-loop-item l = l.out.items ++ flat_map column (drop l.item-index l.columns) ≡ l.fn.out.items ++ flat_map column l.columns
