use Rattle.std.proofs.Common.{◌≡◌, ◌++◌, drop}
use Rattle.std.specs.List.{flat_map}
use Rattle.dbl_offset_content.specs.Entries.{cell}
use Rattle.dbl_offset_content.proofs.writing.write_cells.Given as goal

abbrev pub invariant-loop-value : goal.invariant-loop-value
invariant-loop-value l = l.out.items ++ flat_map cell (drop l.value-index l.cells) ≡ l.fn.out.items ++ flat_map cell l.cells
