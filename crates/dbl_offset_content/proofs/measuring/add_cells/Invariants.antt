use Rattle.std.proofs.Common.{◌<◌, ◌^◌}
use Rattle.dbl_offset_content.specs.Entries.{cell, FitsKeyCell}
use Rattle.dbl_offset_content.proofs.Sizes.{Rest}
use Rattle.dbl_offset_content.proofs.measuring.add_cells.Given as goal

abbrev pub invariant-loop-value : goal.invariant-loop-value
invariant-loop-value l = record {
  sum : Rest cell FitsKeyCell l.before l.total l.cells l.value-index;
  small : l.total < 2 ^ 64;
}
