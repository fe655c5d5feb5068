use Rattle.std.proofs.Common.{◌<◌, ◌^◌}
use Rattle.dbl_offset_content.specs.Entries.{column, FitsTableColumn}
use Rattle.dbl_offset_content.proofs.Sizes.{Rest}
use Rattle.dbl_offset_content.proofs.measuring.add_columns.Given as goal

abbrev pub invariant-loop-item : goal.invariant-loop-item
invariant-loop-item l = record {
  sum : Rest column FitsTableColumn l.before l.total l.columns l.item-index;
  small : l.total < 2 ^ 64;
}
