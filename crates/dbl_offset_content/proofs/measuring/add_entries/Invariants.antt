use Rattle.std.proofs.Common.{◌<◌, ◌^◌}
use Rattle.dbl_offset_content.specs.Entries.{entries_of, entry, FitsTableCursor}
use Rattle.dbl_offset_content.proofs.Sizes.{Rest}
use Rattle.dbl_offset_content.proofs.measuring.add_entries.Given as goal

abbrev pub invariant-loop-i : goal.invariant-loop-i
invariant-loop-i l = record {
  sum : Rest (entry 2) FitsTableCursor l.before l.total (entries_of l.infos l.versions l.cursors) l.i;
  small : l.total < 2 ^ 64;
}
