use Rattle.std.proofs.Common.{◌≡◌, ◌++◌, drop}
use Rattle.std.specs.List.{flat_map}
use Rattle.dbl_offset_content.specs.Entries.{entries_of, entry}
use Rattle.dbl_offset_content.proofs.writing.write_entries.Given as goal

abbrev pub invariant-loop-i : goal.invariant-loop-i
invariant-loop-i l =
    l.out.items ++ flat_map (entry l.format) (drop l.i (entries_of l.infos l.versions l.cursors)) ≡ l.fn.out.items ++ flat_map (entry l.format) (entries_of l.infos l.versions l.cursors)
