use Rattle.std.proofs.Common.{take}
use Rattle.dbl_tables_rows.specs.Ends.{EachChanges, ReleasesListed}
use Rattle.dbl_tables_rows.proofs.ends.release_keys.Given as goal

abbrev pub invariant-loop-held : goal.invariant-loop-held
invariant-loop-held l = EachChanges (ReleasesListed (take l.held-index l.keys) l.session) l.initial.tables.items l.tables.items
