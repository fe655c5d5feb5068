use Rattle.std.proofs.Common.{◌≡◌, ◌-◌, length, take}
use Rattle.dbl_source_log.specs.Alterations.{tables_through, HaveVersions}
use Rattle.dbl_source_log.proofs.alterations.tables_through.Given as goal

abbrev pub invariant-loop-entry : goal.invariant-loop-entry
invariant-loop-entry l = (l.after.items ≡ tables_through (take l.entry-index l.log) l.tables) × HaveVersions (length l.log - l.entry-index) l.after.items
