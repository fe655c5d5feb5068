use Rattle.std.proofs.Common.{◌≡◌, ◌++◌, flat_map}
use Rattle.dbl_consume_courses.specs.Courses.{ticked}
use Rattle.cases_courses.proofs.courses.ticked_changes.Given as goal

abbrev pub invariant-loop-change : goal.invariant-loop-change
invariant-loop-change l = l.made.items ++ flat_map (ticked l.infos.items l.table) l.change-iterator.rest.items ≡ flat_map (ticked l.infos.items l.table) l.fn.changes
