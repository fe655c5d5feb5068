use Rattle.std.proofs.Common.{◌≡◌, ◌++◌, replicate}
use Rattle.dbl_model_table.specs.declared.change.Change.TheVariants.{Clear}
use Rattle.cases_courses.proofs.courses.push_clears.Given as goal

abbrev pub invariant-loop-number : goal.invariant-loop-number
invariant-loop-number l = l.out.items ≡ l.fn.out.items ++ replicate l._number (Clear l.table)
