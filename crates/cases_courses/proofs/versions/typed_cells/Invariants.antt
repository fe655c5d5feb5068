use Rattle.std.proofs.Common.{◌≡◌, take}
use Rattle.dbl_model_history.specs.Typed.{typed_cells}
use Rattle.cases_courses.specs.AlteredHistories.{column_types}
use Rattle.cases_courses.proofs.versions.typed_cells.Given as goal

abbrev pub invariant-loop-i : goal.invariant-loop-i
invariant-loop-i l = l.cells.items ≡ typed_cells (column_types l.columns) (take l.i l.texts)
