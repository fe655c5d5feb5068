use Rattle.std.proofs.Common.{◌≡◌, map, take}
use Rattle.dbl_model_table.specs.declared.change.Change.TheVariants.{Insert}
use Rattle.dbl_model_history.specs.Typed.{typed_row}
use Rattle.cases_courses.proofs.versions.inserts.Given as goal

abbrev pub invariant-loop-row : goal.invariant-loop-row
invariant-loop-row l = l.made.items ≡ map (λ row. Insert l.table (typed_row l.infos.items l.table row)) (take l.row-index l.rows)
