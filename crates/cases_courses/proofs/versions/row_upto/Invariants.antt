use Rattle.dbl_model_history.specs.PlainRows.{plain_row_cells}
use Rattle.cases_courses.proofs.AlteredLemmas.{IsUpto}
use Rattle.cases_courses.proofs.versions.row_upto.Given as goal

abbrev pub invariant-loop-version : goal.invariant-loop-version
invariant-loop-version l = IsUpto l.versions.items l.moment l.table l.key l.version-index (plain_row_cells l.row) l.left
