use Rattle.dbl_model_history.specs.PlainRows.{plain_row_cells}
use Rattle.cases_ages.proofs.PlainRowLemmas.{IsWalked}
use Rattle.cases_ages.proofs.plain_rows.row_at.Given as goal

abbrev pub invariant-loop-commit : goal.invariant-loop-commit
invariant-loop-commit l = IsWalked l.infos.items l.table l.key l.commits.items l.moment l.commit-index (plain_row_cells l.row) l.left
