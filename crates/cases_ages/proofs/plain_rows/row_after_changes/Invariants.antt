use Rattle.std.proofs.Common.{◌≡◌, ◌≤◌, take}
use Rattle.dbl_model_history.specs.PlainRows.{plain_row_cells, row_from}
use Rattle.cases_ages.proofs.plain_rows.row_after_changes.Given as goal

abbrev pub invariant-loop-i : goal.invariant-loop-i
invariant-loop-i l = record {
  row : plain_row_cells l.row ≡ row_from l.infos.items l.table l.key (plain_row_cells l.fn.row) (take l.i l.changes);
  within : l.i ≤ l.count;
}
