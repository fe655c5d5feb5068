use Rattle.std.proofs.Common.{◌≡◌, drop}
use Rattle.dbl_model_history.specs.PlainRows.{plain_row_cells}
use Rattle.dbl_window.specs.Changing.{left_from}
use Rattle.dbl_window.proofs.plain.plain_left.Given as goal

abbrev pub invariant-loop-change : goal.invariant-loop-change
invariant-loop-change l =
    left_from l.infos.items l.table l.key (plain_row_cells l.left) (drop l.change-index l.change-items) ≡ left_from l.infos.items l.table l.key (plain_row_cells l.fn.row) l.changes.items
