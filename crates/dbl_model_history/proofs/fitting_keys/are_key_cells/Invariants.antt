use Rattle.std.proofs.Common.{◌≡◌, map, drop, take}
use Rattle.std.specs.List.{AllByRecursion}
use Rattle.dbl_model_table.specs.Tables.{type_at}
use Rattle.dbl_model_history.specs.KeyFits.{are_key_cells, HasUtf8}
use Rattle.dbl_model_history.proofs.fitting_keys.are_key_cells.Given as goal

abbrev pub invariant-loop-i : goal.invariant-loop-i
invariant-loop-i l = (are_key_cells (map (type_at l.columns) (drop l.i l.places)) (drop l.i l.cells) ≡ are_key_cells (map (type_at l.columns) l.places) l.cells) × AllByRecursion HasUtf8 (take l.i l.cells)
