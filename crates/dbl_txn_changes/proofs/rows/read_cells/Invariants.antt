use Rattle.std.proofs.Common.{◌≡◌, ◌+◌, length, drop}
use Rattle.std.specs.Vec.Iter.{into_iter_items}
use Rattle.dbl_model_commit.specs.Tuples.{each_from, row_cell}
use Rattle.dbl_txn_changes.proofs.Loops.{with_front}
use Rattle.dbl_txn_changes.proofs.rows.read_cells.Given as goal

abbrev pub invariant-loop-cell : goal.invariant-loop-cell
invariant-loop-cell l =
    (with_front l.values.items (each_from (row_cell l.info l.relation l.whole) l.place (drop l.place l.info.columns) (into_iter_items l.cell-iterator)) ≡ each_from (row_cell l.info l.relation l.whole) 0 l.info.columns l.fn.cells.items)
    × (l.place + length (into_iter_items l.cell-iterator) ≡ length l.info.columns)
