use Rattle.std.proofs.Common.{◌≡◌, ◌+◌, length, drop}
use Rattle.std.specs.Vec.Iter.{into_iter_items}
use Rattle.dbl_window.specs.Reading.{cells_read}
use Rattle.dbl_window.proofs.CellLemmas.{FitSoFar}
use Rattle.dbl_window.proofs.Loops.{with_front}
use Rattle.dbl_window.proofs.reading.read_cells.Given as goal

abbrev pub invariant-loop-cell : goal.invariant-loop-cell
invariant-loop-cell l = record {
  read : with_front l.values.items (cells_read l.info l.number l.place (drop l.place l.info.columns) (into_iter_items l.cell-iterator)) ≡ cells_read l.info l.number 0 l.info.columns l.fn.cells.items;
  counted : l.place + length (into_iter_items l.cell-iterator) ≡ length l.info.columns;
  fit : FitSoFar l.info l.values.items l.place;
}
