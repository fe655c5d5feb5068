use Rattle.std.proofs.Common.{◌≡◌, ◌≤◌, length}
use Rattle.std.specs.List.{AllByRecursion}
use Rattle.std.specs.Vec.Iter.{into_iter_items}
use Rattle.dbl_model_history.specs.KeyedRows.{AreAbove, last_key}
use Rattle.dbl_window.specs.Plans.{plan_of}
use Rattle.dbl_window.specs.Reading.{rows_read}
use Rattle.dbl_window.specs.Changing.{FitsRow}
use Rattle.dbl_window.proofs.Loops.{with_front}
use Rattle.dbl_window.proofs.reading.read_rows.Given as goal

abbrev pub invariant-loop-raw : goal.invariant-loop-raw
invariant-loop-raw l = record {
  rows : with_front l.read.entries (rows_read (plan_of l.frame) l.count l.through (into_iter_items l.raw-iterator)) ≡ rows_read (plan_of l.frame) 0 l.frame.above l.fn.rows.items;
  ordered : AreAbove l.frame.above l.read.entries;
  last : l.through ≡ last_key l.frame.above l.read.entries;
  counted : l.count ≡ length l.read.entries;
  few : l.count ≤ l.frame.limit;
  fit : AllByRecursion (FitsRow l.frame.info) l.read.entries;
}
