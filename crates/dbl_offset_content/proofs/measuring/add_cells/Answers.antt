use Rattle.dbl_offset_content.specs.Entries.{cell, FitsKeyCell}
use Rattle.dbl_offset_content.proofs.Sizes.{sum_goes, sum_done}
use Rattle.dbl_offset_content.proofs.measuring.add_cells.Goals as goal

pub loop-value-preserved : goal.loop-value-preserved
loop-value-preserved c = record {
  sum = sum_goes cell FitsKeyCell c.args.before c.loop-value.total c.add_cell-total.result c.args.cells.now c.loop-value.value-index c.value-item.result c.value-item.result c.loop-value-test.true c.value-item.is c.add_cell-total.ensures c.loop-value.invariant.sum;
  small = c.add_cell-total.type_inv;
}

pub returns : goal.returns
returns c = sum_done cell FitsKeyCell c.args.before c.loop-value.total c.args.cells.now c.loop-value.value-index c.loop-value-test.false c.loop-value.invariant.small c.loop-value.invariant.sum
