use Rattle.dbl_offset_content.specs.Entries.{column, FitsTableColumn}
use Rattle.dbl_offset_content.proofs.Sizes.{sum_goes, sum_done}
use Rattle.dbl_offset_content.proofs.measuring.add_columns.Goals as goal

pub loop-item-preserved : goal.loop-item-preserved
loop-item-preserved c = record {
  sum = sum_goes column FitsTableColumn c.args.before c.loop-item.total c.add_column-total.result c.args.columns.now c.loop-item.item-index c.item-item.result c.item-item.result c.loop-item-test.true c.item-item.is c.add_column-total.ensures c.loop-item.invariant.sum;
  small = c.add_column-total.type_inv;
}

pub returns : goal.returns
returns c = sum_done column FitsTableColumn c.args.before c.loop-item.total c.args.columns.now c.loop-item.item-index c.loop-item-test.false c.loop-item.invariant.small c.loop-item.invariant.sum
