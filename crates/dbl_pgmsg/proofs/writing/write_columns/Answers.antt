use Rattle.std.proofs.Common.{rules, ◌++◌}
use Rattle.std.specs.List.{flat_map}
use Rattle.dbl_pgmsg.specs.Room.{Begins}
use Rattle.dbl_pgmsg.specs.Grammar.{column}
use Rattle.dbl_pgmsg.proofs.Fronts.{begins_further, begins_through}
use Rattle.dbl_pgmsg.proofs.Sizes.{written_goes, written_done}
use Rattle.dbl_pgmsg.proofs.writing.write_columns.Goals as goal

pub loop-item-preserved : goal.loop-item-preserved
loop-item-preserved c = record {
  front = begins_further c.args.out.now.items c.loop-item.out.items (column c.item-item.result) c.write_column.new.out.items c.loop-item.invariant.front c.in_ok-write_column.ensures.written;
  equal = written_goes column c.loop-item.out.items c.write_column.new.out.items (c.args.out.now.items ++ flat_map column c.args.columns.now) c.args.columns.now c.loop-item.item-index c.item-item.result c.item-item.result c.loop-item-test.true c.item-item.is c.in_ok-write_column.ensures.written c.loop-item.invariant.equal;
}

pub returns-clause-written : goal.returns-clause-written
returns-clause-written c = written_done column c.loop-item.out.items (c.args.out.now.items ++ flat_map column c.args.columns.now) c.args.columns.now c.loop-item.item-index c.loop-item-test.false c.loop-item.invariant.equal

pub returns-in_err-write_column-clause-kept : goal.returns-in_err-write_column-clause-kept
returns-in_err-write_column-clause-kept c =
    let kept : Begins c.args.out.now.items c.write_column.new.out.items = begins_through c.args.out.now.items c.loop-item.out.items c.write_column.new.out.items c.loop-item.invariant.front c.in_err-write_column.ensures.kept in
    search rules
