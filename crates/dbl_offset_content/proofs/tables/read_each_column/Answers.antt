use Rattle.std.proofs.Math.Nat.{sub-zero}
use Rattle.std.proofs.lemmas.Result.{err_from_is_err_and}
use Rattle.dbl_record.specs.GroupReading.{many_at}
use Rattle.dbl_offset_content.specs.Reading.{offset_column_at}
use Rattle.dbl_record.proofs.Many.{starts, goes_on, ends, is_done}
use Rattle.dbl_offset_content.proofs.tables.read_each_column.Goals as goal

pub loop-init : goal.loop-init
loop-init c = rw (c.in_ok-columns.ensures.items, sub-zero) (starts offset_column_at c.args.count c.args.bytes.now)

pub returns-in_err-column : goal.returns-in_err-column
returns-in_err-column c =
    let p = err_from_is_err_and c.from_residual-in_err-column.result c.from_residual-in_err-column.ensures.1 in
    rw (p.1, p.2) (ends offset_column_at c.in_err-column.field-0.0 c.loop.columns.items c.args.count c.loop.counter c.loop.rest.now (many_at offset_column_at c.args.count c.args.bytes.now) c.loop-test.true c.in_err-column.ensures c.loop.invariant)

pub loop-preserved : goal.loop-preserved
loop-preserved c = rw c.in_ok-push.ensures.items (goes_on offset_column_at c.loop.columns.items c.args.count c.loop.counter c.loop.rest.now c.in_ok-column.column c.in_ok-column.after.now (many_at offset_column_at c.args.count c.args.bytes.now) c.loop-test.true c.in_ok-column.ensures c.loop.invariant)

pub returns : goal.returns
returns c = is_done offset_column_at c.loop.columns.items c.args.count c.loop.counter c.loop.rest.now (many_at offset_column_at c.args.count c.args.bytes.now) c.loop-test.false c.loop.invariant
