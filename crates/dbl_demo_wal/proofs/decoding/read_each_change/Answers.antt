use Rattle.std.proofs.Math.Nat.{sub-zero}
use Rattle.std.proofs.lemmas.Result.{err_from_is_err_and}
use Rattle.dbl_record.specs.GroupReading.{many_at}
use Rattle.dbl_record.proofs.Many.{starts, goes_on, ends, is_done}
use Rattle.dbl_demo_wal.specs.Reading.{change_at}
use Rattle.dbl_demo_wal.proofs.decoding.read_each_change.Goals as goal

pub reading-init : goal.reading-init
reading-init c = rw (c.in_ok-messages.ensures.items, sub-zero) (starts change_at c.args.count c.args.bytes.now)

pub returns-in_err-message : goal.returns-in_err-message
returns-in_err-message c =
    let p = err_from_is_err_and c.from_residual-in_err-message.result c.from_residual-in_err-message.ensures.1 in
    rw (p.1, p.2) (ends change_at c.in_err-message.field-0.0 c.reading.messages.items c.args.count c.reading.counter c.reading.rest.now (many_at change_at c.args.count c.args.bytes.now) c.reading-test.true c.in_err-message.ensures c.reading.invariant)

pub reading-preserved : goal.reading-preserved
reading-preserved c = rw c.in_ok-push.ensures.items (goes_on change_at c.reading.messages.items c.args.count c.reading.counter c.reading.rest.now c.in_ok-message.message c.in_ok-message.after.now (many_at change_at c.args.count c.args.bytes.now) c.reading-test.true c.in_ok-message.ensures c.reading.invariant)

pub returns : goal.returns
returns c = is_done change_at c.reading.messages.items c.args.count c.reading.counter c.reading.rest.now (many_at change_at c.args.count c.args.bytes.now) c.reading-test.false c.reading.invariant
