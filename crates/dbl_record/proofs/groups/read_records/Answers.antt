use Rattle.std.proofs.Math.Nat.{sub-zero}
use Rattle.std.proofs.lemmas.Result.{err_from_is_err_and}
use Rattle.dbl_record.specs.GroupReading.{record_at, many_at}
use Rattle.dbl_record.proofs.Many.{starts, goes_on, ends, is_done}
use Rattle.dbl_record.proofs.groups.read_records.Goals as goal

pub reading-init : goal.reading-init
reading-init c = rw (c.in_ok-records.ensures.items, sub-zero) (starts (record_at c.args.total) c.args.count c.args.bytes.now)

pub returns-in_err-item : goal.returns-in_err-item
returns-in_err-item c =
    let p = err_from_is_err_and c.from_residual-in_err-item.result c.from_residual-in_err-item.ensures.1 in
    rw (p.1, p.2) (ends (record_at c.args.total) c.in_err-item.field-0.0 c.reading.records.items c.args.count c.reading.counter c.reading.rest.now (many_at (record_at c.args.total) c.args.count c.args.bytes.now) c.reading-test.true c.in_err-item.ensures c.reading.invariant)

pub reading-preserved : goal.reading-preserved
reading-preserved c = rw c.in_ok-push.ensures.items (goes_on (record_at c.args.total) c.reading.records.items c.args.count c.reading.counter c.reading.rest.now c.in_ok-item.item c.in_ok-item.after.now (many_at (record_at c.args.total) c.args.count c.args.bytes.now) c.reading-test.true c.in_ok-item.ensures c.reading.invariant)

pub returns : goal.returns
returns c = is_done (record_at c.args.total) c.reading.records.items c.args.count c.reading.counter c.reading.rest.now (many_at (record_at c.args.total) c.args.count c.args.bytes.now) c.reading-test.false c.reading.invariant
