use Rattle.std.proofs.Math.Nat.{sub-zero}
use Rattle.std.proofs.lemmas.Result.{err_from_is_err_and}
use Rattle.std.specs.Int.{w32}
use Rattle.dbl_record.specs.GroupReading.{number_at, many_at}
use Rattle.dbl_record.proofs.Many.{starts, goes_on, ends, is_done}
use Rattle.dbl_offset_content.proofs.tables.read_each_place.Goals as goal

pub loop-init : goal.loop-init
loop-init c = rw (c.in_ok-places.ensures.items, sub-zero) (starts (number_at w32 0) c.args.count c.args.bytes.now)

pub returns-in_err-place : goal.returns-in_err-place
returns-in_err-place c =
    let p = err_from_is_err_and c.from_residual-in_err-place.result c.from_residual-in_err-place.ensures.1 in
    rw (p.1, p.2) (ends (number_at w32 0) c.in_err-place.field-0.0 c.loop.places.items c.args.count c.loop.counter c.loop.rest.now (many_at (number_at w32 0) c.args.count c.args.bytes.now) c.loop-test.true c.in_err-place.ensures.read c.loop.invariant)

pub loop-preserved : goal.loop-preserved
loop-preserved c = rw c.in_ok-push.ensures.items (goes_on (number_at w32 0) c.loop.places.items c.args.count c.loop.counter c.loop.rest.now c.in_ok-place.place c.in_ok-place.after.now (many_at (number_at w32 0) c.args.count c.args.bytes.now) c.loop-test.true c.in_ok-place.ensures.read c.loop.invariant)

pub returns : goal.returns
returns c = is_done (number_at w32 0) c.loop.places.items c.args.count c.loop.counter c.loop.rest.now (many_at (number_at w32 0) c.args.count c.args.bytes.now) c.loop-test.false c.loop.invariant
