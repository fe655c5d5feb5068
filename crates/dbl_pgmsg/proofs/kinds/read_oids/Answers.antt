use Rattle.std.specs.Int.{w32}
use Rattle.std.proofs.Math.Nat.{sub-zero}
use Rattle.std.proofs.lemmas.Result.{err_from_is_err_and}
use Rattle.dbl_pgmsg.specs.Reading.{number_at, many_at}
use Rattle.dbl_pgmsg.proofs.Many.{starts, goes_on, ends, is_done}
use Rattle.dbl_pgmsg.proofs.kinds.read_oids.Goals as goal

pub loop-init : goal.loop-init
loop-init c = rw (c.in_ok-oids.ensures.items, sub-zero) (starts (number_at w32 c.args.total) c.args.count c.args.bytes.now)

pub returns-in_err-oid : goal.returns-in_err-oid
returns-in_err-oid c =
    let p = err_from_is_err_and c.from_residual-in_err-oid.result c.from_residual-in_err-oid.ensures.1 in
    rw (p.1, p.2) (ends (number_at w32 c.args.total) c.in_err-oid.field-0.0 c.loop.oids.items c.args.count c.loop.counter c.loop.rest.now (many_at (number_at w32 c.args.total) c.args.count c.args.bytes.now) c.loop-test.true c.in_err-oid.ensures c.loop.invariant)

pub loop-preserved : goal.loop-preserved
loop-preserved c = rw c.in_ok-push.ensures.items (goes_on (number_at w32 c.args.total) c.loop.oids.items c.args.count c.loop.counter c.loop.rest.now c.in_ok-oid.oid c.in_ok-oid.after.now (many_at (number_at w32 c.args.total) c.args.count c.args.bytes.now) c.loop-test.true c.in_ok-oid.ensures c.loop.invariant)

pub returns : goal.returns
returns c = is_done (number_at w32 c.args.total) c.loop.oids.items c.args.count c.loop.counter c.loop.rest.now (many_at (number_at w32 c.args.total) c.args.count c.args.bytes.now) c.loop-test.false c.loop.invariant
