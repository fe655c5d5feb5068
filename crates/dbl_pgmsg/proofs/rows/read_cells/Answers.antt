use Rattle.std.proofs.Math.Nat.{sub-zero}
use Rattle.std.proofs.lemmas.Result.{err_from_is_err_and}
use Rattle.dbl_pgmsg.specs.Reading.{cell_at, many_at}
use Rattle.dbl_pgmsg.proofs.Many.{starts, goes_on, ends, is_done}
use Rattle.dbl_pgmsg.proofs.rows.read_cells.Goals as goal

pub loop-init : goal.loop-init
loop-init c = rw (c.in_ok-cells.ensures.items, sub-zero) (starts (cell_at c.args.total) c.args.count c.args.bytes.now)

pub returns-in_err-cell : goal.returns-in_err-cell
returns-in_err-cell c =
    let p = err_from_is_err_and c.from_residual-in_err-cell.result c.from_residual-in_err-cell.ensures.1 in
    rw (p.1, p.2) (ends (cell_at c.args.total) c.in_err-cell.field-0.0 c.loop.cells.items c.args.count c.loop.counter c.loop.rest.now (many_at (cell_at c.args.total) c.args.count c.args.bytes.now) c.loop-test.true c.in_err-cell.ensures c.loop.invariant)

pub loop-preserved : goal.loop-preserved
loop-preserved c = rw c.in_ok-push.ensures.items (goes_on (cell_at c.args.total) c.loop.cells.items c.args.count c.loop.counter c.loop.rest.now c.in_ok-cell.cell c.in_ok-cell.after.now (many_at (cell_at c.args.total) c.args.count c.args.bytes.now) c.loop-test.true c.in_ok-cell.ensures c.loop.invariant)

pub returns : goal.returns
returns c = is_done (cell_at c.args.total) c.loop.cells.items c.args.count c.loop.counter c.loop.rest.now (many_at (cell_at c.args.total) c.args.count c.args.bytes.now) c.loop-test.false c.loop.invariant
