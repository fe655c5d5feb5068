use Rattle.std.proofs.Common.{ℕ, Option, length, subst}
use Rattle.dbl_pgmsg.specs.Grammar.{cell, FitsCell}
use Rattle.dbl_pgmsg.specs.Room.{Leaves}
use Rattle.dbl_pgmsg.proofs.Sizes.{room_starts, room_goes, room_ends, room_done}
use Rattle.dbl_pgmsg.proofs.fitting.cells_room.Goals as goal

pub loop-item-init : goal.loop-item-init
loop-item-init c = room_starts cell FitsCell c.args.room c.args.cells.now

pub loop-item-preserved : goal.loop-item-preserved
loop-item-preserved c =
    let x = c.item-item.result in
    let one = subst (λ (r : Option ℕ). Leaves c.loop-item.left (length (cell x)) (FitsCell x) r) c.in-Some.is c.cell_room.ensures in
    room_goes cell FitsCell c.args.room c.loop-item.left c.in-Some.next c.args.cells.now c.loop-item.item-index x c.loop-item-test.true c.item-item.is one c.loop-item.invariant

pub returns-in-None : goal.returns-in-None
returns-in-None c =
    let x = c.item-item.result in
    let none = subst (λ (r : Option ℕ). Leaves c.loop-item.left (length (cell x)) (FitsCell x) r) c.in-None.is c.cell_room.ensures in
    room_ends cell FitsCell c.args.room c.loop-item.left c.args.cells.now c.loop-item.item-index x c.loop-item-test.true c.item-item.is none c.loop-item.invariant

pub returns : goal.returns
returns c = room_done cell FitsCell c.args.room c.loop-item.left c.args.cells.now c.loop-item.item-index c.loop-item-test.false c.loop-item.invariant
