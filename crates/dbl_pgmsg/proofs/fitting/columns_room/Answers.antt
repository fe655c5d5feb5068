use Rattle.std.proofs.Common.{ℕ, Option, length, subst}
use Rattle.dbl_pgmsg.specs.Grammar.{column, FitsColumn}
use Rattle.dbl_pgmsg.specs.Room.{Leaves}
use Rattle.dbl_pgmsg.proofs.Sizes.{room_starts, room_goes, room_ends, room_done}
use Rattle.dbl_pgmsg.proofs.fitting.columns_room.Goals as goal

pub loop-item-init : goal.loop-item-init
loop-item-init c = room_starts column FitsColumn c.args.room c.args.columns.now

pub loop-item-preserved : goal.loop-item-preserved
loop-item-preserved c =
    let x = c.item-item.result in
    let one = subst (λ (r : Option ℕ). Leaves c.loop-item.left (length (column x)) (FitsColumn x) r) c.in-Some.is c.column_room.ensures in
    room_goes column FitsColumn c.args.room c.loop-item.left c.in-Some.next c.args.columns.now c.loop-item.item-index x c.loop-item-test.true c.item-item.is one c.loop-item.invariant

pub returns-in-None : goal.returns-in-None
returns-in-None c =
    let x = c.item-item.result in
    let none = subst (λ (r : Option ℕ). Leaves c.loop-item.left (length (column x)) (FitsColumn x) r) c.in-None.is c.column_room.ensures in
    room_ends column FitsColumn c.args.room c.loop-item.left c.args.columns.now c.loop-item.item-index x c.loop-item-test.true c.item-item.is none c.loop-item.invariant

pub returns : goal.returns
returns c = room_done column FitsColumn c.args.room c.loop-item.left c.args.columns.now c.loop-item.item-index c.loop-item-test.false c.loop-item.invariant
