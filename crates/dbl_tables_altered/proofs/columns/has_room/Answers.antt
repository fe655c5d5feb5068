use Rattle.std.proofs.Common.{◌≡◌, ◌<◌, ◌≤◌, length, ap, arith}
use Rattle.dbl_tables_altered.proofs.ColumnLemmas.{no_room, room_by}
use Rattle.dbl_tables_altered.proofs.columns.has_room.Goals as goal

pub returns-then-len-ge-COLUMN_LIMIT : goal.returns-then-len-ge-COLUMN_LIMIT
returns-then-len-ge-COLUMN_LIMIT c =
    let many : 1600 ≤ length c.args.info.now.columns = grind (arith, ap length c.items.ensures) in
    no_room c.args.info.now c.args.column.now c.args.text.now many

pub returns : goal.returns
returns c =
    let few : length c.args.info.now.columns < 1600 = grind (arith, ap length c.items.ensures) in
    room_by c.args.info.now c.args.column.now c.args.text.now c.type_of.result c.spells.result few c.type_of.ensures c.spells.ensures
