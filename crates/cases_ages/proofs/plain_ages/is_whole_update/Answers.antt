use Rattle.cases_ages.proofs.PlainAgeLemmas.{given_tested, whole_there, whole_away}
use Rattle.cases_ages.proofs.plain_ages.is_whole_update.Goals as goal

pub returns-then-stays : goal.returns-then-stays
returns-then-stays c =
    whole_there c.args.infos.now.items c.args.table c.args.from.now c.args.cells.now c.args.key.now c.in_ok-row.row c.in_ok-stays.stays c.are_sent.result
    c.in_ok-row.ensures c.in_ok-stays.ensures c.if-stays.true (given_tested c.args.cells.now c.are_sent.result c.are_sent.ensures)

pub returns : goal.returns
returns c =
    whole_away c.args.infos.now.items c.args.table c.args.from.now c.args.cells.now c.args.key.now c.in_ok-row.row c.in_ok-stays.stays c.is_same.result
    c.in_ok-row.ensures c.in_ok-stays.ensures c.if-stays.false c.is_same.ensures
