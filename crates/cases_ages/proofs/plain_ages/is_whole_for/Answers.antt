use Rattle.std.proofs.lemmas.Result.{IfOk-weaker}
use Rattle.cases_ages.proofs.PlainAgeLemmas.{fails, whole_here, whole_nowhere}
use Rattle.cases_ages.proofs.plain_ages.is_whole_for.Goals as goal

pub returns-then-own-table : goal.returns-then-own-table
returns-then-own-table c =
    IfOk-weaker c.is_whole_here.result _ _
    (λ whole d. whole_here c.args.infos.now.items c.args.change.now c.table-own.result c.args.table c.args.key.now whole c.table-own.ensures c.if-own-table.true d)
    c.is_whole_here.ensures

pub returns : goal.returns
returns c = fails (whole_nowhere c.args.infos.now.items c.args.change.now c.table-own.result c.args.table c.args.key.now c.table-own.ensures c.if-own-table.false)
