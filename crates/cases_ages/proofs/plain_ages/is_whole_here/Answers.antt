use Rattle.cases_ages.proofs.PlainAgeLemmas.{whole_delete}
use Rattle.cases_ages.proofs.plain_ages.is_whole_here.Goals as goal

pub returns-in-Delete : goal.returns-in-Delete
returns-in-Delete c = whole_delete c.args.infos.now.items c.args.change.now c.in-Delete.table c.in-Delete.from c.in-Delete.old c.args.key.now c.is_same.result c.in-Delete.is c.is_same.ensures
