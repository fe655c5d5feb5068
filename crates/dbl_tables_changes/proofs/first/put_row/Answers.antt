use Rattle.std.proofs.Common.{◌∙◌}
use Rattle.dbl_tables_changes.proofs.FirstLemmas.{row_had, row_put_at}
use Rattle.dbl_tables_changes.proofs.first.put_row.Goals as goal

pub returns-clause-had : goal.returns-clause-had
returns-clause-had c = c.has_row.ensures ∙ row_had c.args.slots.now c.args.key c.in_ok-old.old c.in_ok-old.ensures.old

pub returns-clause-put : goal.returns-clause-put
returns-clause-put c = row_put_at c.args.slots.now c.insert.new.self c.args.key c.args.row c.in_ok-old.ensures.updates
