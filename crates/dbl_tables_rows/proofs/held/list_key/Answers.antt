use Rattle.dbl_tables_rows.proofs.RowLemmas.{listed_last}
use Rattle.dbl_tables_rows.proofs.held.list_key.Goals as goal

pub returns-clause-listed : goal.returns-clause-listed
returns-clause-listed c = listed_last c.args.keys.now.items c.push.new.self.items c.args.table c.args.key.now c.in_ok-key.key c.in_ok-key.ensures c.in_ok-push.ensures.items
