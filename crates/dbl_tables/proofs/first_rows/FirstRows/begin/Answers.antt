use Rattle.dbl_tables.proofs.FirstLemmas.{begins_first}
use Rattle.dbl_tables.proofs.first_rows.FirstRows.begin.Goals as goal

pub returns : goal.returns
returns c tables st = begins_first tables (record { store = c.args.store; messages = c.new-messages.result; size = c.empty_size.result }) st c.new-messages.ensures.items c.empty_size.ensures
