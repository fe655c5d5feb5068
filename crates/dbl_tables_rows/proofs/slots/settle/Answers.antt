use Rattle.dbl_tables_rows.proofs.SlotLemmas.{settles_unseen}
use Rattle.dbl_tables_rows.proofs.slots.settle.Goals as goal

pub returns : goal.returns
returns c = settles_unseen c.args.key.now c.args.session.now c.args.slots.now c.settle_there.new.slots c.drop_if_empty.new.slots c.settle_there.ensures c.drop_if_empty.ensures
