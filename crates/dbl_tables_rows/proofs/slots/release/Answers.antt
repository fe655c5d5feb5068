use Rattle.dbl_tables_rows.proofs.SlotLemmas.{releases_unseen}
use Rattle.dbl_tables_rows.proofs.slots.release.Goals as goal

pub returns : goal.returns
returns c = releases_unseen c.args.key.now c.args.session.now c.args.slots.now c.release_there.new.slots c.drop_if_empty.new.slots c.release_there.ensures c.drop_if_empty.ensures
