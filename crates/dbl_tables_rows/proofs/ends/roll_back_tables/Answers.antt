use Rattle.dbl_tables_rows.proofs.EndKeys.{rolls_all_back}
use Rattle.dbl_tables_rows.proofs.ends.roll_back_tables.Goals as goal

pub returns : goal.returns
returns c = rolls_all_back c.args.session.now c.args.keys.now c.args.tables.now.items c.undo_tables.new.tables.items c.release_keys.new.tables.items c.undo_tables.ensures c.release_keys.ensures
