use Rattle.dbl_tables_rows.proofs.EndKeys.{commits_all}
use Rattle.dbl_tables_rows.proofs.ends.commit_tables.Goals as goal

pub returns : goal.returns
returns c = commits_all c.args.session.now c.args.keys.now c.args.tables.now.items c.end_tables.new.tables.items c.settle_keys.new.tables.items c.end_tables.ensures c.settle_keys.ensures
