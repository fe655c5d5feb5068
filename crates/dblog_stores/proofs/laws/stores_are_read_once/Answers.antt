use Rattle.dblog_stores.proofs.OnceLaws.{stores_once}
use Rattle.dblog_stores.proofs.laws.stores_are_read_once.Goals as goal

pub returns : goal.returns
returns c = stores_once
