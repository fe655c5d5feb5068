use Rattle.dbl_topic.specs.SinkLaws.{log_of}
use Rattle.dbl_offset.proofs.StoreLaws.{store_of}
use Rattle.dblog_stores.proofs.laws.held_stores_are_read.Goals as goal

pub returns : goal.returns
returns g c log store groups offset held holds =
    let stores = store_of g.F.Disk store offset holds in
    (held.lists.bytes, stores.bytes, held.lists.told, stores.told, record { log = log_of g.T.Disk log groups held; store = stores.is })
