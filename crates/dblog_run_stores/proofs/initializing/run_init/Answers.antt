use Rattle.dbl_base.specs.Streams.{FaultCounted}
use Rattle.dblog_init.specs.declared.error.Store.TheVariants.{Wal, Topics, Offsets}
use Rattle.dblog_run_stores.proofs.InitEndLemmas.{answered_whole, full_end, init_left, input_end, made_end, untouched}
use Rattle.dblog_run_stores.proofs.InitLemmas.{init_known, init_run}
use Rattle.dblog_run_stores.proofs.initializing.run_init.Goals as goal

pub returns-clause-told : goal.returns-clause-told
returns-clause-told g c = λ given input wal topics offsets.
    let begun = c.init-begun.result in
    init_run given (FaultCounted (g.T.Disk.faults c.args.disks.topics) (g.T.Disk.faults begun.disks.topics)) (FaultCounted (g.F.Disk.faults c.args.disks.offsets) (g.F.Disk.faults begun.disks.offsets)) _ _ _ _ c.finish_init.result _ _ begun.end
    c.init-begun.ensures.input_failed c.init-begun.ensures.wal_leaves.cause c.init-begun.ensures.topics_leaves.cause c.init-begun.ensures.offsets_leaves.cause
    (c.init-begun.ensures.told given input wal topics offsets) c.finish_init.ensures.finishes

pub returns-clause-known : goal.returns-clause-known
returns-clause-known g c = init_known c.init-begun.result.end c.finish_init.result _ _ c.finish_init.ensures.finishes

pub returns-clause-whole : goal.returns-clause-whole
returns-clause-whole g c = λ bytes told is.
    answered_whole c.init-begun.result.end c.finish_init.result _ _ c.finish_init.ensures.finishes bytes _ is (c.init-begun.ensures.whole bytes told) (c.init-begun.ensures.input_told bytes told)

pub returns-clause-unread : goal.returns-clause-unread
returns-clause-unread g c = λ is. c.init-begun.ensures.unread (full_end c.init-begun.result.end c.finish_init.result _ _ c.finish_init.ensures.finishes is)

pub returns-clause-wal_made : goal.returns-clause-wal_made
returns-clause-wal_made g c = λ bytes before left told. made_end c.init-begun.result.end c.finish_init.result _ _ c.finish_init.ensures.finishes _ (c.init-begun.ensures.wal_made bytes before left told)

pub returns-clause-topics_made : goal.returns-clause-topics_made
returns-clause-topics_made g c = λ before told. made_end c.init-begun.result.end c.finish_init.result _ _ c.finish_init.ensures.finishes _ (c.init-begun.ensures.topics_made before told)

pub returns-clause-offsets_made : goal.returns-clause-offsets_made
returns-clause-offsets_made g c = λ before told. made_end c.init-begun.result.end c.finish_init.result _ _ c.finish_init.ensures.finishes _ (c.init-begun.ensures.offsets_made before told)

pub returns-clause-full_stay : goal.returns-clause-full_stay
returns-clause-full_stay g c = λ held.
    let stay = c.init-begun.ensures.unwritten held in
    (untouched g.W.Disk Wal _ _ _ stay.0, (untouched g.T.Disk Topics _ _ _ stay.1.0, untouched g.F.Disk Offsets _ _ _ stay.1.1))

pub returns-clause-wal_left : goal.returns-clause-wal_left
returns-clause-wal_left g c = init_left c.init-begun.result.end c.finish_init.result _ _ c.finish_init.ensures.finishes g.W.Disk Wal _ _ c.init-begun.ensures.wal_asked c.init-begun.ensures.wal_leaves

pub returns-clause-topics_left : goal.returns-clause-topics_left
returns-clause-topics_left g c = init_left c.init-begun.result.end c.finish_init.result _ _ c.finish_init.ensures.finishes g.T.Disk Topics _ _ c.init-begun.ensures.topics_asked c.init-begun.ensures.topics_leaves

pub returns-clause-offsets_left : goal.returns-clause-offsets_left
returns-clause-offsets_left g c = init_left c.init-begun.result.end c.finish_init.result _ _ c.finish_init.ensures.finishes g.F.Disk Offsets _ _ c.init-begun.ensures.offsets_asked c.init-begun.ensures.offsets_leaves

pub returns-clause-input_failed : goal.returns-clause-input_failed
returns-clause-input_failed g c = λ is. c.init-begun.ensures.input_failed (input_end c.init-begun.result.end c.finish_init.result _ _ c.finish_init.ensures.finishes is)
