use Rattle.dbl_base.specs.Streams.{FaultCounted}
use Rattle.dblog_run_stores.proofs.DiskLemmas.{only_read}
use Rattle.dblog_run_stores.proofs.FinishLemmas.{eight_fails, fails_eight, finished_output, opened_topics, topics_known, topics_no_input}
use Rattle.dblog_run_stores.proofs.StoreRunLemmas.{topics_run}
use Rattle.dblog_run_stores.proofs.stores.run_topics.Goals as goal

pub returns-clause-told : goal.returns-clause-told
returns-clause-told g c = λ bytes told.
    let ended = c.print_topics-ended.result in
    topics_run bytes (FaultCounted (g.T.Disk.faults c.args.disks.topics) (g.T.Disk.faults ended.disk)) ended.end c.finish.result _ _ _ c.print_topics-ended.ensures.kinds c.print_topics-ended.ensures.keeps.cause (c.print_topics-ended.ensures.told bytes told) c.finish.ensures.finishes

pub returns-clause-known : goal.returns-clause-known
returns-clause-known g c = topics_known c.print_topics-ended.result.end c.finish.result _ _ c.print_topics-ended.ensures.kinds c.finish.ensures.finishes

pub returns-clause-topics_read : goal.returns-clause-topics_read
returns-clause-topics_read g c =
    only_read g.T.Disk _ _ _ _ _ (eight_fails c.print_topics-ended.result.end c.finish.result _ _ c.finish.ensures.finishes) (fails_eight c.print_topics-ended.result.end c.finish.result _ _ c.finish.ensures.finishes) c.print_topics-ended.ensures.keeps

pub returns-clause-not_input : goal.returns-clause-not_input
returns-clause-not_input g c = topics_no_input c.finish.result (topics_known c.print_topics-ended.result.end c.finish.result _ _ c.print_topics-ended.ensures.kinds c.finish.ensures.finishes)

pub returns-clause-output_failed : goal.returns-clause-output_failed
returns-clause-output_failed g c = λ is.
    finished_output c.print_topics-ended.result.end _ _ _ c.print_topics-ended.ensures.output.cause c.print_topics-ended.ensures.output.later c.finish.ensures.later (c.finish.ensures.output_failed is)

pub returns-clause-topics_synced : goal.returns-clause-topics_synced
returns-clause-topics_synced g c = λ opened. c.print_topics-ended.ensures.stable (opened_topics c.print_topics-ended.result.end c.finish.result _ _ c.finish.ensures.finishes opened)
