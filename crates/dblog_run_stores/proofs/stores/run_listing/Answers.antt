use Rattle.std.proofs.Common.{inl, inr}
use Rattle.dbl_base.specs.Streams.{FaultCounted}
use Rattle.dblog_run_stores.proofs.DiskLemmas.{only_read}
use Rattle.dblog_run_stores.proofs.FinishLemmas.{eight_fails, fails_eight, fails_nine, finished_output, nine_fails, opened_rows, opened_topics, rows_no_input, rows_status}
use Rattle.dblog_run_stores.proofs.StoreRunLemmas.{apply_run}
use Rattle.dblog_run_stores.proofs.stores.run_listing.Goals as goal

pub returns-clause-told : goal.returns-clause-told
returns-clause-told g c = λ t f told other.
    let applied = c.print_listing-applied.result in
    apply_run c.args.listing t f (FaultCounted (g.T.Disk.faults c.args.disks.topics) (g.T.Disk.faults applied.topics)) (FaultCounted (g.F.Disk.faults c.args.disks.offsets) (g.F.Disk.faults applied.offsets)) applied.end c.finish.result _ _ _ c.print_listing-applied.ensures.keeps_topics.cause c.print_listing-applied.ensures.keeps_offsets.cause (elim other [ inl none ↦ c.print_listing-applied.ensures.no_log t f told none | inr is ↦ c.print_listing-applied.ensures.told t f told is ]) c.finish.ensures.finishes

pub returns-clause-known : goal.returns-clause-known
returns-clause-known g c = rows_status c.print_listing-applied.result.end c.finish.result _ _ c.finish.ensures.finishes

pub returns-clause-topics_read : goal.returns-clause-topics_read
returns-clause-topics_read g c =
    only_read g.T.Disk _ _ _ _ _ (eight_fails c.print_listing-applied.result.end c.finish.result _ _ c.finish.ensures.finishes) (fails_eight c.print_listing-applied.result.end c.finish.result _ _ c.finish.ensures.finishes) c.print_listing-applied.ensures.keeps_topics

pub returns-clause-offsets_read : goal.returns-clause-offsets_read
returns-clause-offsets_read g c =
    only_read g.F.Disk _ _ _ _ _ (nine_fails c.print_listing-applied.result.end c.finish.result _ _ c.finish.ensures.finishes) (fails_nine c.print_listing-applied.result.end c.finish.result _ _ c.finish.ensures.finishes) c.print_listing-applied.ensures.keeps_offsets

pub returns-clause-unopened : goal.returns-clause-unopened
returns-clause-unopened g c = c.print_listing-applied.ensures.unopened

pub returns-clause-not_input : goal.returns-clause-not_input
returns-clause-not_input g c = rows_no_input c.finish.result (rows_status c.print_listing-applied.result.end c.finish.result _ _ c.finish.ensures.finishes)

pub returns-clause-output_failed : goal.returns-clause-output_failed
returns-clause-output_failed g c = λ is.
    finished_output c.print_listing-applied.result.end _ _ _ c.print_listing-applied.ensures.output.cause c.print_listing-applied.ensures.output.later c.finish.ensures.later (c.finish.ensures.output_failed is)

pub returns-clause-topics_synced : goal.returns-clause-topics_synced
returns-clause-topics_synced g c = λ opened. c.print_listing-applied.ensures.topics_stable (opened_topics c.print_listing-applied.result.end c.finish.result _ _ c.finish.ensures.finishes opened)

pub returns-clause-offsets_synced : goal.returns-clause-offsets_synced
returns-clause-offsets_synced g c = λ told. c.print_listing-applied.ensures.offsets_stable (opened_rows c.print_listing-applied.result.end c.finish.result _ _ c.finish.ensures.finishes told)
