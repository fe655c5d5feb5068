use Rattle.dbl_base.specs.Streams.{FaultCounted}
use Rattle.dblog_run_stores.proofs.DiskLemmas.{only_read}
use Rattle.dblog_run_stores.proofs.FinishLemmas.{fails_nine, finished_output, nine_fails, offsets_known, offsets_no_input, opened_offsets}
use Rattle.dblog_run_stores.proofs.StoreRunLemmas.{offsets_run}
use Rattle.dblog_run_stores.proofs.stores.run_offsets.Goals as goal

pub returns-clause-told : goal.returns-clause-told
returns-clause-told g c = λ bytes told.
    let ended = c.print_offset-ended.result in
    offsets_run bytes (FaultCounted (g.F.Disk.faults c.args.disks.offsets) (g.F.Disk.faults ended.disk)) ended.end c.finish.result _ _ _ c.print_offset-ended.ensures.kinds c.print_offset-ended.ensures.keeps.cause (c.print_offset-ended.ensures.told bytes told) c.finish.ensures.finishes

pub returns-clause-known : goal.returns-clause-known
returns-clause-known g c = offsets_known c.print_offset-ended.result.end c.finish.result _ _ c.print_offset-ended.ensures.kinds c.finish.ensures.finishes

pub returns-clause-offsets_read : goal.returns-clause-offsets_read
returns-clause-offsets_read g c =
    only_read g.F.Disk _ _ _ _ _ (nine_fails c.print_offset-ended.result.end c.finish.result _ _ c.finish.ensures.finishes) (fails_nine c.print_offset-ended.result.end c.finish.result _ _ c.finish.ensures.finishes) c.print_offset-ended.ensures.keeps

pub returns-clause-not_input : goal.returns-clause-not_input
returns-clause-not_input g c = offsets_no_input c.finish.result (offsets_known c.print_offset-ended.result.end c.finish.result _ _ c.print_offset-ended.ensures.kinds c.finish.ensures.finishes)

pub returns-clause-output_failed : goal.returns-clause-output_failed
returns-clause-output_failed g c = λ is.
    finished_output c.print_offset-ended.result.end _ _ _ c.print_offset-ended.ensures.output.cause c.print_offset-ended.ensures.output.later c.finish.ensures.later (c.finish.ensures.output_failed is)

pub returns-clause-offsets_synced : goal.returns-clause-offsets_synced
returns-clause-offsets_synced g c = λ opened. c.print_offset-ended.ensures.stable (opened_offsets c.print_offset-ended.result.end c.finish.result _ _ c.finish.ensures.finishes opened)
