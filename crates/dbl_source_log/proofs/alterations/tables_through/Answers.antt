use Rattle.std.proofs.Common.{arith}
use Rattle.dbl_source_log.proofs.AlterationLemmas.{through_step}
use Rattle.dbl_source_log.proofs.alterations.tables_through.Goals as goal

pub loop-entry-preserved : goal.loop-entry-preserved
loop-entry-preserved c =
    through_step c.args.log.now c.loop-entry.entry-index c.entry-item.result c.args.tables.now c.loop-entry.after.items c.in_ok-after-2.after.items c.loop-entry.invariant (omega (arith, c.loop-entry-test.true)) c.entry-item.is c.in_ok-after-2.ensures
