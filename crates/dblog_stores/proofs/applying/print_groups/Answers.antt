use Rattle.dbl_consume.specs.Holdings.{placeholder_of}
use Rattle.dbl_record.specs.Cuts.{joined}
use Rattle.dblog_stores.specs.Consuming.{readings_of}
use Rattle.dblog_stores.specs.declared.listing.Listing.TheVariants.{Rows}
use Rattle.dblog_stores.specs.declared.error.CommandError.TheVariants.{Failed}
use Rattle.dblog_stores.specs.declared.error.Store.TheVariants.{Topics}
use Rattle.dblog_stores.proofs.Answering.{groups_printed, groups_refused}
use Rattle.dblog_stores.proofs.Kept.{keeps_retold}
use Rattle.dblog_stores.proofs.applying.print_groups.Goals as goal

pub returns-in-Ok-clause-told : goal.returns-in-Ok-clause-told
returns-in-Ok-clause-told g c groups held =
    let all = c.in-Ok.ensures.told groups held in
    groups_printed c.args.placeholder.now (placeholder_of c.in-Ok.held) groups c.print_rows.result _ _ all.none all.same (c.print_rows.ensures.told (readings_of (joined groups)) all.took)

pub returns-in-Err-clause-told : goal.returns-in-Err-clause-told
returns-in-Err-clause-told g c groups held = groups_refused Rows c.args.placeholder.now groups c.in-Err.error _ (c.in-Err.ensures.told groups held)

pub returns-in-Err-clause-keeps : goal.returns-in-Err-clause-keeps
returns-in-Err-clause-keeps g c = keeps_retold g.D.Disk (Failed Topics) c.in-Err.error _ _ c.in-Err.ensures.keeps
