use Rattle.dblog_stores.specs.Compacting.{marked_lines}
use Rattle.dblog_stores.specs.declared.listing.Listing.TheVariants.{KeptRecords}
use Rattle.dblog_stores.specs.declared.error.CommandError.TheVariants.{Failed}
use Rattle.dblog_stores.specs.declared.error.Store.TheVariants.{Topics}
use Rattle.dblog_stores.proofs.Answering.{groups_refused, kept_printed}
use Rattle.dblog_stores.proofs.Kept.{keeps_ok, keeps_retold, keeps_then}
use Rattle.dblog_stores.proofs.Opened.{refusal_first}
use Rattle.dblog_stores.proofs.compacting.print_kept.Goals as goal

pub returns-in-Ok-clause-told : goal.returns-in-Ok-clause-told
returns-in-Ok-clause-told g c groups held =
    kept_printed c.args.placeholder.now groups c.in-Ok.marks c.print_marked.result _ _ (c.in-Ok.ensures.told groups held)
    (c.print_marked.ensures.told groups (c.in-Ok.ensures.holds groups held))

pub returns-in-Err-clause-told : goal.returns-in-Err-clause-told
returns-in-Err-clause-told g c groups held = groups_refused KeptRecords c.args.placeholder.now groups c.in-Err.error _ (c.in-Err.ensures.told groups held)

pub returns-in-Ok-clause-keeps : goal.returns-in-Ok-clause-keeps
returns-in-Ok-clause-keeps g c = keeps_then g.D.Disk _ _ _ _ (keeps_ok g.D.Disk _ _ _ (λ e. cc) c.in-Ok.ensures.keeps) c.print_marked.ensures.keeps

pub returns-in-Err-clause-keeps : goal.returns-in-Err-clause-keeps
returns-in-Err-clause-keeps g c = keeps_retold g.D.Disk (Failed Topics) c.in-Err.error _ _ c.in-Err.ensures.keeps

pub returns-in-Ok-clause-unwritten : goal.returns-in-Ok-clause-unwritten
returns-in-Ok-clause-unwritten g c groups held =
    refusal_first _ (marked_lines c.in-Ok.marks groups) c.print_marked.result _ _ (c.print_marked.ensures.told groups (c.in-Ok.ensures.holds groups held))
