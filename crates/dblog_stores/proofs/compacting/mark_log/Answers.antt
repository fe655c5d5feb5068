use Rattle.std.proofs.Common.{◌≡◌, inl, inr}
use Rattle.dblog_stores.specs.declared.error.CommandError.TheVariants.{Failed}
use Rattle.dblog_stores.specs.declared.error.Store.TheVariants.{Topics}
use Rattle.dblog_stores.proofs.Consumed.{wanting_kind, wanting_outside, wanting_running}
use Rattle.dblog_stores.proofs.Kept.{err_one, keeps_itself, keeps_never, keeps_ok, keeps_retold}
use Rattle.dblog_stores.proofs.Marked.{all_marked, one_refused}
use Rattle.dblog_stores.proofs.Opened.{memory_after}
use Rattle.dblog_stores.proofs.compacting.mark_log.Goals as goal

pub returns-in-Err-clause-told : goal.returns-in-Err-clause-told
returns-in-Err-clause-told g c groups held = inl (wanting_outside c.in-Err.error c.in-Err.ensures.memory)

pub returns-in-Err-clause-kinds : goal.returns-in-Err-clause-kinds
returns-in-Err-clause-kinds g c = wanting_kind c.in-Err.error c.in-Err.ensures.memory

pub returns-in-Err-clause-a_store : goal.returns-in-Err-clause-a_store
returns-in-Err-clause-a_store g c = memory_after c.in-Err.error c.in-Err.ensures.memory

pub returns-in-Err-clause-keeps : goal.returns-in-Err-clause-keeps
returns-in-Err-clause-keeps g c = keeps_itself g.D.Disk _ c.args.log.now.disk (λ e. wanting_running c.in-Err.error c.in-Err.ensures.memory (err_one c.in-Err.error _ e))

pub returns-in-Err-mark_groups-clause-told : goal.returns-in-Err-mark_groups-clause-told
returns-in-Err-mark_groups-clause-told g c groups held = inl (c.in-Err-mark_groups.ensures.outside groups held)
