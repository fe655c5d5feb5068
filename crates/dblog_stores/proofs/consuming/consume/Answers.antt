use Rattle.std.proofs.Common.{subst, inl, refl}
use Rattle.dblog_stores.specs.Consuming.{HasTakenRecords}
use Rattle.dblog_stores.proofs.Kept.{err_one, keeps_itself, keeps_never, keeps_ok}
use Rattle.dblog_stores.proofs.Consumed.{wanting_kind, wanting_outside, wanting_running}
use Rattle.dblog_stores.proofs.Opened.{memory_after}
use Rattle.dblog_stores.proofs.consuming.consume.Goals as goal

pub returns-in-Err-clause-told : goal.returns-in-Err-clause-told
returns-in-Err-clause-told g c groups held = inl tt

pub returns-in-Err-clause-keeps : goal.returns-in-Err-clause-keeps
returns-in-Err-clause-keeps g c = keeps_itself g.D.Disk _ c.args.log.now.disk (λ e. cc)

pub returns-in-Err-empty_consumer-clause-told : goal.returns-in-Err-empty_consumer-clause-told
returns-in-Err-empty_consumer-clause-told g c groups held = inl (wanting_outside c.in-Err-empty_consumer.error c.in-Err-empty_consumer.ensures.memory)

pub returns-in-Err-empty_consumer-clause-keeps : goal.returns-in-Err-empty_consumer-clause-keeps
returns-in-Err-empty_consumer-clause-keeps g c =
    keeps_itself g.D.Disk _ c.args.log.now.disk (λ e. wanting_running c.in-Err-empty_consumer.error c.in-Err-empty_consumer.ensures.memory (err_one c.in-Err-empty_consumer.error _ e))

pub returns-in-Err-empty_consumer-clause-kinds : goal.returns-in-Err-empty_consumer-clause-kinds
returns-in-Err-empty_consumer-clause-kinds g c = wanting_kind c.in-Err-empty_consumer.error c.in-Err-empty_consumer.ensures.memory

pub returns-in-Ok-take_groups-clause-told : goal.returns-in-Ok-take_groups-clause-told
returns-in-Ok-take_groups-clause-told g c groups held =
    subst (λ p. HasTakenRecords p groups c.take_groups.new.held) c.in-Ok-empty_consumer.ensures.placeholder (c.in-Ok-take_groups.ensures.told groups held)

pub returns-in-Ok-take_groups-clause-keeps : goal.returns-in-Ok-take_groups-clause-keeps
returns-in-Ok-take_groups-clause-keeps g c =
    keeps_never g.D.Disk _ _ _ (λ e. cc) (keeps_ok g.D.Disk _ _ _ (λ e. cc) c.in-Ok-take_groups.ensures.keeps)

pub returns-in-Err-clause-a_store : goal.returns-in-Err-clause-a_store
returns-in-Err-clause-a_store g c = memory_after _ refl

pub returns-in-Err-empty_consumer-clause-a_store : goal.returns-in-Err-empty_consumer-clause-a_store
returns-in-Err-empty_consumer-clause-a_store g c = memory_after c.in-Err-empty_consumer.error c.in-Err-empty_consumer.ensures.memory
