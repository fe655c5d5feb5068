use Rattle.std.proofs.Common.{ap}
use Rattle.dbl_topic.specs.declared.error.TopicError.{TopicError}
use Rattle.dblog_stores.specs.declared.error.CommandError.TheVariants.{Failed}
use Rattle.dblog_stores.specs.declared.error.Store.TheVariants.{Topics}
use Rattle.dblog_stores.proofs.ErrorLaws.{group_cut, topic_failed, topic_kind, topic_tells}
use Rattle.dblog_stores.proofs.Kept.{err_one, failed_with, keeps_failed, keeps_never, keeps_read, keeps_told}
use Rattle.dblog_stores.proofs.Opened.{group_after}
use Rattle.dblog_stores.proofs.opening.read_group.Goals as goal

pub returns-in-Err-clause-cut : goal.returns-in-Err-clause-cut
returns-in-Err-clause-cut g c groups held =
    group_cut c.in-Err.error c.from.result c.args.number c.from.ensures c.in-Err.ensures.errors (λ e. c.in-Err.ensures.good groups c.args.number held (ap (λ (x : TopicError). failed_with x) e))

pub returns-in-Err-clause-kinds : goal.returns-in-Err-clause-kinds
returns-in-Err-clause-kinds g c = topic_kind c.in-Err.error c.from.result c.from.ensures

pub returns-in-Ok-clause-keeps : goal.returns-in-Ok-clause-keeps
returns-in-Ok-clause-keeps g c =
    keeps_never g.D.Disk _ c.args.log.now.disk c.group.new.self.disk (λ e. cc)
    (keeps_read g.D.Disk _ _ c.in-Ok.ensures.seen c.in-Ok.ensures.crash c.in-Ok.ensures.cause.later (c.in-Ok.ensures.steady (λ e. cc)))

pub returns-in-Err-clause-keeps : goal.returns-in-Err-clause-keeps
returns-in-Err-clause-keeps g c =
    keeps_told g.D.Disk (Failed Topics) c.from.result c.args.log.now.disk c.group.new.self.disk
    (keeps_failed g.D.Disk _ _ _ c.in-Err.ensures.seen (λ crashed may. (c.in-Err.ensures.crash crashed).0 may) c.in-Err.ensures.cause.later
    (λ f. c.in-Err.ensures.cause.cause (ap (λ (x : TopicError). failed_with x) (topic_failed c.in-Err.error c.from.result c.from.ensures f)))
    (λ n. c.in-Err.ensures.steady (λ e. n (topic_tells c.in-Err.error c.from.result c.from.ensures (err_one c.in-Err.error _ e)))))

pub returns-in-Err-clause-a_store : goal.returns-in-Err-clause-a_store
returns-in-Err-clause-a_store g c = group_after c.in-Err.error c.from.result c.args.number c.from.ensures c.in-Err.ensures.errors
