use Rattle.std.proofs.Common.{◌∙◌, ◌⊎◌, inr, ℕ, Option, Some, List, [], Err, ap, refl, sym, subst}
use Rattle.dbl_cli_commands.specs.declared.commands.CaptureOptions.{CaptureOptions}
use Rattle.dblog_init.specs.declared.error.InitError.{InitError}
use Rattle.dblog_init.specs.declared.error.Store.TheVariants as store
use Rattle.dblog_init.specs.Answers as inits
use Rattle.dblog_init.specs.Disks.{AreAtMostMeasured, EndsTorn, IsAtMostMeasured, EndsBeforeWriting, LeavesDisk}
use Rattle.dblog_connect.specs.declared.asked.Asked.TheVariants.{First}
use Rattle.dblog_connect.specs.Asked.{IsAskedWithinLimits}
use Rattle.dblog_capture.specs.Runs.{RunsConnected}
use Rattle.dblog_capture.proofs.Generating.{not_rose, ok_of, stopped, went_on}
use Rattle.dblog_capture.proofs.Plain.{plain_within}
use Rattle.dblog_capture.proofs.Statuses.{stopped_known}
use Rattle.dblog_capture.proofs.capturing.make_and_capture.Goals as goal

-- ---- the stores were made

pub run_session-requires : goal.run_session-requires
run_session-requires g c = subst (λ (options : CaptureOptions). IsAskedWithinLimits (First options)) (sym c.requires) plain_within

pub returns-in-Ok-clause-generated : goal.returns-in-Ok-clause-generated
returns-in-Ok-clause-generated g c =
    let begun = c.init-begun.result in
    let told = c.init-begun.ensures in
    let left = c.run_session.result in
    went_on g.W.Disk g.T.Disk g.F.Disk c.args.plan.workload c.args.now_ms.now
    c.args.disks begun.disks left.end (g.O.Output.written c.args.output.now) (g.O.Output.written c.run_session.new.output)
    left.disks
    (subst (λ (end : inits.InitEnd). LeavesDisk g.W.Disk store.Wal end c.args.disks.wal begun.disks.wal) c.in-Ok.is told.wal_leaves)
    (subst (λ (end : inits.InitEnd). LeavesDisk g.T.Disk store.Topics end c.args.disks.topics begun.disks.topics) c.in-Ok.is told.topics_leaves)
    (subst (λ (end : inits.InitEnd). LeavesDisk g.F.Disk store.Offsets end c.args.disks.offsets begun.disks.offsets) c.in-Ok.is told.offsets_leaves)
    (λ bytes seen. ok_of begun.end _ c.in-Ok.is (told.wal_empty bytes seen)) (λ bytes seen. ok_of begun.end _ c.in-Ok.is (told.topics_empty bytes seen)) (λ bytes seen. ok_of begun.end _ c.in-Ok.is (told.offsets_empty bytes seen))
    (λ seen. ok_of begun.end _ c.in-Ok.is (told.wal_made c.args.plan.workload [] refl seen)) (λ seen. ok_of begun.end _ c.in-Ok.is (told.topics_made [] seen)) (λ seen. ok_of begun.end _ c.in-Ok.is (told.offsets_made [] seen))
    (subst (λ (options : CaptureOptions). RunsConnected g.W.Disk g.T.Disk g.F.Disk
    (First options) c.args.now_ms.now begun.disks left.disks left.end (g.O.Output.written c.args.output.now) (g.O.Output.written c.run_session.new.output)) c.requires c.run_session.ensures.connected)

pub returns-in-Ok-clause-known : goal.returns-in-Ok-clause-known
returns-in-Ok-clause-known g c = inr c.run_session.ensures.known

-- ---- they weren't

pub returns-clause-generated : goal.returns-clause-generated
returns-clause-generated g c =
    let begun = c.init-begun.result in
    let told = c.init-begun.ensures in
    let e = c.in-Err.error in
    stopped g.W.Disk g.T.Disk g.F.Disk c.args.plan.workload c.args.now_ms.now
    c.args.disks begun.disks c.say_init.result (g.O.Output.written c.args.output.now) (g.O.Output.written c.say_init.new.output)
    e c.say_init.ensures.says
    (subst (λ (end : inits.InitEnd). LeavesDisk g.W.Disk store.Wal end c.args.disks.wal begun.disks.wal) c.in-Err.is told.wal_leaves)
    (subst (λ (end : inits.InitEnd). LeavesDisk g.T.Disk store.Topics end c.args.disks.topics begun.disks.topics) c.in-Err.is told.topics_leaves)
    (subst (λ (end : inits.InitEnd). LeavesDisk g.F.Disk store.Offsets end c.args.disks.offsets begun.disks.offsets) c.in-Err.is told.offsets_leaves)
    (g.met.F.Disk.seen_may_be_left begun.disks.offsets)
    (subst (λ (end : inits.InitEnd). EndsBeforeWriting store.Wal end → IsAtMostMeasured g.W.Disk store.Wal end c.args.disks.wal begun.disks.wal) c.in-Err.is told.wal_asked)
    (subst (λ (end : inits.InitEnd). EndsBeforeWriting store.Topics end → IsAtMostMeasured g.T.Disk store.Topics end c.args.disks.topics begun.disks.topics) c.in-Err.is told.topics_asked)
    (subst (λ (end : inits.InitEnd). EndsBeforeWriting store.Offsets end → IsAtMostMeasured g.F.Disk store.Offsets end c.args.disks.offsets begun.disks.offsets) c.in-Err.is told.offsets_asked)
    (λ w t failed. subst (λ (end : inits.InitEnd). IsAtMostMeasured g.F.Disk store.Offsets end c.args.disks.offsets begun.disks.offsets
    ⊎ EndsTorn g.W.Disk g.T.Disk g.F.Disk c.args.plan.workload c.args.disks begun.disks) c.in-Err.is
    (told.torn c.args.plan.workload refl w t (c.in-Err.is ∙ ap (λ (x : InitError). Err x) failed)))
    (λ failed. not_rose (told.input_failed (c.in-Err.is ∙ ap (λ (x : InitError). Err x) failed)))
    (λ given same w t f. subst (λ (end : inits.InitEnd). inits.Answers given end ⊎ inits.IsExternalInitEnd end) c.in-Err.is (told.told given (ap (λ (l : List ℕ). let o : Option (List ℕ) = Some l in o) (sym same)) w t f))
    (subst (λ (end : inits.InitEnd). inits.AnswersInput c.args.plan.workload end ⊎ (inits.IsBeforeInput end ⊎ inits.IsExternalInitEnd end)) c.in-Err.is (told.input_told c.args.plan.workload refl))
    (λ holds. subst (λ (end : inits.InitEnd). AreAtMostMeasured g.W.Disk g.T.Disk g.F.Disk end c.args.disks begun.disks) c.in-Err.is (told.unwritten holds))

pub returns-clause-known : goal.returns-clause-known
returns-clause-known g c =
    stopped_known c.in-Err.error c.say_init.result _ _ (λ failed. not_rose (c.init-begun.ensures.input_failed (c.in-Err.is ∙ ap (λ (x : InitError). Err x) failed))) c.say_init.ensures.says
