use Rattle.std.proofs.Common.{◌≡◌, ◌∙◌, Ok, Err, refl, sym, ap, subst}
use Rattle.std.specs.Prelude.{IfErr, IfOk, OnOk}
use Rattle.std.proofs.Math.Facts.{to_z-of_z}
use Rattle.dbl_hooks_gate.specs.declared.rule.Rule.{Rule}
use Rattle.dbl_hooks_gate.specs.Gates.{AddsAllowed}
use Rattle.dbl_offset.specs.Stores.{disk_of}
use Rattle.dbl_demo.specs.DemoWorkload.Ready.{AreTableNames}
use Rattle.dbl_demo.specs.DemoLaws.Demo.{HasDemoState}
use Rattle.dbl_demo.specs.DemoLaws.SourceLaws.{unaltered_so}
use Rattle.dbl_capture.proofs.CaptureLawsKeeping.{absent_first}
use Rattle.dbl_capture.specs.CaptureWork.declared.halt.Halt.{Halt}
use Rattle.dbl_capture.specs.CaptureWork.declared.report.Ending.{Ending}
use Rattle.dblog_init.specs.declared.error.Store.TheVariants as store
use Rattle.dblog_connect.specs.Asked.{budget_of}
use Rattle.dblog_connect.specs.Ends.{AreSteady, CountsFaults, ConnectEnd, IsSpent}
use Rattle.dblog_connect_ends.specs.Errors.{IsAfterOpening, IsConnectRefusal}
use Rattle.dblog_connect.specs.Refusals.{IsErrorFor}
use Rattle.dblog_connect.specs.Steps.{AnswersConnect, disks_of}
use Rattle.dblog_connect.proofs.Configs.{asks_budget}
use Rattle.dblog_connect.proofs.Exits.{asked_of, asks_same, log_bounded, log_steady, refused_after, refused_ends, refused_kind, refused_unfailed, refused_unhalted, residual, source_bounded, source_steady, spent_of, store_bounded, store_steady}
use Rattle.dblog_connect.proofs.Gated.{ended, next_same, ok_then, open_of, stop_exceeds, stop_fails, stop_kind, stopped}
use Rattle.dblog_connect.proofs.ErrorKinds.{counts_same, no_refusal}
use Rattle.dblog_connect.proofs.Opened.{bounded_same, store_bounded_same}
use Rattle.dblog_connect.proofs.Ran.{done_by, renow}
use Rattle.dblog_connect.proofs.Session.{answers_ok, answers_stopped}
use Rattle.dblog_connect.proofs.Stays.{answers_stay}
use Rattle.dblog_connect.proofs.connecting.run_over_gate.Goals as goal

-- ---- what it is called with

pub config_for-requires-clause-tables : goal.config_for-requires-clause-tables
config_for-requires-clause-tables g c = subst AreTableNames (sym c.table_names.ensures) c.requires.tables

pub gated_session-end-requires-clause-gate_open : goal.gated_session-end-requires-clause-gate_open
gated_session-end-requires-clause-gate_open g c = open_of c.args.gate.now.sink.live c.args.gate.now.refused c.requires.log_live c.requires.unrefused

pub gated_session-end-requires-clause-asked : goal.gated_session-end-requires-clause-asked
gated_session-end-requires-clause-asked g c =
    asked_of c.args.asked c.args.source.now.names c.args.store.now.offset c.in_ok-config.config
    (asks_same c.args.asked c.args.source.now.names c.args.store.now.offset _ _ c.in_ok-config.config c.table_names.ensures c.load.ensures.offset c.in_ok-config.ensures.asks)

-- ---- what it is asked for can't be done there

pub returns-in_err-config-clause-answers : goal.returns-in_err-config-clause-answers
returns-in_err-config-clause-answers g c =
    residual c.from_residual.result _ (λ (r : ConnectEnd). AnswersConnect g.W.Disk g.T.Disk g.F.Disk c.args.asked c.args.now_ms (disks_of c.args.source.now.journal.disk c.args.gate.now.sink.disk (disk_of c.args.store.now)) (disks_of c.args.source.now.journal.disk c.args.gate.now.sink.disk (disk_of c.args.store.now)) r) c.from_residual.ensures.1
    (answers_stay g.W.Disk g.T.Disk g.F.Disk g.met.W.Disk.seen_may_be_left g.met.T.Disk.seen_may_be_left g.met.F.Disk.seen_may_be_left (disks_of c.args.source.now.journal.disk c.args.gate.now.sink.disk (disk_of c.args.store.now)) (disks_of c.args.source.now.journal.disk c.args.gate.now.sink.disk (disk_of c.args.store.now)) refl refl refl (λ i m. m) (λ i m. m) (λ i m. m)
    c.args.asked c.args.now_ms _ (refused_unhalted c.args.asked _ _ c.in_err-config.ensures.refused)
    (refused_ends g.W.Disk g.T.Disk g.F.Disk c.args.source.now c.args.gate.now.sink c.args.store.now c.requires.source_opened c.requires.log_opened c.requires.store_opened c.args.asked _ _ c.load.ensures.offset c.in_err-config.ensures.refused))

pub returns-in_err-config-clause-spent : goal.returns-in_err-config-clause-spent
returns-in_err-config-clause-spent g c = residual c.from_residual.result _ (λ (r : ConnectEnd). IfOk r (IsSpent (budget_of c.args.asked))) c.from_residual.ensures.1 tt

pub returns-in_err-config-clause-kinds : goal.returns-in_err-config-clause-kinds
returns-in_err-config-clause-kinds g c = residual c.from_residual.result _ (λ (r : ConnectEnd). IfErr r (IsErrorFor c.args.asked)) c.from_residual.ensures.1 (no_refusal c.args.asked _ (refused_kind c.args.asked _ _ c.in_err-config.ensures.refused) (refused_unhalted c.args.asked _ _ c.in_err-config.ensures.refused))

pub returns-in_err-config-clause-after_opening : goal.returns-in_err-config-clause-after_opening
returns-in_err-config-clause-after_opening g c = residual c.from_residual.result _ (λ (r : ConnectEnd). IfErr r (IsAfterOpening store.Offsets)) c.from_residual.ensures.1 (refused_after c.args.asked _ _ c.in_err-config.ensures.refused)

pub returns-in_err-config-clause-source_stays : goal.returns-in_err-config-clause-source_stays
returns-in_err-config-clause-source_stays g c = residual c.from_residual.result _ (λ (r : ConnectEnd). IfErr r (λ e. IsConnectRefusal e → c.args.source.now ≡ c.args.source.now)) c.from_residual.ensures.1 (λ refusal. refl)

pub returns-in_err-config-clause-log_stays : goal.returns-in_err-config-clause-log_stays
returns-in_err-config-clause-log_stays g c = residual c.from_residual.result _ (λ (r : ConnectEnd). IfErr r (λ e. IsConnectRefusal e → c.args.gate.now.sink ≡ c.args.gate.now.sink)) c.from_residual.ensures.1 (λ refusal. refl)

pub returns-in_err-config-clause-store_stays : goal.returns-in_err-config-clause-store_stays
returns-in_err-config-clause-store_stays g c = residual c.from_residual.result _ (λ (r : ConnectEnd). IfErr r (λ e. IsConnectRefusal e → c.args.store.now ≡ c.args.store.now)) c.from_residual.ensures.1 (λ refusal. refl)

pub returns-in_err-config-clause-source_counts : goal.returns-in_err-config-clause-source_counts
returns-in_err-config-clause-source_counts g c =
    residual c.from_residual.result _ (λ (r : ConnectEnd). CountsFaults g.W.Disk store.Wal r c.args.source.now.journal.disk c.args.source.now.journal.disk) c.from_residual.ensures.1
    (counts_same g.W.Disk store.Wal _ c.args.source.now.journal.disk c.args.source.now.journal.disk refl (λ is. refused_unfailed store.Wal c.args.asked _ _ c.in_err-config.ensures.refused (let i = is in cc)))

pub returns-in_err-config-clause-steady : goal.returns-in_err-config-clause-steady
returns-in_err-config-clause-steady g c = residual c.from_residual.result _ (λ (r : ConnectEnd). OnOk r (AreSteady g.W.Disk g.T.Disk g.F.Disk (disks_of c.args.source.now.journal.disk c.args.gate.now.sink.disk (disk_of c.args.store.now)) (disks_of c.args.source.now.journal.disk c.args.gate.now.sink.disk (disk_of c.args.store.now)))) c.from_residual.ensures.1 tt

pub returns-in_err-config-clause-log_counts : goal.returns-in_err-config-clause-log_counts
returns-in_err-config-clause-log_counts g c =
    residual c.from_residual.result _ (λ (r : ConnectEnd). CountsFaults g.T.Disk store.Topics r c.args.gate.now.sink.disk c.args.gate.now.sink.disk) c.from_residual.ensures.1
    (counts_same g.T.Disk store.Topics _ c.args.gate.now.sink.disk c.args.gate.now.sink.disk refl (λ is. refused_unfailed store.Topics c.args.asked _ _ c.in_err-config.ensures.refused (let i = is in cc)))

pub returns-in_err-config-clause-store_counts : goal.returns-in_err-config-clause-store_counts
returns-in_err-config-clause-store_counts g c =
    residual c.from_residual.result _ (λ (r : ConnectEnd). CountsFaults g.F.Disk store.Offsets r (disk_of c.args.store.now) (disk_of c.args.store.now)) c.from_residual.ensures.1
    (counts_same g.F.Disk store.Offsets _ (disk_of c.args.store.now) (disk_of c.args.store.now) refl (λ is. refused_unfailed store.Offsets c.args.asked _ _ c.in_err-config.ensures.refused (let i = is in cc)))

pub returns-in_err-config-clause-source_bounded : goal.returns-in_err-config-clause-source_bounded
returns-in_err-config-clause-source_bounded g c = bounded_same g.W.Disk c.args.source.now.journal.disk c.args.source.now.journal.disk refl

pub returns-in_err-config-clause-log_bounded : goal.returns-in_err-config-clause-log_bounded
returns-in_err-config-clause-log_bounded g c = bounded_same g.T.Disk c.args.gate.now.sink.disk c.args.gate.now.sink.disk refl

pub returns-in_err-config-clause-store_bounded : goal.returns-in_err-config-clause-store_bounded
returns-in_err-config-clause-store_bounded g c = store_bounded_same g.F.Disk (disk_of c.args.store.now) (disk_of c.args.store.now) refl

-- ---- the session halted

pub returns-in_err-ending-clause-answers : goal.returns-in_err-ending-clause-answers
returns-in_err-ending-clause-answers g c =
    residual c.from_residual-in_err-ending.result _ (λ (r : ConnectEnd). AnswersConnect g.W.Disk g.T.Disk g.F.Disk c.args.asked c.args.now_ms (disks_of c.args.source.now.journal.disk c.args.gate.now.sink.disk (disk_of c.args.store.now)) (disks_of c.gated_session-end.new.src.journal.disk c.gated_session-end.new.gate.sink.disk (disk_of c.gated_session-end.new.offsets)) r) c.from_residual-in_err-ending.ensures.1
    (answers_stopped g.W.Disk g.T.Disk g.F.Disk g.met.W.Disk.seen_may_be_left g.met.T.Disk.seen_may_be_left g.met.F.Disk.seen_may_be_left c.args.source.now c.args.gate.now.sink c.args.store.now c.requires.source_opened c.requires.log_opened c.requires.store_opened c.args.asked c.in_ok-config.config c.args.now_ms c.gated_session-end.new.src c.gated_session-end.new.gate.sink c.gated_session-end.new.offsets c.gated_session-end.new.report c.gated_session-end.result
    (renow g.W.Disk g.T.Disk g.F.Disk c.in_ok-config.config _ c.args.now_ms c.args.source.now c.gated_session-end.new.src c.args.gate.now.sink c.gated_session-end.new.gate.sink c.args.store.now c.gated_session-end.new.offsets c.gated_session-end.new.report c.gated_session-end.result (to_z-of_z c.ranges.now_ms) (record {
      faithful = λ entry is found had. c.gated_session-end.ensures.faithful.faithful entry is found tt had;
      complete = λ entry is found had. c.gated_session-end.ensures.faithful.complete entry is found tt had;
      held = c.gated_session-end.ensures.stores.holds;
      marks = λ s is had. c.gated_session-end.ensures.marks.marks s is tt had;
      most = λ s is had. c.gated_session-end.ensures.marks.most s is tt had;
      exactly = λ s is had. c.gated_session-end.ensures.marks.exactly s is tt had;
      unclosed = λ entry is found. c.gated_session-end.ensures.unclosed entry is found tt;
      stores = c.gated_session-end.ensures.stores.stores;
      firsts = λ s is. c.gated_session-end.ensures.stores.firsts s is tt;
      few = λ is. (c.gated_session-end.ensures.ends.done is).3;
      done = λ is. done_by c.gated_session-end.new.offsets.offset (c.gated_session-end.ensures.ends.done is).0 (c.gated_session-end.ensures.ends.done is).1 (c.gated_session-end.ensures.ends.done is).2;
      bounded = c.gated_session-end.ensures.counts.bounded;
      ended = c.gated_session-end.ensures.ends.ended;
      exhausted = c.gated_session-end.ensures.halt.exhausted;
      must_absent = λ s is. c.gated_session-end.ensures.halt_by_state.must_absent s is tt;
      captures = λ s is. c.gated_session-end.ensures.halt_by_state.captures s is tt;
      spent = c.gated_session-end.ensures.ends.spent;
      settled = c.gated_session-end.ensures.by_state.settled;
      position = c.gated_session-end.ensures.counts.position;
      halt_is = c.gated_session-end.ensures.halt.halt;
      halt_stood = c.gated_session-end.ensures.halt_by_state.halt_stood;
      absent = λ s is. absent_first (HasDemoState g.W.Disk c.gated_session-end.new.src) s c.in_ok-config.config.tables c.gated_session-end.result (unaltered_so g.W.Disk c.gated_session-end.new.src) (c.gated_session-end.ensures.halt_by_state.absent s is);
      gone = c.gated_session-end.ensures.halt_by_state.gone;
      gone_stood = c.gated_session-end.ensures.halt_by_state.gone_stood;
      kept = c.gated_session-end.ensures.gone.kept;
      dropped = c.gated_session-end.ensures.gone.dropped;
      missing = λ s is. c.gated_session-end.ensures.own.missing s is tt;
      own = λ s is. c.gated_session-end.ensures.own.own s is tt;
      content = λ entry is found. c.gated_session-end.ensures.content entry is found tt;
      long = λ s is. c.gated_session-end.ensures.halt_by_state.long s is tt;
      grouped = c.gated_session-end.ensures.gains.grouped;
      ungained = c.gated_session-end.ensures.gains.ungained;
      counted = c.gated_session-end.ensures.tallies.counted;
      followed = c.gated_session-end.ensures.by_trace.followed;
      stood = c.gated_session-end.ensures.by_state.stood;
      tallied = c.gated_session-end.ensures.tallies.tallied_stood;
      source_live = c.gated_session-end.ensures.source.live;
      source_comes = c.gated_session-end.ensures.source.comes;
      sink_comes = c.gated_session-end.ensures.sink.comes;
      store_comes = c.gated_session-end.ensures.store.comes;
    }))
    (asks_same c.args.asked c.args.source.now.names c.args.store.now.offset _ _ c.in_ok-config.config c.table_names.ensures c.load.ensures.offset c.in_ok-config.ensures.asks) (λ groups left holds may. subst (λ (rule : Rule). AddsAllowed rule groups left) c.requires.rule (c.gated_session-end.ensures.allowed groups left holds may)) c.refused.result _ (stopped c.gated_session-end.result c.refused.result _ (sym c.end_of.ensures ∙ c.in_err-ending.was))
    (λ place some groups holds s stands. next_same _ c.gated_session-end.new.src c.in_ok-config.config _ c.args.now_ms c.args.gate.now.rule _ _ _ place (to_z-of_z c.ranges.now_ms) c.requires.rule
    (c.gated_session-end.ensures.next groups holds s stands place (sym c.refused.ensures ∙ some))))

pub returns-in_err-ending-clause-spent : goal.returns-in_err-ending-clause-spent
returns-in_err-ending-clause-spent g c = residual c.from_residual-in_err-ending.result _ (λ (r : ConnectEnd). IfOk r (IsSpent (budget_of c.args.asked))) c.from_residual-in_err-ending.ensures.1 tt

pub returns-in_err-ending-clause-kinds : goal.returns-in_err-ending-clause-kinds
returns-in_err-ending-clause-kinds g c =
    let stop = stopped c.gated_session-end.result c.refused.result _ (sym c.end_of.ensures ∙ c.in_err-ending.was) in
    residual c.from_residual-in_err-ending.result _ (λ (r : ConnectEnd). IfErr r (IsErrorFor c.args.asked)) c.from_residual-in_err-ending.ensures.1 (
      (stop_kind _ _ _ stop).0,
      stop_exceeds _ _ _ c.args.asked c.args.gate.now.rule c.requires.rule (λ place some. (let first = c.gated_session-end.ensures.refused place (sym c.refused.ensures ∙ some) in (first.1, first.2))) stop,
    )

pub returns-in_err-ending-clause-after_opening : goal.returns-in_err-ending-clause-after_opening
returns-in_err-ending-clause-after_opening g c = residual c.from_residual-in_err-ending.result _ (λ (r : ConnectEnd). IfErr r (IsAfterOpening store.Offsets)) c.from_residual-in_err-ending.ensures.1 (stop_kind _ _ _ (stopped c.gated_session-end.result c.refused.result _ (sym c.end_of.ensures ∙ c.in_err-ending.was))).1

pub returns-in_err-ending-clause-source_stays : goal.returns-in_err-ending-clause-source_stays
returns-in_err-ending-clause-source_stays g c = residual c.from_residual-in_err-ending.result _ (λ (r : ConnectEnd). IfErr r (λ e. IsConnectRefusal e → c.gated_session-end.new.src ≡ c.args.source.now)) c.from_residual-in_err-ending.ensures.1 (λ refusal. absurd ((stop_kind _ _ _ (stopped c.gated_session-end.result c.refused.result _ (sym c.end_of.ensures ∙ c.in_err-ending.was))).2 refusal))

pub returns-in_err-ending-clause-log_stays : goal.returns-in_err-ending-clause-log_stays
returns-in_err-ending-clause-log_stays g c = residual c.from_residual-in_err-ending.result _ (λ (r : ConnectEnd). IfErr r (λ e. IsConnectRefusal e → c.gated_session-end.new.gate.sink ≡ c.args.gate.now.sink)) c.from_residual-in_err-ending.ensures.1 (λ refusal. absurd ((stop_kind _ _ _ (stopped c.gated_session-end.result c.refused.result _ (sym c.end_of.ensures ∙ c.in_err-ending.was))).2 refusal))

pub returns-in_err-ending-clause-store_stays : goal.returns-in_err-ending-clause-store_stays
returns-in_err-ending-clause-store_stays g c = residual c.from_residual-in_err-ending.result _ (λ (r : ConnectEnd). IfErr r (λ e. IsConnectRefusal e → c.gated_session-end.new.offsets ≡ c.args.store.now)) c.from_residual-in_err-ending.ensures.1 (λ refusal. absurd ((stop_kind _ _ _ (stopped c.gated_session-end.result c.refused.result _ (sym c.end_of.ensures ∙ c.in_err-ending.was))).2 refusal))

pub returns-in_err-ending-clause-source_counts : goal.returns-in_err-ending-clause-source_counts
returns-in_err-ending-clause-source_counts g c =
    residual c.from_residual-in_err-ending.result _ (λ (r : ConnectEnd). CountsFaults g.W.Disk store.Wal r c.args.source.now.journal.disk c.gated_session-end.new.src.journal.disk) c.from_residual-in_err-ending.ensures.1
    (record {
      later = c.gated_session-end.ensures.source.cause.later;
      cause = λ is. c.gated_session-end.ensures.source.cause.cause (stop_fails _ _ _ (stopped c.gated_session-end.result c.refused.result _ (sym c.end_of.ensures ∙ c.in_err-ending.was)) store.Wal (let i = is in cc)).0;
    })

pub returns-in_err-ending-clause-steady : goal.returns-in_err-ending-clause-steady
returns-in_err-ending-clause-steady g c =
    residual c.from_residual-in_err-ending.result _ (λ (r : ConnectEnd). OnOk r (AreSteady g.W.Disk g.T.Disk g.F.Disk (disks_of c.args.source.now.journal.disk c.args.gate.now.sink.disk (disk_of c.args.store.now)) (disks_of c.gated_session-end.new.src.journal.disk c.gated_session-end.new.gate.sink.disk (disk_of c.gated_session-end.new.offsets)))) c.from_residual-in_err-ending.ensures.1 tt

pub returns-in_err-ending-clause-log_counts : goal.returns-in_err-ending-clause-log_counts
returns-in_err-ending-clause-log_counts g c =
    residual c.from_residual-in_err-ending.result _ (λ (r : ConnectEnd). CountsFaults g.T.Disk store.Topics r c.args.gate.now.sink.disk c.gated_session-end.new.gate.sink.disk) c.from_residual-in_err-ending.ensures.1
    (record {
      later = c.gated_session-end.ensures.sink.cause.later;
      cause = λ is. (let fails = stop_fails _ _ _ (stopped c.gated_session-end.result c.refused.result _ (sym c.end_of.ensures ∙ c.in_err-ending.was)) store.Topics (let i = is in cc) in c.gated_session-end.ensures.sink.cause.cause (fails.0, sym c.refused.ensures ∙ fails.1));
    })

pub returns-in_err-ending-clause-store_counts : goal.returns-in_err-ending-clause-store_counts
returns-in_err-ending-clause-store_counts g c =
    residual c.from_residual-in_err-ending.result _ (λ (r : ConnectEnd). CountsFaults g.F.Disk store.Offsets r (disk_of c.args.store.now) (disk_of c.gated_session-end.new.offsets)) c.from_residual-in_err-ending.ensures.1
    (record {
      later = c.gated_session-end.ensures.store.cause.later;
      cause = λ is. c.gated_session-end.ensures.store.cause.cause (stop_fails _ _ _ (stopped c.gated_session-end.result c.refused.result _ (sym c.end_of.ensures ∙ c.in_err-ending.was)) store.Offsets (let i = is in cc)).0;
    })

pub returns-in_err-ending-clause-source_bounded : goal.returns-in_err-ending-clause-source_bounded
returns-in_err-ending-clause-source_bounded g c = source_bounded g.W.Disk g.T.Disk g.F.Disk c.args.source.now c.args.gate.now.sink c.args.store.now c.requires.source_opened c.requires.log_opened c.requires.store_opened c.gated_session-end.new.src c.gated_session-end.ensures.source.comes

pub returns-in_err-ending-clause-log_bounded : goal.returns-in_err-ending-clause-log_bounded
returns-in_err-ending-clause-log_bounded g c = log_bounded g.W.Disk g.T.Disk g.F.Disk c.args.source.now c.args.gate.now.sink c.args.store.now c.requires.source_opened c.requires.log_opened c.requires.store_opened c.gated_session-end.new.gate.sink c.gated_session-end.ensures.sink.comes

pub returns-in_err-ending-clause-store_bounded : goal.returns-in_err-ending-clause-store_bounded
returns-in_err-ending-clause-store_bounded g c = store_bounded g.W.Disk g.T.Disk g.F.Disk c.args.source.now c.args.gate.now.sink c.args.store.now c.requires.source_opened c.requires.log_opened c.requires.store_opened c.gated_session-end.new.offsets c.gated_session-end.ensures.store.comes

-- ---- it ended normally

pub returns-clause-answers : goal.returns-clause-answers
returns-clause-answers g c =
    answers_ok g.W.Disk g.T.Disk g.F.Disk g.met.W.Disk.seen_may_be_left g.met.T.Disk.seen_may_be_left g.met.F.Disk.seen_may_be_left c.args.source.now c.args.gate.now.sink c.args.store.now c.requires.source_opened c.requires.log_opened c.requires.store_opened c.args.asked c.in_ok-config.config c.args.now_ms c.gated_session-end.new.src c.gated_session-end.new.gate.sink c.gated_session-end.new.offsets c.gated_session-end.new.report c.gated_session-end.result
    (renow g.W.Disk g.T.Disk g.F.Disk c.in_ok-config.config _ c.args.now_ms c.args.source.now c.gated_session-end.new.src c.args.gate.now.sink c.gated_session-end.new.gate.sink c.args.store.now c.gated_session-end.new.offsets c.gated_session-end.new.report c.gated_session-end.result (to_z-of_z c.ranges.now_ms) (record {
      faithful = λ entry is found had. c.gated_session-end.ensures.faithful.faithful entry is found tt had;
      complete = λ entry is found had. c.gated_session-end.ensures.faithful.complete entry is found tt had;
      held = c.gated_session-end.ensures.stores.holds;
      marks = λ s is had. c.gated_session-end.ensures.marks.marks s is tt had;
      most = λ s is had. c.gated_session-end.ensures.marks.most s is tt had;
      exactly = λ s is had. c.gated_session-end.ensures.marks.exactly s is tt had;
      unclosed = λ entry is found. c.gated_session-end.ensures.unclosed entry is found tt;
      stores = c.gated_session-end.ensures.stores.stores;
      firsts = λ s is. c.gated_session-end.ensures.stores.firsts s is tt;
      few = λ is. (c.gated_session-end.ensures.ends.done is).3;
      done = λ is. done_by c.gated_session-end.new.offsets.offset (c.gated_session-end.ensures.ends.done is).0 (c.gated_session-end.ensures.ends.done is).1 (c.gated_session-end.ensures.ends.done is).2;
      bounded = c.gated_session-end.ensures.counts.bounded;
      ended = c.gated_session-end.ensures.ends.ended;
      exhausted = c.gated_session-end.ensures.halt.exhausted;
      must_absent = λ s is. c.gated_session-end.ensures.halt_by_state.must_absent s is tt;
      captures = λ s is. c.gated_session-end.ensures.halt_by_state.captures s is tt;
      spent = c.gated_session-end.ensures.ends.spent;
      settled = c.gated_session-end.ensures.by_state.settled;
      position = c.gated_session-end.ensures.counts.position;
      halt_is = c.gated_session-end.ensures.halt.halt;
      halt_stood = c.gated_session-end.ensures.halt_by_state.halt_stood;
      absent = λ s is. absent_first (HasDemoState g.W.Disk c.gated_session-end.new.src) s c.in_ok-config.config.tables c.gated_session-end.result (unaltered_so g.W.Disk c.gated_session-end.new.src) (c.gated_session-end.ensures.halt_by_state.absent s is);
      gone = c.gated_session-end.ensures.halt_by_state.gone;
      gone_stood = c.gated_session-end.ensures.halt_by_state.gone_stood;
      kept = c.gated_session-end.ensures.gone.kept;
      dropped = c.gated_session-end.ensures.gone.dropped;
      missing = λ s is. c.gated_session-end.ensures.own.missing s is tt;
      own = λ s is. c.gated_session-end.ensures.own.own s is tt;
      content = λ entry is found. c.gated_session-end.ensures.content entry is found tt;
      long = λ s is. c.gated_session-end.ensures.halt_by_state.long s is tt;
      grouped = c.gated_session-end.ensures.gains.grouped;
      ungained = c.gated_session-end.ensures.gains.ungained;
      counted = c.gated_session-end.ensures.tallies.counted;
      followed = c.gated_session-end.ensures.by_trace.followed;
      stood = c.gated_session-end.ensures.by_state.stood;
      tallied = c.gated_session-end.ensures.tallies.tallied_stood;
      source_live = c.gated_session-end.ensures.source.live;
      source_comes = c.gated_session-end.ensures.source.comes;
      sink_comes = c.gated_session-end.ensures.sink.comes;
      store_comes = c.gated_session-end.ensures.store.comes;
    }))
    (asks_same c.args.asked c.args.source.now.names c.args.store.now.offset _ _ c.in_ok-config.config c.table_names.ensures c.load.ensures.offset c.in_ok-config.ensures.asks) (λ groups left holds may. subst (λ (rule : Rule). AddsAllowed rule groups left) c.requires.rule (c.gated_session-end.ensures.allowed groups left holds may)) c.in_ok-ending.ending (ended c.gated_session-end.result c.refused.result c.in_ok-ending.ending (sym c.end_of.ensures ∙ c.in_ok-ending.was))

pub returns-clause-spent : goal.returns-clause-spent
returns-clause-spent g c =
    spent_of (budget_of c.args.asked) c.in_ok-config.config c.in_ok-ending.ending c.gated_session-end.new.report (asks_budget c.args.asked c.args.source.now.names c.args.store.now.offset c.in_ok-config.config (asks_same c.args.asked c.args.source.now.names c.args.store.now.offset _ _ c.in_ok-config.config c.table_names.ensures c.load.ensures.offset c.in_ok-config.ensures.asks))
    (λ is. (c.gated_session-end.ensures.ends.done ((ended c.gated_session-end.result c.refused.result c.in_ok-ending.ending (sym c.end_of.ensures ∙ c.in_ok-ending.was)) ∙ ap (λ (e : Ending). Ok e) is)).3) (λ is. c.gated_session-end.ensures.ends.spent ((ended c.gated_session-end.result c.refused.result c.in_ok-ending.ending (sym c.end_of.ensures ∙ c.in_ok-ending.was)) ∙ ap (λ (e : Ending). Ok e) is)) c.gated_session-end.ensures.counts.commits

pub returns-clause-source_counts : goal.returns-clause-source_counts
returns-clause-source_counts g c = record { later = c.gated_session-end.ensures.source.cause.later; cause = λ is. absurd (let i = is in cc) }

pub returns-clause-log_counts : goal.returns-clause-log_counts
returns-clause-log_counts g c = record { later = c.gated_session-end.ensures.sink.cause.later; cause = λ is. absurd (let i = is in cc) }

pub returns-clause-store_counts : goal.returns-clause-store_counts
returns-clause-store_counts g c = record { later = c.gated_session-end.ensures.store.cause.later; cause = λ is. absurd (let i = is in cc) }

pub returns-clause-steady : goal.returns-clause-steady
returns-clause-steady g c = record {
  wal = source_steady g.W.Disk g.T.Disk g.F.Disk c.args.source.now c.args.gate.now.sink c.args.store.now c.requires.source_opened c.requires.log_opened c.requires.store_opened c.gated_session-end.new.src c.gated_session-end.ensures.source.comes (ok_then (ended c.gated_session-end.result c.refused.result c.in_ok-ending.ending (sym c.end_of.ensures ∙ c.in_ok-ending.was)) c.gated_session-end.ensures.source.live);
  topics = log_steady g.W.Disk g.T.Disk g.F.Disk c.args.source.now c.args.gate.now.sink c.args.store.now c.requires.source_opened c.requires.log_opened c.requires.store_opened c.gated_session-end.new.gate.sink c.gated_session-end.ensures.sink.comes (ok_then (ended c.gated_session-end.result c.refused.result c.in_ok-ending.ending (sym c.end_of.ensures ∙ c.in_ok-ending.was)) c.gated_session-end.ensures.sink.live);
  offsets = store_steady g.W.Disk g.T.Disk g.F.Disk c.args.source.now c.args.gate.now.sink c.args.store.now c.requires.source_opened c.requires.log_opened c.requires.store_opened c.gated_session-end.new.offsets c.gated_session-end.ensures.store.comes (ok_then (ended c.gated_session-end.result c.refused.result c.in_ok-ending.ending (sym c.end_of.ensures ∙ c.in_ok-ending.was)) c.gated_session-end.ensures.store.live);
}

pub returns-clause-source_bounded : goal.returns-clause-source_bounded
returns-clause-source_bounded g c = source_bounded g.W.Disk g.T.Disk g.F.Disk c.args.source.now c.args.gate.now.sink c.args.store.now c.requires.source_opened c.requires.log_opened c.requires.store_opened c.gated_session-end.new.src c.gated_session-end.ensures.source.comes

pub returns-clause-log_bounded : goal.returns-clause-log_bounded
returns-clause-log_bounded g c = log_bounded g.W.Disk g.T.Disk g.F.Disk c.args.source.now c.args.gate.now.sink c.args.store.now c.requires.source_opened c.requires.log_opened c.requires.store_opened c.gated_session-end.new.gate.sink c.gated_session-end.ensures.sink.comes

pub returns-clause-store_bounded : goal.returns-clause-store_bounded
returns-clause-store_bounded g c = store_bounded g.W.Disk g.T.Disk g.F.Disk c.args.source.now c.args.gate.now.sink c.args.store.now c.requires.source_opened c.requires.log_opened c.requires.store_opened c.gated_session-end.new.offsets c.gated_session-end.ensures.store.comes
