use Rattle.std.proofs.Common.{◌∙◌, ℤ, sym, subst}
use Rattle.std.specs.Prelude.{IsTrue}
use Rattle.std.proofs.Math.Facts.{to_z-of_z}
use Rattle.dbl_journal.specs.Stored.{OnDisk}
use Rattle.dbl_offset.specs.Stores.{disk_of}
use Rattle.dblog_connect.specs.Steps.{AnswersConnect, IsOpenedLog, disks_of}
use Rattle.dblog_connect.proofs.Gated.{ends_gated, ends_unbegun}
use Rattle.dblog_connect.proofs.connecting.run_session.Goals as goal

pub run_over_gate-end-requires-clause-log_live : goal.run_over_gate-end-requires-clause-log_live
run_over_gate-end-requires-clause-log_live g c = subst (λ (log : OnDisk _). IsTrue log.live) (sym c.make-gate.ensures.sink) c.requires.log_live

pub run_over_gate-end-requires-clause-rule : goal.run_over_gate-end-requires-clause-rule
run_over_gate-end-requires-clause-rule g c = c.make-gate.ensures.rule ∙ c.rule_of-rule.ensures

pub run_over_gate-end-requires-clause-log_opened : goal.run_over_gate-end-requires-clause-log_opened
run_over_gate-end-requires-clause-log_opened g c = subst (IsOpenedLog g.T.Disk) (sym c.make-gate.ensures.sink) c.requires.log_opened

pub returns-in-Ok : goal.returns-in-Ok
returns-in-Ok g c =
    let ended = c.run_over_gate-end.ensures in
    let source = c.run_over_gate-end.new.source in
    let gate = c.run_over_gate-end.new.gate in
    let offsets = c.run_over_gate-end.new.store in
    ends_gated g.W.Disk g.T.Disk g.F.Disk c.args.asked c.args.now_ms c.args.source.now source c.args.log c.make-gate.result.sink gate.sink c.into_inner.result c.args.store.now offsets c.run_over_gate-end.result
    c.make-gate.ensures.sink c.into_inner.ensures (record {
      answers = subst (λ (n : ℤ). AnswersConnect g.W.Disk g.T.Disk g.F.Disk c.args.asked n (disks_of c.args.source.now.journal.disk c.make-gate.result.sink.disk (disk_of c.args.store.now)) (disks_of source.journal.disk gate.sink.disk (disk_of offsets)) c.run_over_gate-end.result) (to_z-of_z c.ranges.now_ms) ended.answers;
      spent = ended.spent;
      kinds = ended.kinds;
      after_opening = ended.after_opening;
      source_stays = ended.source_stays;
      log_stays = ended.log_stays;
      store_stays = ended.store_stays;
      source_counts = ended.source_counts;
      steady = ended.steady;
      log_counts = ended.log_counts;
      store_counts = ended.store_counts;
      source_bounded = ended.source_bounded;
      log_bounded = ended.log_bounded;
      store_bounded = ended.store_bounded;
    })

pub returns-in-Err : goal.returns-in-Err
returns-in-Err g c = ends_unbegun g.W.Disk g.T.Disk g.F.Disk g.met.W.Disk.seen_may_be_left g.met.T.Disk.seen_may_be_left g.met.F.Disk.seen_may_be_left c.args.asked c.args.now_ms c.args.source.now c.args.log c.args.store.now
