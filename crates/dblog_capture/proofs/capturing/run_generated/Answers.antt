use Rattle.std.proofs.Common.{inl, inr, ℕ, List, subst}
use Rattle.dblog_init.specs.declared.error.InitError.TheVariants.{Memory}
use Rattle.dblog_init.specs.declared.error.Store.TheVariants as store
use Rattle.dblog_capture.specs.Generated.{RunsGenerated}
use Rattle.dblog_capture.proofs.Generating.{asked_none, leaves_none, stopped}
use Rattle.dblog_capture.proofs.Statuses.{no_input, starved_known}
use Rattle.dblog_capture.proofs.capturing.run_generated.Goals as goal

pub make_and_capture-requires : goal.make_and_capture-requires
make_and_capture-requires g c = c.in-Ok.ensures.options

pub returns-in-Ok-clause-generated : goal.returns-in-Ok-clause-generated
returns-in-Ok-clause-generated g c =
    let left = c.make_and_capture.result in
    subst (λ (workload : List ℕ). RunsGenerated g.W.Disk g.T.Disk g.F.Disk workload c.args.now_ms.now
    c.args.disks left.disks left.end (g.O.Output.written c.args.output.now) (g.O.Output.written c.make_and_capture.new.output))
    c.in-Ok.ensures.workload c.make_and_capture.ensures.generated

pub returns-in-Ok-clause-not_input : goal.returns-in-Ok-clause-not_input
returns-in-Ok-clause-not_input g c = no_input c.make_and_capture.result.end c.make_and_capture.ensures.known

-- memory ran out before a disk was asked
pub returns-in-Err-clause-generated : goal.returns-in-Err-clause-generated
returns-in-Err-clause-generated g c =
    let wal = asked_none g.W.Disk store.Wal c.args.disks.wal in
    let topics = asked_none g.T.Disk store.Topics c.args.disks.topics in
    let offsets = asked_none g.F.Disk store.Offsets c.args.disks.offsets in
    stopped g.W.Disk g.T.Disk g.F.Disk _ c.args.now_ms.now
    c.args.disks c.args.disks c.say.result (g.O.Output.written c.args.output.now) (g.O.Output.written c.say.new.output)
    Memory c.say.ensures.says
    (leaves_none g.W.Disk store.Wal c.args.disks.wal) (leaves_none g.T.Disk store.Topics c.args.disks.topics)
    (leaves_none g.F.Disk store.Offsets c.args.disks.offsets)
    (g.met.F.Disk.seen_may_be_left c.args.disks.offsets) (λ unwritten. wal) (λ unwritten. topics) (λ unwritten. offsets) (λ w t failed. inl offsets) (λ is. (let t = is in cc)) (λ given same w t f. inr tt) (inr (inr tt)) (λ holds. (wal, (topics, offsets)))

pub returns-in-Err-clause-known : goal.returns-in-Err-clause-known
returns-in-Err-clause-known g c = starved_known c.say.result _ _ c.say.ensures.says

pub returns-in-Err-clause-not_input : goal.returns-in-Err-clause-not_input
returns-in-Err-clause-not_input g c = no_input c.say.result (starved_known c.say.result _ _ c.say.ensures.says)
