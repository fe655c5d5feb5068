use Rattle.std.proofs.Common.{◌≢◌, subst}
use Rattle.dbl_demo.specs.DemoLaws.Made.{IsFreshWal}
use Rattle.dblog_init.specs.declared.error.InitError.TheVariants.{Failed}
use Rattle.dblog_init.specs.declared.error.Store.TheVariants.{Wal, Topics, Offsets}
use Rattle.dblog_init.specs.Answers.{InitEnd}
use Rattle.dblog_init.specs.Fresh.{IsEmptyLog, IsEmptyStore}
use Rattle.dblog_init.specs.Turns.{MakesOne}
use Rattle.dblog_init.proofs.EndLemmas.{IsMakeEnd}
use Rattle.dblog_init.proofs.TurnLemmas.{err_at, makes_none, ok_at, others_end, wal_end, wal_spares, wal_through, workload_end}
use Rattle.dblog_init.proofs.initializing.make_all.Goals as goal

-- the source couldn't be made
pub returns-in-Err : goal.returns-in-Err
returns-in-Err g c =
    let end = c.make_wal-wal.result.1 in
    let e = c.in-Err.error in
    let workload = c.args.workload.now in
    let topics : e ≢ Failed Topics = err_at end e (λ x. x ≢ Failed Topics) c.in-Err.is (wal_spares workload Topics (λ is. cc) end c.make_wal-wal.ensures.refused) in
    let offsets : e ≢ Failed Offsets = err_at end e (λ x. x ≢ Failed Offsets) c.in-Err.is (wal_spares workload Offsets (λ is. cc) end c.make_wal-wal.ensures.refused) in
    record {
      wal = subst (λ (x : InitEnd). MakesOne g.W.Disk Wal (IsFreshWal workload) x c.args.disks.wal c.make_wal-wal.result.0) c.in-Err.is c.make_wal-wal.ensures.makes;
      topics = makes_none g.T.Disk Topics IsEmptyLog e topics c.args.disks.topics;
      offsets = makes_none g.F.Disk Offsets IsEmptyStore e offsets c.args.disks.offsets;
      refused = err_at end e (IsMakeEnd workload) c.in-Err.is (wal_end workload end c.make_wal-wal.ensures.refused);
      workload = tt;
      torn = λ w t is. absurd (offsets (let h = is in cc));
    }

pub returns-in-Ok : goal.returns-in-Ok
returns-in-Ok g c =
    let first = c.make_wal-wal.result.1 in
    let end = c.make_others-topics.result.2 in
    let workload = c.args.workload.now in
    record {
      wal = wal_through g.W.Disk (IsFreshWal workload) first end c.in-Ok.is c.make_others-topics.ensures.kinds c.args.disks.wal _ c.make_wal-wal.ensures.makes;
      topics = c.make_others-topics.ensures.topics;
      offsets = c.make_others-topics.ensures.offsets;
      refused = others_end workload end c.make_others-topics.ensures.kinds;
      workload = workload_end _ first end c.in-Ok.is c.make_wal-wal.ensures.workload;
      torn = λ w t is. (
          let torn = c.make_others-topics.ensures.torn t is in
          record { wal_made = ok_at first _ c.in-Ok.is (c.make_wal-wal.ensures.makes.made w); topics_made = torn.0; offsets_torn = torn.1 });
    }
