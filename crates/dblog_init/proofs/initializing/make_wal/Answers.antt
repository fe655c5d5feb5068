use Rattle.std.proofs.Common.{Err, ap, sym, subst}
use Rattle.dblog_init.specs.declared.error.InitError.{InitError}
use Rattle.dblog_init.specs.declared.error.Store.TheVariants.{Wal}
use Rattle.dblog_init.specs.Disks.{LeavesDisk}
use Rattle.dblog_init.proofs.MadeLemmas.{leaves_short, stored_wal, wal_failed, wal_fails, wal_refused, wal_unwritten}
use Rattle.dblog_init.proofs.initializing.make_wal.Goals as goal

pub returns-in-Ok-clause-makes : goal.returns-in-Ok-clause-makes
returns-in-Ok-clause-makes g c = record {
  made = λ told. (
      let made = c.in-Ok.ensures.made told in
      stored_wal g.D.Disk c.into_disk.result c.args.workload.now _ made.0 made.1 made.2 c.into_disk.ensures);
  untouched = λ no. absurd no;
  leaves =
      subst (λ (d : g.row.D.Denot). LeavesDisk g.D.Disk Wal _ c.args.disk d) (sym c.into_disk.ensures)
      (leaves_short g.D.Disk Wal _ c.args.disk _ c.requires.empty c.in-Ok.ensures.later (λ is. let t = is in cc) (λ no. c.in-Ok.ensures.steady) c.in-Ok.ensures.small);
}

pub returns-in-Err-clause-refused : goal.returns-in-Err-clause-refused
returns-in-Err-clause-refused g c = wal_refused c.args.workload.now c.in-Err.field-0.error c.from.result c.from.ensures c.in-Err.ensures.refused

pub returns-in-Err-clause-makes : goal.returns-in-Err-clause-makes
returns-in-Err-clause-makes g c = record {
  made = λ told. tt;
  untouched = λ unwritten. c.in-Err.ensures.untouched (wal_unwritten c.args.workload.now c.in-Err.field-0.error c.from.result c.from.ensures c.in-Err.ensures.refused unwritten);
  leaves =
      leaves_short g.D.Disk Wal _ c.args.disk _ c.requires.empty c.in-Err.ensures.later
      (λ is. c.in-Err.ensures.failed (wal_failed c.args.workload.now c.in-Err.field-0.error c.from.result c.from.ensures c.in-Err.ensures.refused (let t = is in cc)))
      (λ no. c.in-Err.ensures.steady (λ is. no (ap (λ (e : InitError). Err e) (wal_fails c.args.workload.now c.in-Err.field-0.error c.from.result c.from.ensures is))))
      c.in-Err.ensures.small;
}
