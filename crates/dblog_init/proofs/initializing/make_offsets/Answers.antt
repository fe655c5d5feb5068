use Rattle.std.proofs.Common.{◌∙◌, Err, ap, arith, sym, subst}
use Rattle.dblog_init.specs.declared.error.InitError.{InitError}
use Rattle.dblog_init.specs.declared.error.Store.TheVariants.{Offsets}
use Rattle.dblog_init.specs.Disks.{EndsBeforeWriting, LeavesDisk}
use Rattle.dblog_init.specs.Errors.{offset_error}
use Rattle.dblog_init.proofs.MadeLemmas.{leaves_short, stored_offset}
use Rattle.dblog_init.proofs.initializing.make_offsets.Goals as goal

pub returns-in-Ok-clause-makes : goal.returns-in-Ok-clause-makes
returns-in-Ok-clause-makes g c = record {
  made = λ told. stored_offset g.D.Disk c.into_disk.result _ (c.in-Ok.ensures.made told) c.into_disk.ensures;
  untouched = λ no. absurd no;
  leaves =
      subst (λ (d : g.row.D.Denot). LeavesDisk g.D.Disk Offsets _ c.args.disk d) (sym c.into_disk.ensures)
      (leaves_short g.D.Disk Offsets _ c.args.disk _ c.requires c.in-Ok.ensures.makes.later (λ is. let t = is in cc)
      (λ no. c.in-Ok.ensures.makes.steady (λ never. never))
      (λ bytes was is. (let few = c.in-Ok.ensures.makes.small bytes was is in omega (arith, few))));
}

pub returns-in-Err-clause-kinds : goal.returns-in-Err-clause-kinds
returns-in-Err-clause-kinds g c = c.from.ensures ∙ ap offset_error c.in-Err.ensures.refused

pub returns-in-Err-clause-makes : goal.returns-in-Err-clause-makes
returns-in-Err-clause-makes g c =
    let is = c.from.ensures ∙ ap offset_error c.in-Err.ensures.refused in
    record {
      made = λ told. tt;
      untouched = λ unwritten. absurd (subst (λ (e : InitError). EndsBeforeWriting Offsets (Err e)) is unwritten);
      leaves =
          leaves_short g.D.Disk Offsets _ c.args.disk _ c.requires c.in-Err.ensures.makes.later
          (λ failed. c.in-Err.ensures.makes.cause c.in-Err.ensures.refused)
          (λ no. absurd (no (ap (λ (e : InitError). Err e) is))) (λ bytes was is. (let few = c.in-Err.ensures.makes.small bytes was is in omega (arith, few)));
    }

pub returns-in-Err-clause-torn : goal.returns-in-Err-clause-torn
returns-in-Err-clause-torn g c = c.in-Err.ensures.left
