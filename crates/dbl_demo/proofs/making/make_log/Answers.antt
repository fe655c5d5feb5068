use Rattle.std.proofs.Common.{◌∙◌, Err, ap, sym, subst}
use Rattle.dbl_demo_workload.specs.declared.error.DemoError.{DemoError}
use Rattle.dbl_demo_workload.specs.Errors.{journal_error}
use Rattle.dbl_demo_workload.specs.Logs.{IsFailed}
use Rattle.dbl_demo_laws.specs.Made.{first_forms}
use Rattle.dbl_demo_laws.proofs.MakeLemmas.{first_small}
use Rattle.dbl_demo.proofs.BeginLemmas.{begun_disk, unmade_disk}
use Rattle.dbl_demo.specs.Begun.{first_room}
use Rattle.dbl_journal.specs.Calls.{Makes}
use Rattle.dbl_demo.proofs.making.make_log.Goals as goal

pub returns-in-Err-clause-disk : goal.returns-in-Err-clause-disk
returns-in-Err-clause-disk g c =
    unmade_disk g.D.Disk c.args.disk _ c.from.result c.in-Err.ensures.makes.small c.in-Err.ensures.makes.later (c.in-Err.ensures.makes.cause c.in-Err.ensures.refused) (c.from.ensures ∙ ap journal_error c.in-Err.ensures.refused)

pub returns-in-Ok-begin_log-clause-disk : goal.returns-in-Ok-begin_log-clause-disk
returns-in-Ok-begin_log-clause-disk g c =
    let made = c.in-Ok.ensures in
    let begun = c.in-Ok-begin_log.ensures in
    begun_disk g.D.Disk c.args.disk c.in-Ok.journal c.begin_log.new.journal (first_forms c.args.bytes.now c.args.prepared.now.rows) ⊥ c.requires.empty made.made made.makes.small begun.grows
    (first_small c.args.bytes.now c.args.prepared.now.rows c.requires.short c.requires.fits) made.makes.later begun.cause.later (λ never. absurd never) (made.makes.steady (λ never. never)) (λ no. begun.steady (λ is. let t = is in cc))

pub returns-in-Err-begin_log-clause-disk : goal.returns-in-Err-begin_log-clause-disk
returns-in-Err-begin_log-clause-disk g c =
    let made = c.in-Ok.ensures in
    let begun = c.begin_log.ensures in
    let e = c.in-Err-begin_log.error in
    subst (λ (d : g.row.D.Denot). Makes g.D.Disk first_room (IsFailed e) c.args.disk d) (sym c.into_disk.ensures)
    (begun_disk g.D.Disk c.args.disk c.in-Ok.journal c.begin_log.new.journal (first_forms c.args.bytes.now c.args.prepared.now.rows) (IsFailed e) c.requires.empty made.made made.makes.small begun.grows
    (first_small c.args.bytes.now c.args.prepared.now.rows c.requires.short c.requires.fits) made.makes.later begun.cause.later (λ failed. begun.cause.cause (c.in-Err-begin_log.is ∙ ap (λ (f : DemoError). Err f) failed)) (made.makes.steady (λ never. never))
    (λ no. begun.steady (λ is. no (let t = sym c.in-Err-begin_log.is ∙ is in cc))))
