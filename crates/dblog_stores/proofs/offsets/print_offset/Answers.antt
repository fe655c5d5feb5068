use Rattle.std.proofs.Common.{◌≡◌, Err, ap, subst, sym, inr, arith}
use Rattle.dblog_stores.specs.Applying.{TellsOffset}
use Rattle.dblog_stores.specs.Ends.{IsSynced}
use Rattle.dblog_stores.specs.declared.error.CommandError.TheVariants.{Failed}
use Rattle.dblog_stores.specs.declared.error.Store.TheVariants.{Offsets}
use Rattle.dblog_stores.proofs.Answering.{no_offsets_run, offset_run}
use Rattle.dblog_stores.proofs.ErrorLaws.{no_output}
use Rattle.dblog_stores.proofs.Kept.{err_one, failed_with, keeps_never, keeps_told}
use Rattle.dbl_journal.specs.Calls.{Keeps}
use Rattle.dblog_stores.proofs.offsets.print_offset.Goals as goal

pub returns-in-Ok-clause-told : goal.returns-in-Ok-clause-told
returns-in-Ok-clause-told g c bytes told =
    offset_run bytes c.in-Ok.store.offset c.print_loaded-end.result _ _ (c.in-Ok.ensures.opened bytes told)
    (subst (λ o. TellsOffset o c.print_loaded-end.result (g.O.Output.written c.args.output.now) (g.O.Output.written c.print_loaded-end.new.output)) c.load.ensures.offset c.print_loaded-end.ensures.told)

pub returns-in-Ok-clause-keeps : goal.returns-in-Ok-clause-keeps
returns-in-Ok-clause-keeps g c =
    subst (λ d. Keeps g.D.Disk (c.print_loaded-end.result ≡ Err (Failed Offsets)) c.args.disk d) (sym c.into_disk.ensures)
    (keeps_never g.D.Disk _ _ _ (c.print_loaded-end.ensures.running Offsets) c.in-Ok.ensures.keeps)

pub returns-in-Err-clause-told : goal.returns-in-Err-clause-told
returns-in-Err-clause-told g c bytes told = no_offsets_run bytes c.in-Err.field-0.error _ (c.in-Err.ensures.refused bytes told)

pub returns-in-Err-clause-keeps : goal.returns-in-Err-clause-keeps
returns-in-Err-clause-keeps g c = keeps_told g.D.Disk (Failed Offsets) c.in-Err.field-0.error _ _ c.in-Err.ensures.keeps

pub returns-in-Err-clause-kinds : goal.returns-in-Err-clause-kinds
returns-in-Err-clause-kinds g c = inr (inr c.in-Err.ensures.kinds)

pub returns-in-Err-clause-output : goal.returns-in-Err-clause-output
returns-in-Err-clause-output g c = record { later = omega arith; cause = λ e. absurd (no_output Offsets c.in-Err.field-0.error c.in-Err.ensures.kinds (err_one c.in-Err.field-0.error _ e)) }

pub returns-in-Ok-clause-stable : goal.returns-in-Ok-clause-stable
returns-in-Ok-clause-stable g c = λ other. subst (λ d. IsSynced g.D.Disk c.args.disk d) (sym c.into_disk.ensures) c.in-Ok.ensures.stable

pub returns-in-Err-clause-stable : goal.returns-in-Err-clause-stable
returns-in-Err-clause-stable g c = λ other. c.in-Err.ensures.stable (λ e. other (ap failed_with e))
