use Rattle.std.proofs.Common.{◌≡◌, ap}
use Rattle.std.specs.Prelude.{Err}
use Rattle.dbl_journal.specs.declared.error.JournalError.{JournalError}
use Rattle.dbl_source_log.specs.declared.error.SourceError.TheVariants as source
use Rattle.dbl_demo_journal.specs.Errors.{source_error}
use Rattle.dbl_demo_laws.proofs.KnownLemmas.{known_read}
use Rattle.dbl_demo_journal.proofs.JournalLemmas.{comes_by_read, failed_on, was_failed}
use Rattle.dbl_demo_journal.proofs.appending.entry.Goals as goal

pub returns-in-Ok-clause-comes : goal.returns-in-Ok-clause-comes
returns-in-Ok-clause-comes g c = let e = c.entry.ensures in comes_by_read g.D.Disk c.args.journal.now c.entry.new.self e.same e.seen e.lists

pub returns-in-Err-clause-comes : goal.returns-in-Err-clause-comes
returns-in-Err-clause-comes g c = let e = c.entry.ensures in comes_by_read g.D.Disk c.args.journal.now c.entry.new.self e.same e.seen e.lists

pub returns-in-Err-clause-cause : goal.returns-in-Err-clause-cause
returns-in-Err-clause-cause g c = record { later = c.in-Err.ensures.cause.later; cause = λ is. let failed : source_error c.in-Err.error ≡ source.Failed = (let told = c.source_error.ensures in let t = is in cc) in c.in-Err.ensures.cause.cause (ap (λ (e : JournalError). Err e) (was_failed c.in-Err.error failed)) }

pub returns-in-Ok-clause-steady : goal.returns-in-Ok-clause-steady
returns-in-Ok-clause-steady g c = λ not. known_read g.D.Disk _ _ c.entry.ensures.seen (c.in-Ok.ensures.steady (λ failed. (let wrong = failed in cc)))

pub returns-in-Err-clause-steady : goal.returns-in-Err-clause-steady
returns-in-Err-clause-steady g c =
    λ not. known_read g.D.Disk _ _ c.entry.ensures.seen (c.in-Err.ensures.steady (λ failed. not (failed_on c.in-Err.error c.source_error.result c.source_error.ensures failed)))
