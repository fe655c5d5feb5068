use Rattle.std.proofs.Common.{◌≡◌, ap}
use Rattle.std.specs.Prelude.{Err}
use Rattle.dbl_journal.specs.declared.error.JournalError.{JournalError}
use Rattle.dbl_source_log.specs.declared.error.SourceError.TheVariants as source
use Rattle.dbl_demo_journal.specs.Errors.{source_error}
use Rattle.dbl_demo_laws.proofs.KnownLemmas.{known_written}
use Rattle.dbl_demo_journal.proofs.JournalLemmas.{append_stays, failed_on, lists_kept, not_failed, was_failed}
use Rattle.dbl_demo_journal.proofs.appending.append.Goals as goal

pub returns-in-Err-clause-kept : goal.returns-in-Err-clause-kept
returns-in-Err-clause-kept g c = λ forms lists is.
    let e = c.in-Err.error in
    let memory : source_error e ≡ source.Memory = (let told = c.source_error.ensures in let t = is in cc) in
    lists_kept g.D.Disk c.args.journal.now c.append_built.new.self (c.in-Err.ensures.unchanged (λ failed. not_failed e memory (let f = failed in cc))) forms lists

pub returns-in-Err-clause-stays : goal.returns-in-Err-clause-stays
returns-in-Err-clause-stays g c =
    append_stays c.args.journal.now c.append_built.new.self c.in-Err.error (λ failed. c.in-Err.ensures.puts.dead (ap (λ (e : JournalError). Err e) failed)) (λ other. c.in-Err.ensures.unchanged (λ failed. other (let f = failed in cc)))

pub returns-in-Err-clause-cause : goal.returns-in-Err-clause-cause
returns-in-Err-clause-cause g c = record { later = c.in-Err.ensures.puts.later; cause = λ is. let failed : source_error c.in-Err.error ≡ source.Failed = (let told = c.source_error.ensures in let t = is in cc) in c.in-Err.ensures.puts.cause (ap (λ (e : JournalError). Err e) (was_failed c.in-Err.error failed)) }

pub returns-in-Ok-clause-steady : goal.returns-in-Ok-clause-steady
returns-in-Ok-clause-steady g c = λ not. known_written g.D.Disk _ _ c.in-Ok.ensures.puts (λ failed. (let wrong = failed in cc))

pub returns-in-Err-clause-steady : goal.returns-in-Err-clause-steady
returns-in-Err-clause-steady g c = λ not. known_written g.D.Disk _ _ c.in-Err.ensures.puts (λ failed. not (failed_on c.in-Err.error c.source_error.result c.source_error.ensures failed))
