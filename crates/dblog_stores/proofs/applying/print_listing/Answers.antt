use Rattle.std.proofs.Common.{ap, subst, sym, arith}
use Rattle.dblog_stores.specs.Applying.{AppliesStores}
use Rattle.dblog_stores.specs.Ends.{IsSynced}
use Rattle.dblog_stores.specs.declared.error.Store.TheVariants.{Topics, Offsets}
use Rattle.dblog_stores.proofs.Answering.{apply_run, no_log_run, no_store_run}
use Rattle.dblog_stores.proofs.ErrorLaws.{no_output}
use Rattle.dblog_stores.proofs.Kept.{err_one, failed_with}
use Rattle.dblog_stores.proofs.Opened.{end_after, not_yet_opened, opened_running, other_no_store, synced_then}
use Rattle.dblog_stores.proofs.applying.print_listing.Goals as goal

pub returns-in-Err-clause-told : goal.returns-in-Err-clause-told
returns-in-Err-clause-told g c = λ t f told other. no_log_run c.args.listing t f c.in-Err.field-0.error _ (c.in-Err.ensures.refused t told)

pub returns-in-Err-clause-output : goal.returns-in-Err-clause-output
returns-in-Err-clause-output g c = record { later = omega arith; cause = λ e. absurd (no_output Topics c.in-Err.field-0.error c.in-Err.ensures.kinds (err_one c.in-Err.field-0.error _ e)) }

pub returns-in-Ok-open_offsets-clause-told : goal.returns-in-Ok-open_offsets-clause-told
returns-in-Ok-open_offsets-clause-told g c = λ t f told other.
    let opened = c.in-Ok.ensures.opened t told in
    apply_run c.args.listing t f opened.0 c.in-Ok-open_offsets.store.offset c.print_stored-end.result _ _ opened.1 (c.in-Ok-open_offsets.ensures.opened f other)
    (subst (λ o. AppliesStores c.args.listing opened.0 o c.print_stored-end.result (g.O.Output.written c.args.output.now) (g.O.Output.written c.print_stored-end.new.output)) c.load.ensures.offset (c.print_stored-end.ensures.told opened.0 opened.2))

pub returns-in-Ok-open_offsets-clause-known_unwritten : goal.returns-in-Ok-open_offsets-clause-known_unwritten
returns-in-Ok-open_offsets-clause-known_unwritten g c = λ t f told other.
    let opened = c.in-Ok.ensures.opened t told in c.print_stored-end.ensures.known_unwritten opened.0 opened.2

pub returns-in-Ok-open_offsets-clause-unopened : goal.returns-in-Ok-open_offsets-clause-unopened
returns-in-Ok-open_offsets-clause-unopened g c = λ t told none. let opened = c.in-Ok.ensures.opened t told in absurd (none opened.0 opened.1)

pub returns-in-Err-open_offsets-clause-told : goal.returns-in-Err-open_offsets-clause-told
returns-in-Err-open_offsets-clause-told g c = λ t f told other.
    let opened = c.in-Ok.ensures.opened t told in
    no_store_run c.args.listing t f opened.0 c.in-Err-open_offsets.field-0.error _ opened.1 (c.in-Err-open_offsets.ensures.refused f other)

pub returns-in-Err-open_offsets-clause-unopened : goal.returns-in-Err-open_offsets-clause-unopened
returns-in-Err-open_offsets-clause-unopened g c = λ t told none. let opened = c.in-Ok.ensures.opened t told in absurd (none opened.0 opened.1)

pub returns-in-Err-open_offsets-clause-output : goal.returns-in-Err-open_offsets-clause-output
returns-in-Err-open_offsets-clause-output g c = record { later = omega arith; cause = λ e. absurd (no_output Offsets c.in-Err-open_offsets.field-0.error c.in-Err-open_offsets.ensures.kinds (err_one c.in-Err-open_offsets.field-0.error _ e)) }

-- ---- a topics disk that holds no log

pub returns-in-Err-clause-no_log : goal.returns-in-Err-clause-no_log
returns-in-Err-clause-no_log g c = λ t f told none. no_log_run c.args.listing t f c.in-Err.field-0.error _ (c.in-Err.ensures.refused t told)

pub returns-in-Ok-open_offsets-clause-no_log : goal.returns-in-Ok-open_offsets-clause-no_log
returns-in-Ok-open_offsets-clause-no_log g c = λ t f told none. let opened = c.in-Ok.ensures.opened t told in absurd (none opened.0 opened.1)

pub returns-in-Err-open_offsets-clause-no_log : goal.returns-in-Err-open_offsets-clause-no_log
returns-in-Err-open_offsets-clause-no_log g c = λ t f told none. let opened = c.in-Ok.ensures.opened t told in absurd (none opened.0 opened.1)

pub returns-in-Ok-open_offsets-clause-no_store : goal.returns-in-Ok-open_offsets-clause-no_store
returns-in-Ok-open_offsets-clause-no_store g c = λ at e. absurd (end_after c.print_stored-end.result Topics at c.print_stored-end.ensures.a_store e)

pub returns-in-Err-open_offsets-clause-no_store : goal.returns-in-Err-open_offsets-clause-no_store
returns-in-Err-open_offsets-clause-no_store g c = λ at e. absurd (other_no_store c.in-Err-open_offsets.field-0.error at c.in-Err-open_offsets.ensures.kinds (err_one c.in-Err-open_offsets.field-0.error _ e))

-- ---- what a crash leaves of the disks

pub returns-in-Err-clause-topics_stable : goal.returns-in-Err-clause-topics_stable
returns-in-Err-clause-topics_stable g c = λ other. c.in-Err.ensures.stable (λ e. other (ap failed_with e))

pub returns-in-Err-clause-offsets_stable : goal.returns-in-Err-clause-offsets_stable
returns-in-Err-clause-offsets_stable g c = λ opened. absurd (not_yet_opened c.in-Err.field-0.error c.in-Err.ensures.kinds opened)

pub returns-in-Ok-open_offsets-clause-topics_stable : goal.returns-in-Ok-open_offsets-clause-topics_stable
returns-in-Ok-open_offsets-clause-topics_stable g c = λ other.
    subst (λ d. IsSynced g.T.Disk c.args.topics d) (sym c.into_disk.ensures) (synced_then g.T.Disk _ _ _ _ c.in-Ok.ensures.stable c.print_stored-end.ensures.keeps)

pub returns-in-Ok-open_offsets-clause-offsets_stable : goal.returns-in-Ok-open_offsets-clause-offsets_stable
returns-in-Ok-open_offsets-clause-offsets_stable g c = λ opened.
    subst (λ d. IsSynced g.F.Disk c.args.offsets d) (sym c.into_disk-in-Ok-open_offsets.ensures) c.in-Ok-open_offsets.ensures.stable

pub returns-in-Err-open_offsets-clause-topics_stable : goal.returns-in-Err-open_offsets-clause-topics_stable
returns-in-Err-open_offsets-clause-topics_stable g c = λ other.
    subst (λ d. IsSynced g.T.Disk c.args.topics d) (sym c.into_disk-in-Err-open_offsets.ensures) c.in-Ok.ensures.stable

pub returns-in-Err-open_offsets-clause-offsets_stable : goal.returns-in-Err-open_offsets-clause-offsets_stable
returns-in-Err-open_offsets-clause-offsets_stable g c = λ opened. c.in-Err-open_offsets.ensures.stable (opened_running c.in-Err-open_offsets.field-0.error opened)
