use Rattle.std.proofs.Common.{◌≡◌, ◌∙◌, ◌⊎◌, ℤ, refl, sym, ap, subst}
use Rattle.std.proofs.Math.Facts.{to_z-of_z}
use Rattle.dblog_init.specs.declared.error.Store.TheVariants as store
use Rattle.dblog_connect_ends.specs.declared.error.ConnectError.{ConnectError}
use Rattle.dblog_connect.specs.Ends.{IsRefused}
use Rattle.dblog_connect_ends.specs.Errors.{IsBeforeStore, IsAfterOpening, IsExternalConnectError, topic_error}
use Rattle.dblog_connect.specs.Refusals.{IsErrorFor}
use Rattle.dblog_connect.specs.Steps.{AnswersConnect, disks_of}
use Rattle.dblog_connect.proofs.ErrorKinds.{after_wal, bounded_on, counts_by, counts_on, counts_same, err_as, moved_crash, no_refusal, not_before_offsets, only_same, read_on, steady_on, topic_ends, topic_fails, topic_kind}
use Rattle.dblog_connect.proofs.Opened.{bounded_same, store_bounded_same}
use Rattle.dblog_connect.proofs.Stays.{IsUnhalted, answers_before, answers_stay}
use Rattle.dblog_connect.proofs.connecting.connect_source.Goals as goal

-- ---- the topic log isn't opened

pub returns-in-Err-clause-answers : goal.returns-in-Err-clause-answers
returns-in-Err-clause-answers g c =
    answers_stay g.W.Disk g.T.Disk g.F.Disk g.met.W.Disk.seen_may_be_left g.met.T.Disk.seen_may_be_left g.met.F.Disk.seen_may_be_left (disks_of c.args.source.journal.disk c.args.topics c.args.offsets) (disks_of c.into_disk.result c.in-Err.field-0.disk c.args.offsets) (ap g.W.Disk.seen c.into_disk.ensures) c.in-Err.ensures.keeps.same refl (moved_crash g.W.Disk c.args.source.journal.disk c.into_disk.result c.into_disk.ensures) c.in-Err.ensures.keeps.crash (λ i m. m)
    c.args.asked c.args.now_ms c.from.result (subst IsUnhalted (sym c.from.ensures) (topic_kind c.in-Err.field-0.error).1)
    (λ w t f told_w told_t told_f. subst (λ (x : ConnectError). IsExternalConnectError x ⊎ IsRefused c.args.asked w t f x) (sym c.from.ensures)
    (topic_ends c.args.asked w t f (c.requires.opened w told_w).wal (c.requires.opened w told_w).is c.in-Err.field-0.error (λ index is. c.in-Err.ensures.bad t told_t index is) (λ at is. c.in-Err.ensures.refused t told_t at is)))

pub returns-in-Err-clause-kinds : goal.returns-in-Err-clause-kinds
returns-in-Err-clause-kinds g c = subst (IsErrorFor c.args.asked) (sym c.from.ensures) (let kind = topic_kind c.in-Err.field-0.error in no_refusal c.args.asked (topic_error c.in-Err.field-0.error) kind.0 kind.1)

pub returns-in-Err-clause-after_opening : goal.returns-in-Err-clause-after_opening
returns-in-Err-clause-after_opening g c = subst (IsAfterOpening store.Wal) (sym c.from.ensures) (topic_kind c.in-Err.field-0.error).2

pub returns-in-Err-clause-offsets_stay : goal.returns-in-Err-clause-offsets_stay
returns-in-Err-clause-offsets_stay g c = λ before. refl

pub returns-in-Err-clause-wal_read : goal.returns-in-Err-clause-wal_read
returns-in-Err-clause-wal_read g c = λ refusal. only_same g.W.Disk c.args.source.journal.disk c.into_disk.result c.into_disk.ensures

pub returns-in-Err-clause-topics_read : goal.returns-in-Err-clause-topics_read
returns-in-Err-clause-topics_read g c = λ refusal. record { same = c.in-Err.ensures.keeps.same; crash = c.in-Err.ensures.keeps.crash }

pub returns-in-Err-clause-offsets_read : goal.returns-in-Err-clause-offsets_read
returns-in-Err-clause-offsets_read g c = λ refusal. only_same g.F.Disk c.args.offsets c.args.offsets refl

pub returns-in-Err-clause-wal_counts : goal.returns-in-Err-clause-wal_counts
returns-in-Err-clause-wal_counts g c = counts_same g.W.Disk store.Wal _ c.args.source.journal.disk c.into_disk.result c.into_disk.ensures (λ is. (let wrong = (topic_fails c.in-Err.field-0.error store.Wal (sym c.from.ensures ∙ (let i = is in cc))).0 in cc))

pub returns-in-Err-clause-topics_count : goal.returns-in-Err-clause-topics_count
returns-in-Err-clause-topics_count g c = counts_by g.T.Disk store.Topics c.from.result c.args.topics c.in-Err.field-0.disk c.in-Err.ensures.keeps.later (λ is. c.in-Err.ensures.keeps.cause (topic_fails c.in-Err.field-0.error store.Topics (sym c.from.ensures ∙ is)).1)

pub returns-in-Err-clause-offsets_count : goal.returns-in-Err-clause-offsets_count
returns-in-Err-clause-offsets_count g c = counts_same g.F.Disk store.Offsets _ c.args.offsets c.args.offsets refl (λ is. (let wrong = (topic_fails c.in-Err.field-0.error store.Offsets (sym c.from.ensures ∙ (let i = is in cc))).0 in cc))

pub returns-in-Err-clause-wal_bounded : goal.returns-in-Err-clause-wal_bounded
returns-in-Err-clause-wal_bounded g c = bounded_same g.W.Disk c.args.source.journal.disk c.into_disk.result (ap g.W.Disk.seen c.into_disk.ensures)

pub returns-in-Err-clause-topics_bounded : goal.returns-in-Err-clause-topics_bounded
returns-in-Err-clause-topics_bounded g c = bounded_same g.T.Disk c.args.topics c.in-Err.field-0.disk c.in-Err.ensures.keeps.same

pub returns-in-Err-clause-offsets_bounded : goal.returns-in-Err-clause-offsets_bounded
returns-in-Err-clause-offsets_bounded g c = store_bounded_same g.F.Disk c.args.offsets c.args.offsets refl

-- ---- it is

pub connect_log-requires-clause-log_opened : goal.connect_log-requires-clause-log_opened
connect_log-requires-clause-log_opened g c = λ bytes told. (let here = c.in-Ok.ensures.opened bytes (sym c.in-Ok.ensures.keeps.same ∙ told) in record { told = told; groups = here.0; is = here.1; holds = here.2 })

pub returns-in-Ok-clause-answers : goal.returns-in-Ok-clause-answers
returns-in-Ok-clause-answers g c =
    answers_before g.W.Disk g.T.Disk g.F.Disk g.met.W.Disk.seen_may_be_left g.met.T.Disk.seen_may_be_left g.met.F.Disk.seen_may_be_left (disks_of c.args.source.journal.disk c.args.topics c.args.offsets) (disks_of c.args.source.journal.disk c.in-Ok.log.disk c.args.offsets) refl c.in-Ok.ensures.keeps.same refl (λ i m. m) c.in-Ok.ensures.keeps.crash (λ i m. m)
    c.args.asked c.args.now_ms c.connect_log.result.disks c.connect_log.result.end
    (subst (λ (n : ℤ). AnswersConnect g.W.Disk g.T.Disk g.F.Disk c.args.asked n (disks_of c.args.source.journal.disk c.in-Ok.log.disk c.args.offsets) c.connect_log.result.disks c.connect_log.result.end) (to_z-of_z c.ranges.now_ms) c.connect_log.ensures.answers)

pub returns-in-Ok-clause-after_opening : goal.returns-in-Ok-clause-after_opening
returns-in-Ok-clause-after_opening g c = err_as c.connect_log.result.end (IsAfterOpening store.Topics) (IsAfterOpening store.Wal) after_wal c.connect_log.ensures.after_opening

pub returns-in-Ok-clause-offsets_stay : goal.returns-in-Ok-clause-offsets_stay
returns-in-Ok-clause-offsets_stay g c =
    err_as c.connect_log.result.end (IsAfterOpening store.Topics) (λ e. IsBeforeStore store.Offsets e → c.connect_log.result.disks.offsets ≡ c.args.offsets) (λ e subsequent before. absurd (not_before_offsets e subsequent before)) c.connect_log.ensures.after_opening

pub returns-in-Ok-clause-topics_read : goal.returns-in-Ok-clause-topics_read
returns-in-Ok-clause-topics_read g c = read_on g.T.Disk c.connect_log.result.end c.args.topics c.in-Ok.log.disk c.connect_log.result.disks.topics c.in-Ok.ensures.keeps.same c.in-Ok.ensures.keeps.crash c.connect_log.ensures.topics_read

pub returns-in-Ok-clause-topics_count : goal.returns-in-Ok-clause-topics_count
returns-in-Ok-clause-topics_count g c = counts_on g.T.Disk store.Topics c.connect_log.result.end c.args.topics c.in-Ok.log.disk c.connect_log.result.disks.topics c.in-Ok.ensures.keeps.later c.connect_log.ensures.topics_count

pub returns-in-Ok-clause-topics_bounded : goal.returns-in-Ok-clause-topics_bounded
returns-in-Ok-clause-topics_bounded g c = bounded_on g.T.Disk c.args.topics c.in-Ok.log.disk c.connect_log.result.disks.topics c.in-Ok.ensures.keeps.same c.connect_log.ensures.topics_bounded

pub returns-in-Ok-clause-steady : goal.returns-in-Ok-clause-steady
returns-in-Ok-clause-steady g c =
    steady_on g.W.Disk g.T.Disk g.F.Disk c.connect_log.result.end (disks_of c.args.source.journal.disk c.args.topics c.args.offsets) (disks_of c.args.source.journal.disk c.in-Ok.log.disk c.args.offsets) c.connect_log.result.disks
    refl c.in-Ok.ensures.keeps.same refl (record { wal = λ bytes told. refl; topics = c.in-Ok.ensures.keeps.steady (λ none. none); offsets = λ bytes told. refl }) c.connect_log.ensures.steady
