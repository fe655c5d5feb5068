use Rattle.std.proofs.Common.{◌≡◌, ◌∙◌, ◌⊎◌, ℤ, refl, sym, subst}
use Rattle.std.proofs.Math.Facts.{to_z-of_z}
use Rattle.dblog_init.specs.declared.error.Store.TheVariants as store
use Rattle.dblog_connect_ends.specs.declared.error.ConnectError.{ConnectError}
use Rattle.dblog_connect.specs.Ends.{IsRefused, IsWrongSource}
use Rattle.dblog_connect_ends.specs.Errors.{IsBeforeStore, IsAfterOpening, IsExternalConnectError, demo_error}
use Rattle.dblog_connect.specs.Refusals.{IsErrorFor}
use Rattle.dblog_connect.specs.Steps.{AnswersConnect, disks_of}
use Rattle.dblog_connect.proofs.ErrorKinds.{bounded_on, counts_by, counts_on, counts_same, demo_ends, demo_fails, demo_kind, demo_wrong, err_as, no_refusal, not_before_topics, not_wrong, only_same, read_on, steady_on}
use Rattle.dblog_connect.proofs.Opened.{bounded_same, store_bounded_same}
use Rattle.dblog_connect.proofs.Stays.{IsUnhalted, answers_before, answers_stay}
use Rattle.dblog_connect.proofs.connecting.connect.Goals as goal

-- ---- the source isn't opened

pub returns-in-Err-clause-headline : goal.returns-in-Err-clause-headline
returns-in-Err-clause-headline g c =
    (answers_stay g.W.Disk g.T.Disk g.F.Disk g.met.W.Disk.seen_may_be_left g.met.T.Disk.seen_may_be_left g.met.F.Disk.seen_may_be_left c.args.disks (disks_of c.in-Err.field-0.disk c.args.disks.topics c.args.disks.offsets) c.in-Err.ensures.seen refl refl c.in-Err.ensures.crash (λ i m. m) (λ i m. m)
    c.args.asked c.args.now_ms c.from.result (subst IsUnhalted (sym c.from.ensures) (demo_kind c.in-Err.field-0.error).1)
    (λ w t f told_w told_t told_f. subst (λ (x : ConnectError). IsExternalConnectError x ⊎ IsRefused c.args.asked w t f x) (sym c.from.ensures)
    (demo_ends c.args.asked w t f c.in-Err.field-0.error (λ index is. c.in-Err.ensures.bad w index told_w is) (λ at is. c.in-Err.ensures.not_a_journal w at told_w is)))).headline

pub returns-in-Err-clause-kept : goal.returns-in-Err-clause-kept
returns-in-Err-clause-kept g c =
    (answers_stay g.W.Disk g.T.Disk g.F.Disk g.met.W.Disk.seen_may_be_left g.met.T.Disk.seen_may_be_left g.met.F.Disk.seen_may_be_left c.args.disks (disks_of c.in-Err.field-0.disk c.args.disks.topics c.args.disks.offsets) c.in-Err.ensures.seen refl refl c.in-Err.ensures.crash (λ i m. m) (λ i m. m)
    c.args.asked c.args.now_ms c.from.result (subst IsUnhalted (sym c.from.ensures) (demo_kind c.in-Err.field-0.error).1)
    (λ w t f told_w told_t told_f. subst (λ (x : ConnectError). IsExternalConnectError x ⊎ IsRefused c.args.asked w t f x) (sym c.from.ensures)
    (demo_ends c.args.asked w t f c.in-Err.field-0.error (λ index is. c.in-Err.ensures.bad w index told_w is) (λ at is. c.in-Err.ensures.not_a_journal w at told_w is)))).kept

pub returns-in-Err-clause-report : goal.returns-in-Err-clause-report
returns-in-Err-clause-report g c =
    (answers_stay g.W.Disk g.T.Disk g.F.Disk g.met.W.Disk.seen_may_be_left g.met.T.Disk.seen_may_be_left g.met.F.Disk.seen_may_be_left c.args.disks (disks_of c.in-Err.field-0.disk c.args.disks.topics c.args.disks.offsets) c.in-Err.ensures.seen refl refl c.in-Err.ensures.crash (λ i m. m) (λ i m. m)
    c.args.asked c.args.now_ms c.from.result (subst IsUnhalted (sym c.from.ensures) (demo_kind c.in-Err.field-0.error).1)
    (λ w t f told_w told_t told_f. subst (λ (x : ConnectError). IsExternalConnectError x ⊎ IsRefused c.args.asked w t f x) (sym c.from.ensures)
    (demo_ends c.args.asked w t f c.in-Err.field-0.error (λ index is. c.in-Err.ensures.bad w index told_w is) (λ at is. c.in-Err.ensures.not_a_journal w at told_w is)))).report

pub returns-in-Err-clause-never : goal.returns-in-Err-clause-never
returns-in-Err-clause-never g c =
    (answers_stay g.W.Disk g.T.Disk g.F.Disk g.met.W.Disk.seen_may_be_left g.met.T.Disk.seen_may_be_left g.met.F.Disk.seen_may_be_left c.args.disks (disks_of c.in-Err.field-0.disk c.args.disks.topics c.args.disks.offsets) c.in-Err.ensures.seen refl refl c.in-Err.ensures.crash (λ i m. m) (λ i m. m)
    c.args.asked c.args.now_ms c.from.result (subst IsUnhalted (sym c.from.ensures) (demo_kind c.in-Err.field-0.error).1)
    (λ w t f told_w told_t told_f. subst (λ (x : ConnectError). IsExternalConnectError x ⊎ IsRefused c.args.asked w t f x) (sym c.from.ensures)
    (demo_ends c.args.asked w t f c.in-Err.field-0.error (λ index is. c.in-Err.ensures.bad w index told_w is) (λ at is. c.in-Err.ensures.not_a_journal w at told_w is)))).never

pub returns-in-Err-clause-told : goal.returns-in-Err-clause-told
returns-in-Err-clause-told g c =
    (answers_stay g.W.Disk g.T.Disk g.F.Disk g.met.W.Disk.seen_may_be_left g.met.T.Disk.seen_may_be_left g.met.F.Disk.seen_may_be_left c.args.disks (disks_of c.in-Err.field-0.disk c.args.disks.topics c.args.disks.offsets) c.in-Err.ensures.seen refl refl c.in-Err.ensures.crash (λ i m. m) (λ i m. m)
    c.args.asked c.args.now_ms c.from.result (subst IsUnhalted (sym c.from.ensures) (demo_kind c.in-Err.field-0.error).1)
    (λ w t f told_w told_t told_f. subst (λ (x : ConnectError). IsExternalConnectError x ⊎ IsRefused c.args.asked w t f x) (sym c.from.ensures)
    (demo_ends c.args.asked w t f c.in-Err.field-0.error (λ index is. c.in-Err.ensures.bad w index told_w is) (λ at is. c.in-Err.ensures.not_a_journal w at told_w is)))).told

pub returns-in-Err-clause-refuses : goal.returns-in-Err-clause-refuses
returns-in-Err-clause-refuses g c =
    (answers_stay g.W.Disk g.T.Disk g.F.Disk g.met.W.Disk.seen_may_be_left g.met.T.Disk.seen_may_be_left g.met.F.Disk.seen_may_be_left c.args.disks (disks_of c.in-Err.field-0.disk c.args.disks.topics c.args.disks.offsets) c.in-Err.ensures.seen refl refl c.in-Err.ensures.crash (λ i m. m) (λ i m. m)
    c.args.asked c.args.now_ms c.from.result (subst IsUnhalted (sym c.from.ensures) (demo_kind c.in-Err.field-0.error).1)
    (λ w t f told_w told_t told_f. subst (λ (x : ConnectError). IsExternalConnectError x ⊎ IsRefused c.args.asked w t f x) (sym c.from.ensures)
    (demo_ends c.args.asked w t f c.in-Err.field-0.error (λ index is. c.in-Err.ensures.bad w index told_w is) (λ at is. c.in-Err.ensures.not_a_journal w at told_w is)))).refuses

pub returns-in-Err-clause-gains : goal.returns-in-Err-clause-gains
returns-in-Err-clause-gains g c =
    (answers_stay g.W.Disk g.T.Disk g.F.Disk g.met.W.Disk.seen_may_be_left g.met.T.Disk.seen_may_be_left g.met.F.Disk.seen_may_be_left c.args.disks (disks_of c.in-Err.field-0.disk c.args.disks.topics c.args.disks.offsets) c.in-Err.ensures.seen refl refl c.in-Err.ensures.crash (λ i m. m) (λ i m. m)
    c.args.asked c.args.now_ms c.from.result (subst IsUnhalted (sym c.from.ensures) (demo_kind c.in-Err.field-0.error).1)
    (λ w t f told_w told_t told_f. subst (λ (x : ConnectError). IsExternalConnectError x ⊎ IsRefused c.args.asked w t f x) (sym c.from.ensures)
    (demo_ends c.args.asked w t f c.in-Err.field-0.error (λ index is. c.in-Err.ensures.bad w index told_w is) (λ at is. c.in-Err.ensures.not_a_journal w at told_w is)))).gains

pub returns-in-Err-clause-marks : goal.returns-in-Err-clause-marks
returns-in-Err-clause-marks g c =
    (answers_stay g.W.Disk g.T.Disk g.F.Disk g.met.W.Disk.seen_may_be_left g.met.T.Disk.seen_may_be_left g.met.F.Disk.seen_may_be_left c.args.disks (disks_of c.in-Err.field-0.disk c.args.disks.topics c.args.disks.offsets) c.in-Err.ensures.seen refl refl c.in-Err.ensures.crash (λ i m. m) (λ i m. m)
    c.args.asked c.args.now_ms c.from.result (subst IsUnhalted (sym c.from.ensures) (demo_kind c.in-Err.field-0.error).1)
    (λ w t f told_w told_t told_f. subst (λ (x : ConnectError). IsExternalConnectError x ⊎ IsRefused c.args.asked w t f x) (sym c.from.ensures)
    (demo_ends c.args.asked w t f c.in-Err.field-0.error (λ index is. c.in-Err.ensures.bad w index told_w is) (λ at is. c.in-Err.ensures.not_a_journal w at told_w is)))).marks

pub returns-in-Err-clause-kinds : goal.returns-in-Err-clause-kinds
returns-in-Err-clause-kinds g c = subst (IsErrorFor c.args.asked) (sym c.from.ensures) (let kind = demo_kind c.in-Err.field-0.error in no_refusal c.args.asked (demo_error c.in-Err.field-0.error) kind.0 kind.1)

pub returns-in-Err-clause-topics_stay : goal.returns-in-Err-clause-topics_stay
returns-in-Err-clause-topics_stay g c = λ before. refl

pub returns-in-Err-clause-offsets_stay : goal.returns-in-Err-clause-offsets_stay
returns-in-Err-clause-offsets_stay g c = λ before. refl

pub returns-in-Err-clause-wal_read : goal.returns-in-Err-clause-wal_read
returns-in-Err-clause-wal_read g c = λ refusal. record { same = c.in-Err.ensures.seen; crash = c.in-Err.ensures.crash }

pub returns-in-Err-clause-topics_read : goal.returns-in-Err-clause-topics_read
returns-in-Err-clause-topics_read g c = λ refusal. only_same g.T.Disk c.args.disks.topics c.args.disks.topics refl

pub returns-in-Err-clause-offsets_read : goal.returns-in-Err-clause-offsets_read
returns-in-Err-clause-offsets_read g c = λ refusal. only_same g.F.Disk c.args.disks.offsets c.args.disks.offsets refl

pub returns-in-Err-clause-wal_counts : goal.returns-in-Err-clause-wal_counts
returns-in-Err-clause-wal_counts g c = counts_by g.W.Disk store.Wal c.from.result c.args.disks.wal c.in-Err.field-0.disk c.in-Err.ensures.later (λ is. c.in-Err.ensures.failed (demo_fails c.in-Err.field-0.error store.Wal (sym c.from.ensures ∙ is)).1)

pub returns-in-Err-clause-topics_count : goal.returns-in-Err-clause-topics_count
returns-in-Err-clause-topics_count g c = counts_same g.T.Disk store.Topics _ c.args.disks.topics c.args.disks.topics refl (λ is. (let wrong = (demo_fails c.in-Err.field-0.error store.Topics (sym c.from.ensures ∙ (let i = is in cc))).0 in cc))

pub returns-in-Err-clause-offsets_count : goal.returns-in-Err-clause-offsets_count
returns-in-Err-clause-offsets_count g c = counts_same g.F.Disk store.Offsets _ c.args.disks.offsets c.args.disks.offsets refl (λ is. (let wrong = (demo_fails c.in-Err.field-0.error store.Offsets (sym c.from.ensures ∙ (let i = is in cc))).0 in cc))

pub returns-in-Err-clause-wal_bounded : goal.returns-in-Err-clause-wal_bounded
returns-in-Err-clause-wal_bounded g c = bounded_same g.W.Disk c.args.disks.wal c.in-Err.field-0.disk c.in-Err.ensures.seen

pub returns-in-Err-clause-topics_bounded : goal.returns-in-Err-clause-topics_bounded
returns-in-Err-clause-topics_bounded g c = bounded_same g.T.Disk c.args.disks.topics c.args.disks.topics refl

pub returns-in-Err-clause-offsets_bounded : goal.returns-in-Err-clause-offsets_bounded
returns-in-Err-clause-offsets_bounded g c = store_bounded_same g.F.Disk c.args.disks.offsets c.args.disks.offsets refl

-- ---- it is

pub connect_source-requires-clause-opened : goal.connect_source-requires-clause-opened
connect_source-requires-clause-opened g c = λ bytes told. (let here = c.in-Ok.ensures.opened bytes (sym c.in-Ok.ensures.seen ∙ told) in record { told = told; wal = here.0; is = here.1; demo = here.2; unread = c.in-Ok.ensures.unread })

pub returns-in-Ok-clause-headline : goal.returns-in-Ok-clause-headline
returns-in-Ok-clause-headline g c =
    (answers_before g.W.Disk g.T.Disk g.F.Disk g.met.W.Disk.seen_may_be_left g.met.T.Disk.seen_may_be_left g.met.F.Disk.seen_may_be_left c.args.disks (disks_of c.in-Ok.source.journal.disk c.args.disks.topics c.args.disks.offsets) c.in-Ok.ensures.seen refl refl c.in-Ok.ensures.crash (λ i m. m) (λ i m. m)
    c.args.asked c.args.now_ms c.connect_source.result.disks c.connect_source.result.end
    (subst (λ (n : ℤ). AnswersConnect g.W.Disk g.T.Disk g.F.Disk c.args.asked n (disks_of c.in-Ok.source.journal.disk c.args.disks.topics c.args.disks.offsets) c.connect_source.result.disks c.connect_source.result.end) (to_z-of_z c.ranges.now_ms) c.connect_source.ensures.answers)).headline

pub returns-in-Ok-clause-kept : goal.returns-in-Ok-clause-kept
returns-in-Ok-clause-kept g c =
    (answers_before g.W.Disk g.T.Disk g.F.Disk g.met.W.Disk.seen_may_be_left g.met.T.Disk.seen_may_be_left g.met.F.Disk.seen_may_be_left c.args.disks (disks_of c.in-Ok.source.journal.disk c.args.disks.topics c.args.disks.offsets) c.in-Ok.ensures.seen refl refl c.in-Ok.ensures.crash (λ i m. m) (λ i m. m)
    c.args.asked c.args.now_ms c.connect_source.result.disks c.connect_source.result.end
    (subst (λ (n : ℤ). AnswersConnect g.W.Disk g.T.Disk g.F.Disk c.args.asked n (disks_of c.in-Ok.source.journal.disk c.args.disks.topics c.args.disks.offsets) c.connect_source.result.disks c.connect_source.result.end) (to_z-of_z c.ranges.now_ms) c.connect_source.ensures.answers)).kept

pub returns-in-Ok-clause-report : goal.returns-in-Ok-clause-report
returns-in-Ok-clause-report g c =
    (answers_before g.W.Disk g.T.Disk g.F.Disk g.met.W.Disk.seen_may_be_left g.met.T.Disk.seen_may_be_left g.met.F.Disk.seen_may_be_left c.args.disks (disks_of c.in-Ok.source.journal.disk c.args.disks.topics c.args.disks.offsets) c.in-Ok.ensures.seen refl refl c.in-Ok.ensures.crash (λ i m. m) (λ i m. m)
    c.args.asked c.args.now_ms c.connect_source.result.disks c.connect_source.result.end
    (subst (λ (n : ℤ). AnswersConnect g.W.Disk g.T.Disk g.F.Disk c.args.asked n (disks_of c.in-Ok.source.journal.disk c.args.disks.topics c.args.disks.offsets) c.connect_source.result.disks c.connect_source.result.end) (to_z-of_z c.ranges.now_ms) c.connect_source.ensures.answers)).report

pub returns-in-Ok-clause-never : goal.returns-in-Ok-clause-never
returns-in-Ok-clause-never g c =
    (answers_before g.W.Disk g.T.Disk g.F.Disk g.met.W.Disk.seen_may_be_left g.met.T.Disk.seen_may_be_left g.met.F.Disk.seen_may_be_left c.args.disks (disks_of c.in-Ok.source.journal.disk c.args.disks.topics c.args.disks.offsets) c.in-Ok.ensures.seen refl refl c.in-Ok.ensures.crash (λ i m. m) (λ i m. m)
    c.args.asked c.args.now_ms c.connect_source.result.disks c.connect_source.result.end
    (subst (λ (n : ℤ). AnswersConnect g.W.Disk g.T.Disk g.F.Disk c.args.asked n (disks_of c.in-Ok.source.journal.disk c.args.disks.topics c.args.disks.offsets) c.connect_source.result.disks c.connect_source.result.end) (to_z-of_z c.ranges.now_ms) c.connect_source.ensures.answers)).never

pub returns-in-Ok-clause-told : goal.returns-in-Ok-clause-told
returns-in-Ok-clause-told g c =
    (answers_before g.W.Disk g.T.Disk g.F.Disk g.met.W.Disk.seen_may_be_left g.met.T.Disk.seen_may_be_left g.met.F.Disk.seen_may_be_left c.args.disks (disks_of c.in-Ok.source.journal.disk c.args.disks.topics c.args.disks.offsets) c.in-Ok.ensures.seen refl refl c.in-Ok.ensures.crash (λ i m. m) (λ i m. m)
    c.args.asked c.args.now_ms c.connect_source.result.disks c.connect_source.result.end
    (subst (λ (n : ℤ). AnswersConnect g.W.Disk g.T.Disk g.F.Disk c.args.asked n (disks_of c.in-Ok.source.journal.disk c.args.disks.topics c.args.disks.offsets) c.connect_source.result.disks c.connect_source.result.end) (to_z-of_z c.ranges.now_ms) c.connect_source.ensures.answers)).told

pub returns-in-Ok-clause-refuses : goal.returns-in-Ok-clause-refuses
returns-in-Ok-clause-refuses g c =
    (answers_before g.W.Disk g.T.Disk g.F.Disk g.met.W.Disk.seen_may_be_left g.met.T.Disk.seen_may_be_left g.met.F.Disk.seen_may_be_left c.args.disks (disks_of c.in-Ok.source.journal.disk c.args.disks.topics c.args.disks.offsets) c.in-Ok.ensures.seen refl refl c.in-Ok.ensures.crash (λ i m. m) (λ i m. m)
    c.args.asked c.args.now_ms c.connect_source.result.disks c.connect_source.result.end
    (subst (λ (n : ℤ). AnswersConnect g.W.Disk g.T.Disk g.F.Disk c.args.asked n (disks_of c.in-Ok.source.journal.disk c.args.disks.topics c.args.disks.offsets) c.connect_source.result.disks c.connect_source.result.end) (to_z-of_z c.ranges.now_ms) c.connect_source.ensures.answers)).refuses

pub returns-in-Ok-clause-gains : goal.returns-in-Ok-clause-gains
returns-in-Ok-clause-gains g c =
    (answers_before g.W.Disk g.T.Disk g.F.Disk g.met.W.Disk.seen_may_be_left g.met.T.Disk.seen_may_be_left g.met.F.Disk.seen_may_be_left c.args.disks (disks_of c.in-Ok.source.journal.disk c.args.disks.topics c.args.disks.offsets) c.in-Ok.ensures.seen refl refl c.in-Ok.ensures.crash (λ i m. m) (λ i m. m)
    c.args.asked c.args.now_ms c.connect_source.result.disks c.connect_source.result.end
    (subst (λ (n : ℤ). AnswersConnect g.W.Disk g.T.Disk g.F.Disk c.args.asked n (disks_of c.in-Ok.source.journal.disk c.args.disks.topics c.args.disks.offsets) c.connect_source.result.disks c.connect_source.result.end) (to_z-of_z c.ranges.now_ms) c.connect_source.ensures.answers)).gains

pub returns-in-Ok-clause-marks : goal.returns-in-Ok-clause-marks
returns-in-Ok-clause-marks g c =
    (answers_before g.W.Disk g.T.Disk g.F.Disk g.met.W.Disk.seen_may_be_left g.met.T.Disk.seen_may_be_left g.met.F.Disk.seen_may_be_left c.args.disks (disks_of c.in-Ok.source.journal.disk c.args.disks.topics c.args.disks.offsets) c.in-Ok.ensures.seen refl refl c.in-Ok.ensures.crash (λ i m. m) (λ i m. m)
    c.args.asked c.args.now_ms c.connect_source.result.disks c.connect_source.result.end
    (subst (λ (n : ℤ). AnswersConnect g.W.Disk g.T.Disk g.F.Disk c.args.asked n (disks_of c.in-Ok.source.journal.disk c.args.disks.topics c.args.disks.offsets) c.connect_source.result.disks c.connect_source.result.end) (to_z-of_z c.ranges.now_ms) c.connect_source.ensures.answers)).marks

pub returns-in-Ok-clause-topics_stay : goal.returns-in-Ok-clause-topics_stay
returns-in-Ok-clause-topics_stay g c =
    err_as c.connect_source.result.end (IsAfterOpening store.Wal) (λ e. IsBeforeStore store.Topics e → c.connect_source.result.disks.topics ≡ c.args.disks.topics) (λ e subsequent before. absurd (not_before_topics e subsequent before)) c.connect_source.ensures.after_opening

pub returns-in-Ok-clause-wal_read : goal.returns-in-Ok-clause-wal_read
returns-in-Ok-clause-wal_read g c = read_on g.W.Disk c.connect_source.result.end c.args.disks.wal c.in-Ok.source.journal.disk c.connect_source.result.disks.wal c.in-Ok.ensures.seen c.in-Ok.ensures.crash c.connect_source.ensures.wal_read

pub returns-in-Ok-clause-wal_counts : goal.returns-in-Ok-clause-wal_counts
returns-in-Ok-clause-wal_counts g c = counts_on g.W.Disk store.Wal c.connect_source.result.end c.args.disks.wal c.in-Ok.source.journal.disk c.connect_source.result.disks.wal c.in-Ok.ensures.later c.connect_source.ensures.wal_counts

pub returns-in-Ok-clause-steady : goal.returns-in-Ok-clause-steady
returns-in-Ok-clause-steady g c =
    steady_on g.W.Disk g.T.Disk g.F.Disk c.connect_source.result.end c.args.disks (disks_of c.in-Ok.source.journal.disk c.args.disks.topics c.args.disks.offsets) c.connect_source.result.disks
    c.in-Ok.ensures.seen refl refl (record { wal = c.in-Ok.ensures.steady; topics = λ bytes told. refl; offsets = λ bytes told. refl }) c.connect_source.ensures.steady

pub returns-in-Ok-clause-wal_bounded : goal.returns-in-Ok-clause-wal_bounded
returns-in-Ok-clause-wal_bounded g c = bounded_on g.W.Disk c.args.disks.wal c.in-Ok.source.journal.disk c.connect_source.result.disks.wal c.in-Ok.ensures.seen c.connect_source.ensures.wal_bounded

-- ---- how it is no log of a source

pub returns-in-Err-clause-wal_wrong : goal.returns-in-Err-clause-wal_wrong
returns-in-Err-clause-wal_wrong g c w told = subst (IsWrongSource w) (sym c.from.ensures) (demo_wrong w c.in-Err.field-0.error (λ index is. c.in-Err.ensures.bad w index told is) (λ at is. c.in-Err.ensures.not_a_journal w at told is))

pub returns-in-Ok-clause-wal_wrong : goal.returns-in-Ok-clause-wal_wrong
returns-in-Ok-clause-wal_wrong g c w told = err_as c.connect_source.result.end (IsAfterOpening store.Wal) (IsWrongSource w) (not_wrong w) c.connect_source.ensures.after_opening
