use Rattle.std.proofs.Common.{◌∙◌, ◌⊎◌, ℤ, refl, sym, ap, subst}
use Rattle.std.proofs.Math.Facts.{to_z-of_z}
use Rattle.dbl_offset.specs.Stores.{disk_of}
use Rattle.dblog_init.specs.declared.error.Store.TheVariants as store
use Rattle.dblog_promise.specs.Bounds.{IsBounded, IsStoreBounded}
use Rattle.dblog_connect_ends.specs.declared.error.ConnectError.{ConnectError}
use Rattle.dblog_connect.specs.Ends.{CountsFaults, IsRefused}
use Rattle.dblog_connect_ends.specs.Errors.{IsAfterOpening, IsExternalConnectError, offset_error}
use Rattle.dblog_connect.specs.Refusals.{IsErrorFor}
use Rattle.dblog_connect.specs.Steps.{AnswersConnect, disks_of}
use Rattle.dblog_connect.proofs.ErrorKinds.{after_topics, counts_by, counts_same, counts_on, err_as, moved_crash, moved_to, no_refusal, offset_ends, offset_fails}
use Rattle.dblog_connect.proofs.ErrorKinds.{offset_kind, only_same, read_on, read_stayed, steady_moved, steady_on, store_bounded_on}
use Rattle.dblog_connect.proofs.Opened.{bounded_same, store_bounded_same}
use Rattle.dblog_connect.proofs.Stays.{IsUnhalted, answers_before, answers_moved, answers_stay}
use Rattle.dblog_connect.proofs.connecting.connect_log.Goals as goal

-- ---- the offset store isn't opened

pub returns-in-Err-clause-answers : goal.returns-in-Err-clause-answers
returns-in-Err-clause-answers g c =
    answers_stay g.W.Disk g.T.Disk g.F.Disk g.met.W.Disk.seen_may_be_left g.met.T.Disk.seen_may_be_left g.met.F.Disk.seen_may_be_left (disks_of c.args.source.journal.disk c.args.log.disk c.args.offsets) (disks_of c.into_disk-in-Err.result c.into_disk-in-Err-2.result c.in-Err.field-0.disk) (ap g.W.Disk.seen c.into_disk-in-Err.ensures) (ap g.T.Disk.seen c.into_disk-in-Err-2.ensures) c.in-Err.ensures.keeps.same (moved_crash g.W.Disk c.args.source.journal.disk c.into_disk-in-Err.result c.into_disk-in-Err.ensures) (moved_crash g.T.Disk c.args.log.disk c.into_disk-in-Err-2.result c.into_disk-in-Err-2.ensures) c.in-Err.ensures.keeps.crash
    c.args.asked c.args.now_ms c.from.result (subst IsUnhalted (sym c.from.ensures) (offset_kind c.in-Err.field-0.error).1)
    (λ w t f told_w told_t told_f. subst (λ (x : ConnectError). IsExternalConnectError x ⊎ IsRefused c.args.asked w t f x) (sym c.from.ensures)
    (offset_ends c.args.asked w t f (c.requires.source_opened w told_w).wal (c.requires.log_opened t told_t).groups (c.requires.source_opened w told_w).is (c.requires.log_opened t told_t).is c.in-Err.field-0.error (λ index is. c.in-Err.ensures.bad_offset f index told_f is) (λ at is. c.in-Err.ensures.not_a_store f at told_f is)))

pub returns-in-Err-clause-kinds : goal.returns-in-Err-clause-kinds
returns-in-Err-clause-kinds g c = subst (IsErrorFor c.args.asked) (sym c.from.ensures) (let kind = offset_kind c.in-Err.field-0.error in no_refusal c.args.asked (offset_error c.in-Err.field-0.error) kind.0 kind.1)

pub returns-in-Err-clause-after_opening : goal.returns-in-Err-clause-after_opening
returns-in-Err-clause-after_opening g c = subst (IsAfterOpening store.Topics) (sym c.from.ensures) (offset_kind c.in-Err.field-0.error).2

pub returns-in-Err-clause-wal_read : goal.returns-in-Err-clause-wal_read
returns-in-Err-clause-wal_read g c = λ refusal. only_same g.W.Disk c.args.source.journal.disk c.into_disk-in-Err.result c.into_disk-in-Err.ensures

pub returns-in-Err-clause-topics_read : goal.returns-in-Err-clause-topics_read
returns-in-Err-clause-topics_read g c = λ refusal. only_same g.T.Disk c.args.log.disk c.into_disk-in-Err-2.result c.into_disk-in-Err-2.ensures

pub returns-in-Err-clause-offsets_read : goal.returns-in-Err-clause-offsets_read
returns-in-Err-clause-offsets_read g c = λ refusal. record { same = c.in-Err.ensures.keeps.same; crash = c.in-Err.ensures.keeps.crash }

pub returns-in-Err-clause-wal_counts : goal.returns-in-Err-clause-wal_counts
returns-in-Err-clause-wal_counts g c = counts_same g.W.Disk store.Wal _ c.args.source.journal.disk c.into_disk-in-Err.result c.into_disk-in-Err.ensures (λ is. (let wrong = (offset_fails c.in-Err.field-0.error store.Wal (sym c.from.ensures ∙ (let i = is in cc))).0 in cc))

pub returns-in-Err-clause-topics_count : goal.returns-in-Err-clause-topics_count
returns-in-Err-clause-topics_count g c = counts_same g.T.Disk store.Topics _ c.args.log.disk c.into_disk-in-Err-2.result c.into_disk-in-Err-2.ensures (λ is. (let wrong = (offset_fails c.in-Err.field-0.error store.Topics (sym c.from.ensures ∙ (let i = is in cc))).0 in cc))

pub returns-in-Err-clause-offsets_count : goal.returns-in-Err-clause-offsets_count
returns-in-Err-clause-offsets_count g c = counts_by g.F.Disk store.Offsets c.from.result c.args.offsets c.in-Err.field-0.disk c.in-Err.ensures.keeps.later (λ is. c.in-Err.ensures.keeps.cause (offset_fails c.in-Err.field-0.error store.Offsets (sym c.from.ensures ∙ is)).1)

pub returns-in-Err-clause-wal_bounded : goal.returns-in-Err-clause-wal_bounded
returns-in-Err-clause-wal_bounded g c = bounded_same g.W.Disk c.args.source.journal.disk c.into_disk-in-Err.result (ap g.W.Disk.seen c.into_disk-in-Err.ensures)

pub returns-in-Err-clause-topics_bounded : goal.returns-in-Err-clause-topics_bounded
returns-in-Err-clause-topics_bounded g c = bounded_same g.T.Disk c.args.log.disk c.into_disk-in-Err-2.result (ap g.T.Disk.seen c.into_disk-in-Err-2.ensures)

pub returns-in-Err-clause-offsets_bounded : goal.returns-in-Err-clause-offsets_bounded
returns-in-Err-clause-offsets_bounded g c = store_bounded_same g.F.Disk c.args.offsets c.in-Err.field-0.disk c.in-Err.ensures.keeps.same

-- ---- the session

pub run_session-session-requires-clause-store_opened : goal.run_session-session-requires-clause-store_opened
run_session-session-requires-clause-store_opened g c = λ bytes told. record { told = told; is = c.in-Ok.ensures.opened bytes (sym c.in-Ok.ensures.keeps.same ∙ told); holds = c.in-Ok.ensures.holds bytes (sym c.in-Ok.ensures.keeps.same ∙ told) }

pub returns-in-Ok-clause-answers : goal.returns-in-Ok-clause-answers
returns-in-Ok-clause-answers g c =
    answers_before g.W.Disk g.T.Disk g.F.Disk g.met.W.Disk.seen_may_be_left g.met.T.Disk.seen_may_be_left g.met.F.Disk.seen_may_be_left (disks_of c.args.source.journal.disk c.args.log.disk c.args.offsets) (disks_of c.args.source.journal.disk c.args.log.disk (disk_of c.in-Ok.store)) refl refl c.in-Ok.ensures.keeps.same (λ i m. m) (λ i m. m) c.in-Ok.ensures.keeps.crash
    c.args.asked c.args.now_ms (disks_of c.into_disk.result c.into_disk-in-Ok.result c.into_disk-in-Ok-2.result) c.run_session-session.result.1
    (answers_moved g.W.Disk g.T.Disk g.F.Disk c.args.asked c.args.now_ms (disks_of c.args.source.journal.disk c.args.log.disk (disk_of c.in-Ok.store)) c.run_session-session.new.source.journal.disk c.into_disk.result c.run_session-session.result.0.disk c.into_disk-in-Ok.result (disk_of c.run_session-session.new.store) c.into_disk-in-Ok-2.result c.run_session-session.result.1
    c.into_disk.ensures c.into_disk-in-Ok.ensures c.into_disk-in-Ok-2.ensures
    (subst (λ (n : ℤ). AnswersConnect g.W.Disk g.T.Disk g.F.Disk c.args.asked n (disks_of c.args.source.journal.disk c.args.log.disk (disk_of c.in-Ok.store)) (disks_of c.run_session-session.new.source.journal.disk c.run_session-session.result.0.disk (disk_of c.run_session-session.new.store)) c.run_session-session.result.1) (to_z-of_z c.ranges.now_ms) c.run_session-session.ensures.answers))

pub returns-in-Ok-clause-spent : goal.returns-in-Ok-clause-spent
returns-in-Ok-clause-spent g c = c.run_session-session.ensures.spent

pub returns-in-Ok-clause-kinds : goal.returns-in-Ok-clause-kinds
returns-in-Ok-clause-kinds g c = c.run_session-session.ensures.kinds

pub returns-in-Ok-clause-after_opening : goal.returns-in-Ok-clause-after_opening
returns-in-Ok-clause-after_opening g c = err_as c.run_session-session.result.1 (IsAfterOpening store.Offsets) (IsAfterOpening store.Topics) after_topics c.run_session-session.ensures.after_opening

pub returns-in-Ok-clause-wal_read : goal.returns-in-Ok-clause-wal_read
returns-in-Ok-clause-wal_read g c = read_stayed g.W.Disk (λ s. s.journal.disk) c.run_session-session.result.1 c.args.source c.run_session-session.new.source c.into_disk.result c.into_disk.ensures c.run_session-session.ensures.source_stays

pub returns-in-Ok-clause-topics_read : goal.returns-in-Ok-clause-topics_read
returns-in-Ok-clause-topics_read g c = read_stayed g.T.Disk (λ l. l.disk) c.run_session-session.result.1 c.args.log c.run_session-session.result.0 c.into_disk-in-Ok.result c.into_disk-in-Ok.ensures c.run_session-session.ensures.log_stays

pub returns-in-Ok-clause-offsets_read : goal.returns-in-Ok-clause-offsets_read
returns-in-Ok-clause-offsets_read g c =
    read_on g.F.Disk c.run_session-session.result.1 c.args.offsets (disk_of c.in-Ok.store) c.into_disk-in-Ok-2.result c.in-Ok.ensures.keeps.same c.in-Ok.ensures.keeps.crash
    (read_stayed g.F.Disk disk_of c.run_session-session.result.1 c.in-Ok.store c.run_session-session.new.store c.into_disk-in-Ok-2.result c.into_disk-in-Ok-2.ensures c.run_session-session.ensures.store_stays)

pub returns-in-Ok-clause-wal_counts : goal.returns-in-Ok-clause-wal_counts
returns-in-Ok-clause-wal_counts g c = moved_to (CountsFaults g.W.Disk store.Wal c.run_session-session.result.1 c.args.source.journal.disk) c.run_session-session.new.source.journal.disk c.into_disk.result c.into_disk.ensures c.run_session-session.ensures.source_counts

pub returns-in-Ok-clause-steady : goal.returns-in-Ok-clause-steady
returns-in-Ok-clause-steady g c =
    steady_on g.W.Disk g.T.Disk g.F.Disk c.run_session-session.result.1 (disks_of c.args.source.journal.disk c.args.log.disk c.args.offsets) (disks_of c.args.source.journal.disk c.args.log.disk (disk_of c.in-Ok.store)) (disks_of c.into_disk.result c.into_disk-in-Ok.result c.into_disk-in-Ok-2.result)
    refl refl c.in-Ok.ensures.keeps.same (record { wal = λ bytes told. refl; topics = λ bytes told. refl; offsets = c.in-Ok.ensures.keeps.steady (λ none. none) })
    (steady_moved g.W.Disk g.T.Disk g.F.Disk c.run_session-session.result.1 (disks_of c.args.source.journal.disk c.args.log.disk (disk_of c.in-Ok.store))
    c.run_session-session.new.source.journal.disk c.into_disk.result c.run_session-session.result.0.disk c.into_disk-in-Ok.result (disk_of c.run_session-session.new.store) c.into_disk-in-Ok-2.result
    c.into_disk.ensures c.into_disk-in-Ok.ensures c.into_disk-in-Ok-2.ensures c.run_session-session.ensures.steady)

pub returns-in-Ok-clause-topics_count : goal.returns-in-Ok-clause-topics_count
returns-in-Ok-clause-topics_count g c = moved_to (CountsFaults g.T.Disk store.Topics c.run_session-session.result.1 c.args.log.disk) c.run_session-session.result.0.disk c.into_disk-in-Ok.result c.into_disk-in-Ok.ensures c.run_session-session.ensures.log_counts

pub returns-in-Ok-clause-offsets_count : goal.returns-in-Ok-clause-offsets_count
returns-in-Ok-clause-offsets_count g c =
    counts_on g.F.Disk store.Offsets c.run_session-session.result.1 c.args.offsets (disk_of c.in-Ok.store) c.into_disk-in-Ok-2.result c.in-Ok.ensures.keeps.later
    (moved_to (CountsFaults g.F.Disk store.Offsets c.run_session-session.result.1 (disk_of c.in-Ok.store)) (disk_of c.run_session-session.new.store) c.into_disk-in-Ok-2.result c.into_disk-in-Ok-2.ensures c.run_session-session.ensures.store_counts)

pub returns-in-Ok-clause-wal_bounded : goal.returns-in-Ok-clause-wal_bounded
returns-in-Ok-clause-wal_bounded g c = moved_to (λ d. IsBounded (g.W.Disk.seen c.args.source.journal.disk) (g.W.Disk.seen d)) c.run_session-session.new.source.journal.disk c.into_disk.result c.into_disk.ensures c.run_session-session.ensures.source_bounded

pub returns-in-Ok-clause-topics_bounded : goal.returns-in-Ok-clause-topics_bounded
returns-in-Ok-clause-topics_bounded g c = moved_to (λ d. IsBounded (g.T.Disk.seen c.args.log.disk) (g.T.Disk.seen d)) c.run_session-session.result.0.disk c.into_disk-in-Ok.result c.into_disk-in-Ok.ensures c.run_session-session.ensures.log_bounded

pub returns-in-Ok-clause-offsets_bounded : goal.returns-in-Ok-clause-offsets_bounded
returns-in-Ok-clause-offsets_bounded g c =
    store_bounded_on g.F.Disk c.args.offsets (disk_of c.in-Ok.store) c.into_disk-in-Ok-2.result c.in-Ok.ensures.keeps.same
    (moved_to (λ d. IsStoreBounded (g.F.Disk.seen (disk_of c.in-Ok.store)) (g.F.Disk.seen d))
    (disk_of c.run_session-session.new.store) c.into_disk-in-Ok-2.result c.into_disk-in-Ok-2.ensures c.run_session-session.ensures.store_bounded)
