-- Of which kind the connector's errors are, by those of its parts.
use Rattle.std.proofs.Common.{◌≡◌, ◌∙◌, ◌⊎◌, inl, inr, ℕ, ◌≤◌, Option, List, Result, Ok, Err, refl, sym, ap, subst, arith}
use Rattle.std.specs.Prelude.{IfErr, OnOk}
use Rattle.dbl_base.specs.Streams.{FaultCounted}
use Rattle.dbl_record.specs.declared.record.Record.{Record}
use Rattle.dbl_disk.specs.Model.{DiskModel}
use Rattle.dbl_journal.specs.Form.{IsFaultAt}
use Rattle.dbl_journal.specs.declared.error.JournalError.TheVariants as journal
use Rattle.dbl_topic.specs.declared.error.TopicError.{TopicError}
use Rattle.dbl_topic.specs.declared.error.TopicError.TheVariants as topic
use Rattle.dbl_topic.specs.Logs.{IsLog}
use Rattle.dbl_topic.specs.Logs as log_bytes
use Rattle.dbl_offset.specs.declared.error.OffsetError.{OffsetError}
use Rattle.dbl_offset.specs.declared.error.OffsetError.TheVariants as offset
use Rattle.dbl_offset.specs.Stores.{HasBadOffset, IsNoStoreAt}
use Rattle.dbl_demo.specs.DemoWorkload.declared.error.DemoError.{DemoError}
use Rattle.dbl_demo.specs.DemoWorkload.declared.error.DemoError.TheVariants as demo
use Rattle.dbl_demo.specs.DemoWal.Wals.{IsWal, Wal}
use Rattle.dbl_demo.specs.DemoWal.Wals as wal_bytes
use Rattle.dbl_capture.proofs.CaptureWorkExits.{rose_after}
use Rattle.dblog_init.specs.declared.disks.Disks.{Disks}
use Rattle.dblog_init.specs.declared.error.Store.{Store}
use Rattle.dblog_promise.specs.Bounds.{IsBounded, IsStoreBounded}
use Rattle.dblog_init.specs.declared.error.Store.TheVariants as store
use Rattle.dblog_connect.specs.declared.asked.Asked.{Asked}
use Rattle.dblog_connect_ends.specs.declared.error.ConnectError.{ConnectError}
use Rattle.dblog_connect_ends.specs.declared.error.ConnectError.TheVariants as error
use Rattle.dblog_connect.specs.Refusals.{IsErrorFor}
use Rattle.dblog_connect.specs.Steps.{disks_of}
use Rattle.dblog_connect.specs.Ends.{AreSteady, CountsFaults, ConnectEnd, IsRefused, IsWrongSource, OnlyRead}
use Rattle.dblog_connect.specs.Ends.IsRefused.{no_source, no_log, no_offset}
use Rattle.dblog_connect_ends.specs.Errors.{IsBeforeStore, IsAfterOpening, IsConnectError, IsExternalConnectError, IsConnectRefusal, demo_error, offset_error, topic_error}
use Rattle.dblog_connect.proofs.Stays.{IsUnhalted}

-- ---- a source that isn't opened

pub demo_fails : (e : DemoError) (s : Store) → demo_error e ≡ error.Failed s → (s ≡ store.Wal) × (e ≡ demo.Journal journal.Failed)
demo_fails (demo.Journal journal.Failed) s is = ((let i = is in cc), refl)
demo_fails (demo.Journal (journal.NotAJournal at)) s is = absurd (let i = is in cc)
demo_fails (demo.Journal (journal.EntryTooLong len)) s is = absurd (let i = is in cc)
demo_fails (demo.Journal journal.Memory) s is = absurd (let i = is in cc)
demo_fails (demo.Script e) s is = absurd (let i = is in cc)
demo_fails (demo.Model e) s is = absurd (let i = is in cc)
demo_fails (demo.BadEntry index) s is = absurd (let i = is in cc)
demo_fails demo.Memory s is = absurd (let i = is in cc)

pub demo_kind : (e : DemoError) → IsConnectError (demo_error e) × IsUnhalted (demo_error e)
demo_kind (demo.Journal journal.Failed) = (tt, tt)
demo_kind (demo.Journal (journal.NotAJournal at)) = (tt, tt)
demo_kind (demo.Journal (journal.EntryTooLong len)) = (tt, tt)
demo_kind (demo.Journal journal.Memory) = (tt, tt)
demo_kind (demo.Script e) = (tt, tt)
demo_kind (demo.Model e) = (tt, tt)
demo_kind (demo.BadEntry index) = (tt, tt)
demo_kind demo.Memory = (tt, tt)

pub demo_ends : (asked : Asked) (w t f : List ℕ) (e : DemoError) → ((index : ℕ) → e ≡ demo.BadEntry index → wal_bytes.HasBadWalEntry w index)
    → ((at : ℕ) → e ≡ demo.Journal (journal.NotAJournal at) → IsFaultAt w at) → IsExternalConnectError (demo_error e) ⊎ IsRefused asked w t f (demo_error e)
demo_ends asked w t f (demo.Journal journal.Failed) bad fault = inl tt
demo_ends asked w t f (demo.Journal (journal.NotAJournal at)) bad fault = inr (no_source (inl (at, refl, fault at refl)))
demo_ends asked w t f (demo.Journal (journal.EntryTooLong len)) bad fault = inl tt
demo_ends asked w t f (demo.Journal journal.Memory) bad fault = inl tt
demo_ends asked w t f (demo.Script e) bad fault = inl tt
demo_ends asked w t f (demo.Model e) bad fault = inl tt
demo_ends asked w t f (demo.BadEntry index) bad fault = inr (no_source (inr (index, refl, bad index refl)))
demo_ends asked w t f demo.Memory bad fault = inl tt

pub demo_wrong : (w : List ℕ) (e : DemoError) → ((index : ℕ) → e ≡ demo.BadEntry index → wal_bytes.HasBadWalEntry w index)
    → ((at : ℕ) → e ≡ demo.Journal (journal.NotAJournal at) → IsFaultAt w at) → IsWrongSource w (demo_error e)
demo_wrong w (demo.Journal journal.Failed) bad fault = tt
demo_wrong w (demo.Journal (journal.NotAJournal at)) bad fault = fault at refl
demo_wrong w (demo.Journal (journal.EntryTooLong len)) bad fault = tt
demo_wrong w (demo.Journal journal.Memory) bad fault = tt
demo_wrong w (demo.Script e) bad fault = tt
demo_wrong w (demo.Model e) bad fault = tt
demo_wrong w (demo.BadEntry index) bad fault = bad index refl
demo_wrong w demo.Memory bad fault = tt

-- a store that isn't opened is no refused record
pub no_refusal : (asked : Asked) (e : ConnectError) → IsConnectError e → IsUnhalted e → IsErrorFor asked e
no_refusal asked (error.Failed s) kind own = (kind, tt)
no_refusal asked (error.NotAStore s at) kind own = (kind, tt)
no_refusal asked (error.BadEntry s index) kind own = (kind, tt)
no_refusal asked error.AlreadyStarted kind own = (kind, tt)
no_refusal asked error.NotStarted kind own = (kind, tt)
no_refusal asked (error.Halted h) kind own = (kind, tt)
no_refusal asked (error.Refused position ordinal) kind own = absurd own
no_refusal asked error.Memory kind own = (kind, tt)

-- where it is opened, it isn't told to be none
pub not_wrong : (w : List ℕ) (e : ConnectError) → IsAfterOpening store.Wal e → IsWrongSource w e
not_wrong w (error.Failed s) subsequent = tt
not_wrong w (error.NotAStore store.Wal at) subsequent = absurd subsequent
not_wrong w (error.NotAStore store.Topics at) subsequent = tt
not_wrong w (error.NotAStore store.Offsets at) subsequent = tt
not_wrong w (error.BadEntry store.Wal index) subsequent = absurd subsequent
not_wrong w (error.BadEntry store.Topics index) subsequent = tt
not_wrong w (error.BadEntry store.Offsets index) subsequent = tt
not_wrong w error.AlreadyStarted subsequent = tt
not_wrong w error.NotStarted subsequent = tt
not_wrong w (error.Halted h) subsequent = tt
not_wrong w (error.Refused position ordinal) subsequent = tt
not_wrong w error.Memory subsequent = tt

-- ---- a topic log that isn't

pub topic_fails : (e : TopicError) (s : Store) → topic_error e ≡ error.Failed s → (s ≡ store.Topics) × (e ≡ topic.Journal journal.Failed)
topic_fails (topic.Journal journal.Failed) s is = ((let i = is in cc), refl)
topic_fails (topic.Journal (journal.NotAJournal at)) s is = absurd (let i = is in cc)
topic_fails (topic.Journal (journal.EntryTooLong len)) s is = absurd (let i = is in cc)
topic_fails (topic.Journal journal.Memory) s is = absurd (let i = is in cc)
topic_fails (topic.BadEntry index) s is = absurd (let i = is in cc)
topic_fails topic.Memory s is = absurd (let i = is in cc)

pub topic_kind : (e : TopicError) → IsConnectError (topic_error e) × IsUnhalted (topic_error e) × IsAfterOpening store.Wal (topic_error e)
topic_kind (topic.Journal journal.Failed) = (tt, tt, tt)
topic_kind (topic.Journal (journal.NotAJournal at)) = (tt, tt, tt)
topic_kind (topic.Journal (journal.EntryTooLong len)) = (tt, tt, tt)
topic_kind (topic.Journal journal.Memory) = (tt, tt, tt)
topic_kind (topic.BadEntry index) = (tt, tt, tt)
topic_kind topic.Memory = (tt, tt, tt)

pub topic_ends : (asked : Asked) (w t f : List ℕ) (wal : Wal) → IsWal w wal → (e : TopicError) → ((index : ℕ) → e ≡ topic.BadEntry index → log_bytes.HasBadEntry t index)
    → ((at : ℕ) → e ≡ topic.Journal (journal.NotAJournal at) → IsFaultAt t at) → IsExternalConnectError (topic_error e) ⊎ IsRefused asked w t f (topic_error e)
topic_ends asked w t f wal is (topic.Journal journal.Failed) bad fault = inl tt
topic_ends asked w t f wal is (topic.Journal (journal.NotAJournal at)) bad fault = inr (no_log wal is (inl (at, refl, fault at refl)))
topic_ends asked w t f wal is (topic.Journal (journal.EntryTooLong len)) bad fault = inl tt
topic_ends asked w t f wal is (topic.Journal journal.Memory) bad fault = inl tt
topic_ends asked w t f wal is (topic.BadEntry index) bad fault = inr (no_log wal is (inr (index, refl, bad index refl)))
topic_ends asked w t f wal is topic.Memory bad fault = inl tt

-- ---- an offset store that isn't

pub offset_fails : (e : OffsetError) (s : Store) → offset_error e ≡ error.Failed s → (s ≡ store.Offsets) × (e ≡ offset.Failed)
offset_fails offset.Failed s is = ((let i = is in cc), refl)
offset_fails (offset.NotAStore at) s is = absurd (let i = is in cc)
offset_fails (offset.BadOffset index) s is = absurd (let i = is in cc)
offset_fails (offset.TooLong len) s is = absurd (let i = is in cc)
offset_fails offset.Memory s is = absurd (let i = is in cc)

pub offset_kind : (e : OffsetError) → IsConnectError (offset_error e) × IsUnhalted (offset_error e) × IsAfterOpening store.Topics (offset_error e)
offset_kind offset.Failed = (tt, tt, tt)
offset_kind (offset.NotAStore at) = (tt, tt, tt)
offset_kind (offset.BadOffset index) = (tt, tt, tt)
offset_kind (offset.TooLong len) = (tt, tt, tt)
offset_kind offset.Memory = (tt, tt, tt)

pub offset_ends : (asked : Asked) (w t f : List ℕ) (wal : Wal) (groups : List (List Record)) → IsWal w wal → IsLog t groups → (e : OffsetError)
    → ((index : ℕ) → e ≡ offset.BadOffset index → HasBadOffset f index) → ((at : ℕ) → e ≡ offset.NotAStore at → IsNoStoreAt f at)
    → IsExternalConnectError (offset_error e) ⊎ IsRefused asked w t f (offset_error e)
offset_ends asked w t f wal groups is log offset.Failed bad fault = inl tt
offset_ends asked w t f wal groups is log (offset.NotAStore at) bad fault = inr (no_offset wal groups is log (inl (at, refl, fault at refl)))
offset_ends asked w t f wal groups is log (offset.BadOffset index) bad fault = inr (no_offset wal groups is log (inr (index, refl, bad index refl)))
offset_ends asked w t f wal groups is log (offset.TooLong len) bad fault = inl tt
offset_ends asked w t f wal groups is log offset.Memory bad fault = inl tt

-- ---- what follows of the order in which they are opened

pub not_before_topics : (e : ConnectError) → IsAfterOpening store.Wal e → IsBeforeStore store.Topics e → ⊥
not_before_topics (error.Failed s) subsequent before = before
not_before_topics (error.NotAStore store.Wal at) subsequent before = subsequent
not_before_topics (error.NotAStore store.Topics at) subsequent before = before
not_before_topics (error.NotAStore store.Offsets at) subsequent before = before
not_before_topics (error.BadEntry store.Wal index) subsequent before = subsequent
not_before_topics (error.BadEntry store.Topics index) subsequent before = before
not_before_topics (error.BadEntry store.Offsets index) subsequent before = before
not_before_topics error.AlreadyStarted subsequent before = before
not_before_topics error.NotStarted subsequent before = before
not_before_topics (error.Halted h) subsequent before = before
not_before_topics (error.Refused position ordinal) subsequent before = before
not_before_topics error.Memory subsequent before = before

pub not_before_offsets : (e : ConnectError) → IsAfterOpening store.Topics e → IsBeforeStore store.Offsets e → ⊥
not_before_offsets (error.Failed s) subsequent before = before
not_before_offsets (error.NotAStore store.Wal at) subsequent before = subsequent
not_before_offsets (error.NotAStore store.Topics at) subsequent before = subsequent
not_before_offsets (error.NotAStore store.Offsets at) subsequent before = before
not_before_offsets (error.BadEntry store.Wal index) subsequent before = subsequent
not_before_offsets (error.BadEntry store.Topics index) subsequent before = subsequent
not_before_offsets (error.BadEntry store.Offsets index) subsequent before = before
not_before_offsets error.AlreadyStarted subsequent before = before
not_before_offsets error.NotStarted subsequent before = before
not_before_offsets (error.Halted h) subsequent before = before
not_before_offsets (error.Refused position ordinal) subsequent before = before
not_before_offsets error.Memory subsequent before = before

pub after_wal : (e : ConnectError) → IsAfterOpening store.Topics e → IsAfterOpening store.Wal e
after_wal (error.Failed s) subsequent = tt
after_wal (error.NotAStore store.Wal at) subsequent = subsequent
after_wal (error.NotAStore store.Topics at) subsequent = tt
after_wal (error.NotAStore store.Offsets at) subsequent = tt
after_wal (error.BadEntry store.Wal index) subsequent = subsequent
after_wal (error.BadEntry store.Topics index) subsequent = tt
after_wal (error.BadEntry store.Offsets index) subsequent = tt
after_wal error.AlreadyStarted subsequent = tt
after_wal error.NotStarted subsequent = tt
after_wal (error.Halted h) subsequent = tt
after_wal (error.Refused position ordinal) subsequent = tt
after_wal error.Memory subsequent = tt

pub after_topics : (e : ConnectError) → IsAfterOpening store.Offsets e → IsAfterOpening store.Topics e
after_topics (error.Failed s) subsequent = tt
after_topics (error.NotAStore store.Wal at) subsequent = subsequent
after_topics (error.NotAStore store.Topics at) subsequent = subsequent
after_topics (error.NotAStore store.Offsets at) subsequent = tt
after_topics (error.BadEntry store.Wal index) subsequent = subsequent
after_topics (error.BadEntry store.Topics index) subsequent = subsequent
after_topics (error.BadEntry store.Offsets index) subsequent = tt
after_topics error.AlreadyStarted subsequent = tt
after_topics error.NotStarted subsequent = tt
after_topics (error.Halted h) subsequent = tt
after_topics (error.Refused position ordinal) subsequent = tt
after_topics error.Memory subsequent = tt

-- ---- of an end

pub err_as : {A E : Type 0} (end : Result A E) (P Q : E → Type 0) → ((e : E) → P e → Q e) → IfErr end P → IfErr end Q
err_as (Ok x) P Q f p = tt
err_as (Err e) P Q f p = f e p

pub err_both : {A E : Type 0} (end : Result A E) (P Q R : E → Type 0) → ((e : E) → P e → Q e → R e) → IfErr end P → IfErr end Q → IfErr end R
err_both (Ok x) P Q R f p q = tt
err_both (Err e) P Q R f p q = f e p q

-- ---- one disk

pub only_on : {D : Type 0} (model : DiskModel D) (old mid new : D) → model.seen mid ≡ model.seen old → ((crashed : List ℕ) → model.may_leave mid crashed → model.may_leave old crashed)
    → OnlyRead model mid new → OnlyRead model old new
only_on model old mid new same crash read = record { same = read.same ∙ same; crash = λ crashed leaves. crash crashed (read.crash crashed leaves) }

pub only_same : {D : Type 0} (model : DiskModel D) (old new : D) → new ≡ old → OnlyRead model old new
only_same model old new same = subst (OnlyRead model old) (sym same) (record { same = refl; crash = λ crashed leaves. leaves })

pub counts_on : {D : Type 0} (model : DiskModel D) (s : Store) (end : ConnectEnd) (old mid new : D) → model.faults old ≤ model.faults mid → CountsFaults model s end mid new → CountsFaults model s end old new
counts_on model s end old mid new later counts = record {
  later = omega (arith, later, counts.later);
  cause = λ is. rose_after (model.faults old) (model.faults mid) (model.faults new) later (counts.cause is);
}

-- no call of a disk failed, in opening it or later
module _ {W T F : Type 0} (wal_model : DiskModel W) (topics_model : DiskModel T) (offsets_model : DiskModel F) where
  pub steady_on : (end : ConnectEnd) (old mid new : Disks W T F) → wal_model.seen mid.wal ≡ wal_model.seen old.wal → topics_model.seen mid.topics ≡ topics_model.seen old.topics
      → offsets_model.seen mid.offsets ≡ offsets_model.seen old.offsets → AreSteady wal_model topics_model offsets_model old mid → OnOk end (AreSteady wal_model topics_model offsets_model mid new)
      → OnOk end (AreSteady wal_model topics_model offsets_model old new)
  steady_on (Ok x) old mid new same_w same_t same_f first second = record {
    wal = λ bytes told. second.wal bytes (same_w ∙ told) ∙ first.wal bytes told;
    topics = λ bytes told. second.topics bytes (same_t ∙ told) ∙ first.topics bytes told;
    offsets = λ bytes told. second.offsets bytes (same_f ∙ told) ∙ first.offsets bytes told;
  }
  steady_on (Err e) old mid new same_w same_t same_f first second = tt

  pub steady_moved : (end : ConnectEnd) (old : Disks W T F) (w w1 : W) (t t1 : T) (f f1 : F) → w1 ≡ w → t1 ≡ t → f1 ≡ f → OnOk end (AreSteady wal_model topics_model offsets_model old (disks_of w t f))
      → OnOk end (AreSteady wal_model topics_model offsets_model old (disks_of w1 t1 f1))
  steady_moved end old w w1 t t1 f f1 is_w is_t is_f steady =
      subst (λ (x : W). OnOk end (AreSteady wal_model topics_model offsets_model old (disks_of x t1 f1))) (sym is_w)
      (subst (λ (y : T). OnOk end (AreSteady wal_model topics_model offsets_model old (disks_of w y f1))) (sym is_t)
      (subst (λ (z : F). OnOk end (AreSteady wal_model topics_model offsets_model old (disks_of w t z))) (sym is_f) steady))

pub counts_same : {D : Type 0} (model : DiskModel D) (s : Store) (end : ConnectEnd) (old new : D) → new ≡ old → (end ≡ Err (error.Failed s) → ⊥) → CountsFaults model s end old new
counts_same model s end old new same none =
    subst (CountsFaults model s end old) (sym same) (record { later = own_le (model.faults old); cause = λ is. absurd (none is) })
  where
    own_le : (n : ℕ) → n ≤ n
    own_le n = omega arith

pub counts_by : {D : Type 0} (model : DiskModel D) (s : Store) (e : ConnectError) (old new : D) → model.faults old ≤ model.faults new → (e ≡ error.Failed s → FaultCounted (model.faults old) (model.faults new))
    → CountsFaults model s (Err e) old new
counts_by model s e old new later rose = record { later = later; cause = λ is. rose (let i = is in cc) }

-- what a disk tells and leaves that was taken out of its store
pub moved_crash : {D : Type 0} (model : DiskModel D) (old new : D) → new ≡ old → (crashed : List ℕ) → model.may_leave new crashed → model.may_leave old crashed
moved_crash model old new same crashed leaves = subst (λ (d : _). model.may_leave d crashed) same leaves

pub moved_to : {D : Type 0} (P : D → Type 0) (old new : D) → new ≡ old → P old → P new
moved_to P old new same p = subst P (sym same) p

pub bounded_on : {D : Type 0} (model : DiskModel D) (old mid new : D) → model.seen mid ≡ model.seen old → IsBounded (model.seen mid) (model.seen new) → IsBounded (model.seen old) (model.seen new)
bounded_on model old mid new same bounded = subst (λ (told : Option (List ℕ)). IsBounded told (model.seen new)) same bounded

pub store_bounded_on : {D : Type 0} (model : DiskModel D) (old mid new : D) → model.seen mid ≡ model.seen old → IsStoreBounded (model.seen mid) (model.seen new)
    → IsStoreBounded (model.seen old) (model.seen new)
store_bounded_on model old mid new same bounded = subst (λ (told : Option (List ℕ)). IsStoreBounded told (model.seen new)) same bounded

pub read_on : {D : Type 0} (model : DiskModel D) (end : ConnectEnd) (old mid new : D) → model.seen mid ≡ model.seen old → ((crashed : List ℕ) → model.may_leave mid crashed → model.may_leave old crashed)
    → IfErr end (λ e. IsConnectRefusal e → OnlyRead model mid new) → IfErr end (λ e. IsConnectRefusal e → OnlyRead model old new)
read_on model end old mid new same crash read =
    err_as end (λ e. IsConnectRefusal e → OnlyRead model mid new) (λ e. IsConnectRefusal e → OnlyRead model old new) (λ e by refusal. only_on model old mid new same crash (by refusal)) read

-- where the end is a refusal the store is as it was, so that its disk was only read
pub read_stayed : {D S : Type 0} (model : DiskModel D) (disk : S → D) (end : ConnectEnd) (old new : S) (out : D) → out ≡ disk new
    → IfErr end (λ e. IsConnectRefusal e → new ≡ old) → IfErr end (λ e. IsConnectRefusal e → OnlyRead model (disk old) out)
read_stayed model disk end old new out is stays =
    err_as end (λ e. IsConnectRefusal e → new ≡ old) (λ e. IsConnectRefusal e → OnlyRead model (disk old) out) (λ e by refusal. only_same model (disk old) out (is ∙ ap disk (by refusal))) stays
