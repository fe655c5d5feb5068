-- Where the session of a command isn't begun, and of which kind its errors are.
use Rattle.std.proofs.Common.{◌≡◌, ◌∙◌, ◌⊎◌, inl, inr, ℕ, ◌<◌, ◌≤◌, Option, Some, None, List, length, Result, Ok, Err, refl, sym, ap, subst, arith}
use Rattle.std.specs.Prelude.{IsErrAnd, IsTrue}
use Rattle.dbl_disk.specs.Calls.{IsSteady}
use Rattle.dbl_disk.specs.Model.{DiskModel}
use Rattle.dbl_model_table.specs.declared.config.Config.{Config}
use Rattle.dbl_model_table.specs.declared.table.TableName.{TableName}
use Rattle.dbl_journal.specs.Stored.{OnDisk}
use Rattle.dbl_offset_content.specs.declared.offset.Offset.{Offset}
use Rattle.dbl_offset.specs.Stores.{ExtendsOffsets as StoreComesOf, IsLive, StoreOn, disk_of}
use Rattle.dbl_topic.specs.Held.{ExtendsTopics as LogComesOf}
use Rattle.dbl_demo.specs.DemoLaws.Demo.{ExtendsDemo, Demo}
use Rattle.dbl_capture.specs.CaptureWork.declared.halt.Halt.{Halt}
use Rattle.dbl_capture.specs.CaptureWork.declared.halt.Halt.TheVariants as halt
use Rattle.dbl_capture.specs.CaptureWork.declared.report.Ending.{Ending}
use Rattle.dbl_capture.specs.CaptureWork.declared.report.Ending.TheVariants.{Budget, Complete}
use Rattle.dbl_capture.specs.CaptureWork.declared.report.Report.{Report}
use Rattle.dblog_init.specs.declared.error.Store.{Store}
use Rattle.dblog_init.specs.declared.error.Store.TheVariants as store
use Rattle.dblog_promise.specs.Bounds.{IsBounded, IsStoreBounded}
use Rattle.dblog_connect.specs.declared.asked.Asked.{Asked}
use Rattle.dblog_connect.specs.declared.asked.Asked.TheVariants.{First, Again}
use Rattle.dblog_connect_ends.specs.declared.error.ConnectError.{ConnectError}
use Rattle.dblog_connect_ends.specs.declared.error.ConnectError.TheVariants as error
use Rattle.dbl_capture.specs.CaptureLaws.Found.{IsOfConfig}
use Rattle.dblog_connect.specs.Asked.{Refuses, asks_of, config_again}
use Rattle.dblog_connect.specs.Ends.{IsRefused, IsSpent}
use Rattle.dblog_connect.specs.Ends.IsRefused.{not_asked}
use Rattle.dblog_connect_ends.specs.Errors.{IsAfterOpening, IsConnectError, IsExternalConnectError, IsOwnHalt, IsConnectRefusal, halt_error}
use Rattle.dblog_connect.specs.Steps.{IsOpenedLog, IsOpenedSource, IsOpenedStore}
use Rattle.dblog_connect.proofs.Answered.{own_or}
use Rattle.dblog_connect.proofs.Opened.{bounded_by, kept_source, log_come, read_of}
use Rattle.dblog_connect.proofs.Stays.{IsUnhalted}

-- what is said of an error is said of the result that a `?` makes of it
pub residual : {A E : Type 0} (r : Result A E) (e : E) (Q : Result A E → Type 0) → IsErrAnd r (λ x. x ≡ e) → Q (Err e) → Q r
residual (Ok x) e Q none q = absurd none
residual {A} (Err d) e Q same q = subst (λ x. Q (Err x)) (sym same) q

-- ---- the arguments don't request what is stored

pub refused_is : (asked : Asked) (stored : Option Offset) (e : ConnectError) → (e ≡ error.Memory) ⊎ Refuses asked stored e → (e ≡ error.Memory) ⊎ ((e ≡ error.AlreadyStarted) ⊎ (e ≡ error.NotStarted))
refused_is asked stored e (inl is) = inl is
refused_is (First options) None e (inr refuses) = absurd refuses
refused_is (First options) (Some offset) e (inr refuses) = inr (inl refuses)
refused_is (Again options) None e (inr refuses) = inr (inr refuses)
refused_is (Again options) (Some offset) e (inr refuses) = absurd refuses

refused_as : (P : ConnectError → Type 0) → P error.Memory → P error.AlreadyStarted → P error.NotStarted → (asked : Asked) (stored : Option Offset) (e : ConnectError) → (e ≡ error.Memory) ⊎ Refuses asked stored e → P e
refused_as P memory already not_yet asked stored e refused = by (refused_is asked stored e refused)
  where
    by : (e ≡ error.Memory) ⊎ ((e ≡ error.AlreadyStarted) ⊎ (e ≡ error.NotStarted)) → P e
    by (inl is) = subst P (sym is) memory
    by (inr (inl is)) = subst P (sym is) already
    by (inr (inr is)) = subst P (sym is) not_yet

pub refused_kind : (asked : Asked) (stored : Option Offset) (e : ConnectError) → (e ≡ error.Memory) ⊎ Refuses asked stored e → IsConnectError e
refused_kind = refused_as IsConnectError tt tt tt

pub refused_after : (asked : Asked) (stored : Option Offset) (e : ConnectError) → (e ≡ error.Memory) ⊎ Refuses asked stored e → IsAfterOpening store.Offsets e
refused_after = refused_as (IsAfterOpening store.Offsets) tt tt tt

pub refused_unhalted : (asked : Asked) (stored : Option Offset) (e : ConnectError) → (e ≡ error.Memory) ⊎ Refuses asked stored e → IsUnhalted e
refused_unhalted = refused_as IsUnhalted tt tt tt

pub refused_unfailed : (s : Store) (asked : Asked) (stored : Option Offset) (e : ConnectError) → (e ≡ error.Memory) ⊎ Refuses asked stored e → e ≡ error.Failed s → ⊥
refused_unfailed s = refused_as (λ e. e ≡ error.Failed s → ⊥) (λ is. let i = is in cc) (λ is. let i = is in cc) (λ is. let i = is in cc)

module _ {W T F : Type 0} (wal_model : DiskModel W) (topics_model : DiskModel T) (offsets_model : DiskModel F) (so : Demo W) (lo : OnDisk T) (fo : StoreOn F)
    (opened_w : IsOpenedSource wal_model so) (opened_t : IsOpenedLog topics_model lo) (opened_f : IsOpenedStore offsets_model fo) where
  pub refused_ends : (asked : Asked) (stored : Option Offset) (e : ConnectError) → stored ≡ fo.offset → (e ≡ error.Memory) ⊎ Refuses asked stored e
      → (w t f : List ℕ) → wal_model.seen so.journal.disk ≡ Some w → topics_model.seen lo.disk ≡ Some t → offsets_model.seen (disk_of fo) ≡ Some f → IsExternalConnectError e ⊎ IsRefused asked w t f e
  refused_ends asked stored e same (inl is) w t f told_w told_t told_f = inl (subst IsExternalConnectError (sym is) tt)
  refused_ends asked stored e same (inr refuses) w t f told_w told_t told_f =
      inr (not_asked _ (read_of wal_model topics_model offsets_model w t f so lo fo (opened_w w told_w) (opened_t t told_t) (opened_f f told_f))
      (subst (λ (o : Option Offset). Refuses asked o e) same refuses))

  -- ---- lengths

  pub source_bounded : (sn : Demo W) → ExtendsDemo wal_model so sn → IsBounded (wal_model.seen so.journal.disk) (wal_model.seen sn.journal.disk)
  source_bounded sn comes = bounded_by wal_model so.journal.disk sn.journal
      (λ bytes told. (let src = opened_w bytes told in (comes src.wal.script 0 (length bytes) (wal_model.faults so.journal.disk) (kept_source wal_model bytes so src)).come))

  pub source_steady : (sn : Demo W) → ExtendsDemo wal_model so sn → IsTrue sn.live → IsSteady wal_model so.journal.disk sn.journal.disk
  source_steady sn comes live bytes told = let src = opened_w bytes told in (comes src.wal.script 0 (length bytes) (wal_model.faults so.journal.disk) (kept_source wal_model bytes so src)).steady live

  pub log_steady : (ln : OnDisk T) → LogComesOf topics_model lo ln → IsTrue ln.live → IsSteady topics_model lo.disk ln.disk
  log_steady ln comes live bytes told = (comes.steady (topics_model.faults lo.disk) (λ was. ((bytes, told), refl)) live).1

  pub store_steady : (fn : StoreOn F) → StoreComesOf offsets_model fo fn → IsLive fn → IsSteady offsets_model (disk_of fo) (disk_of fn)
  store_steady fn comes live bytes told =
      (comes (record { most = length bytes; faults = offsets_model.faults (disk_of fo) }) (record { bytes = bytes; told = told; short = omega arith; steady = λ was. refl })).steady live

  pub log_bounded : (ln : OnDisk T) → LogComesOf topics_model lo ln → IsBounded (topics_model.seen lo.disk) (topics_model.seen ln.disk)
  log_bounded ln comes = bounded_by topics_model lo.disk ln (λ bytes told. comes.journal 0 (length bytes) (log_come topics_model bytes lo (opened_t bytes told)))

  pub store_bounded : (fn : StoreOn F) → StoreComesOf offsets_model fo fn → IsStoreBounded (offsets_model.seen (disk_of fo)) (offsets_model.seen (disk_of fn))
  store_bounded fn comes = record {
    each = λ before told. (
        let now = comes (record { most = length before; faults = offsets_model.faults (disk_of fo) }) (record { bytes = before; told = told; short = omega arith; steady = λ live. refl }) in
        (now.bytes, now.told, now.short));
  }

-- ---- halts

outside_kind : (e : ConnectError) → IsExternalConnectError e → IsConnectError e × IsAfterOpening store.Offsets e × (IsConnectRefusal e → ⊥)
outside_kind (error.Failed s) outside = (tt, tt, λ refusal. refusal)
outside_kind (error.NotAStore s at) outside = absurd outside
outside_kind (error.BadEntry s index) outside = absurd outside
outside_kind error.AlreadyStarted outside = absurd outside
outside_kind error.NotStarted outside = absurd outside
outside_kind (error.Halted h) outside = absurd outside
outside_kind (error.Refused position ordinal) outside = (tt, tt, λ refusal. refusal)
outside_kind error.Memory outside = (tt, tt, λ refusal. refusal)

pub halt_kind : (h : Halt) → IsConnectError (halt_error h) × IsAfterOpening store.Offsets (halt_error h) × (IsConnectRefusal (halt_error h) → ⊥)
halt_kind h = by (own_or h)
  where
    by : IsExternalConnectError (halt_error h) ⊎ ((halt_error h ≡ error.Halted h) × IsOwnHalt h) → IsConnectError (halt_error h) × IsAfterOpening store.Offsets (halt_error h) × (IsConnectRefusal (halt_error h) → ⊥)
    by (inl outside) = outside_kind (halt_error h) outside
    by (inr own) = subst (λ (e : ConnectError). IsConnectError e × IsAfterOpening store.Offsets e × (IsConnectRefusal e → ⊥)) (sym own.0) (own.1, tt, λ refusal. refusal)

-- the device of a disk
abbrev pub halt_of : Store → Halt
halt_of store.Wal = halt.Source
halt_of store.Topics = halt.Sink
halt_of store.Offsets = halt.Offsets

pub halt_fails : (h : Halt) (s : Store) → halt_error h ≡ error.Failed s → h ≡ halt_of s
halt_fails halt.Source s is = (let same : store.Wal ≡ s = (let i = is in cc) in subst (λ (x : Store). halt.Source ≡ halt_of x) same refl)
halt_fails halt.Sink s is = (let same : store.Topics ≡ s = (let i = is in cc) in subst (λ (x : Store). halt.Sink ≡ halt_of x) same refl)
halt_fails halt.Offsets s is = (let same : store.Offsets ≡ s = (let i = is in cc) in subst (λ (x : Store). halt.Offsets ≡ halt_of x) same refl)
halt_fails halt.Memory s is = absurd (let i = is in cc)
halt_fails (halt.Message number error) s is = absurd (let i = is in cc)
halt_fails (halt.Txn number error) s is = absurd (let i = is in cc)
halt_fails (halt.Chunk table row) s is = absurd (let i = is in cc)
halt_fails (halt.Altered table) s is = absurd (let i = is in cc)
halt_fails (halt.Cell table column error) s is = absurd (let i = is in cc)
halt_fails (halt.Clash table column) s is = absurd (let i = is in cc)
halt_fails (halt.RecordTooLong len) s is = absurd (let i = is in cc)
halt_fails (halt.OffsetTooLong len) s is = absurd (let i = is in cc)
halt_fails (halt.Model error) s is = absurd (let i = is in cc)
halt_fails (halt.UnknownTable table) s is = absurd (let i = is in cc)
halt_fails (halt.Gone asked first) s is = absurd (let i = is in cc)
halt_fails (halt.WatermarkMissing value at) s is = absurd (let i = is in cc)
halt_fails (halt.Exhausted incarnation) s is = absurd (let i = is in cc)

-- ---- budgets

pub spent_of : (budget : ℕ) (config : Config) (ending : Ending) (report : Report) → config.messages ≡ budget → (ending ≡ Complete → report.messages < config.messages)
    → (ending ≡ Budget → report.messages ≡ config.messages) → report.commits ≤ report.messages → IsSpent budget (record { ending = ending; report = report })
spent_of budget config ending report same few spent commits = record {
  complete = λ is. subst (λ (n : ℕ). report.messages < n) same (few is);
  spent = λ is. spent is ∙ same;
  commits = commits;
}

-- what is asked for, by what the calls answered
pub asks_same : (asked : Asked) (names : List TableName) (stored : Option Offset) (all : List TableName) (found : Option Offset) (config : Config)
    → all ≡ names → found ≡ stored → asks_of asked all found ≡ Some config → asks_of asked names stored ≡ Some config
asks_same asked names stored all found config one two is =
    subst (λ (o : Option Offset). asks_of asked names o ≡ Some config) two (subst (λ (n : List TableName). asks_of asked n found ≡ Some config) one is)

-- where an offset is stored, its identity and its tables are those that are asked for
pub asked_of : (asked : Asked) (all : List TableName) (stored : Option Offset) (config : Config) → asks_of asked all stored ≡ Some config → IsOfConfig config stored
asked_of (First options) all None config is = tt
asked_of (First options) all (Some offset) config is = absurd (let i = is in cc)
asked_of (Again options) all None config is = tt
asked_of (Again options) all (Some offset) config is =
    (let same : config_again offset options ≡ config = (let i = is in cc) in (ap (λ (c : Config). c.identity) same, ap (λ (c : Config). c.tables) same))
