-- For private clauses: the steps of the connector after the disks were opened.
use Rattle.std.specs.Prelude.{◌≡◌, ℕ, ℤ, Option, Some, None, Result, Ok, Err, IfOk, IfErr, MatchResult, OnOk, List}
use Rattle.dbl_record.specs.declared.record.Record.{Record}
use Rattle.dbl_disk.specs.Model.{DiskModel}
use Rattle.dbl_journal.specs.Stored.{OnDisk}
use Rattle.dbl_topic.specs.Held.{HoldsGroups}
use Rattle.dbl_topic.specs.Logs.{IsLog}
use Rattle.dbl_offset.specs.Stores.{HoldsOffset, IsStore, StoreOn, disk_of}
use Rattle.dbl_demo.specs.DemoLaws.Demo.{Demo, IsDemo}
use Rattle.dbl_demo.specs.DemoWal.Wals.{IsWal, Wal}
use Rattle.dbl_capture.specs.CaptureWork.declared.halt.Halt.{Halt}
use Rattle.dbl_capture.specs.CaptureWork.declared.report.Ending.{Ending}
use Rattle.dblog_promise.specs.Bounds.{IsBounded, IsStoreBounded}
use Rattle.dblog_promise.specs.Headline.{GuaranteesAfterCrash}
use Rattle.dblog_init.specs.declared.disks.Disks.{Disks}
use Rattle.dblog_init.specs.declared.error.Store.TheVariants as stores
use Rattle.dblog_connect.specs.declared.asked.Asked.{Asked}
use Rattle.dblog_connect.specs.Asked.{asks_in, budget_of}
use Rattle.dblog_connect_ends.specs.declared.error.ConnectError.{ConnectError}
use Rattle.dblog_connect_ends.specs.declared.error.ConnectError.TheVariants.{Refused}
use Rattle.dblog_connect_ends.specs.Errors.{IsAfterOpening, IsConnectRefusal, halt_error}
use Rattle.dblog_connect.specs.Refusals.{IsErrorFor, IsRefusedNext}
use Rattle.dblog_connect.specs.Disks.{AreKeptDisks, IsTrueAfterCrash, IsTrueOfContents}
use Rattle.dblog_connect.specs.Ends.{AddsFew, AreSteady, ConnectEnd, CountsFaults, EndsBefore, GainsRecords, HasBegun}
use Rattle.dblog_connect.specs.Ends.{HasRun, IsCompleteEnd, IsKeptError, IsReported, IsSpent}

-- ---- opened stores

-- The source is over a disk with these contents, and has no reader yet.
pub record IsSourceOf {D : Type 0} (model : DiskModel D) (bytes : List ℕ) (source : Demo D) : Type 0 where
  pub told : model.seen source.journal.disk ≡ Some bytes
  pub wal : Wal
  pub is : IsWal bytes wal
  pub demo : IsDemo model wal source
  pub unread : source.place ≡ None

-- The topic log is over a disk with these contents.
pub record IsLogOf {D : Type 0} (model : DiskModel D) (bytes : List ℕ) (log : OnDisk D) : Type 0 where
  pub told : model.seen log.disk ≡ Some bytes
  pub groups : List (List Record)
  pub is : IsLog bytes groups
  pub holds : HoldsGroups model log groups

-- The offset store is over a disk with these contents.
pub record IsStoreOf {D : Type 0} (model : DiskModel D) (bytes : List ℕ) (store : StoreOn D) : Type 0 where
  pub told : model.seen (disk_of store) ≡ Some bytes
  pub is : IsStore bytes store.offset
  pub holds : HoldsOffset model store store.offset

-- A source that was opened, if its disk has known contents.
abbrev pub IsOpenedSource : {D : Type 0} → DiskModel D → Demo D → Type 0
IsOpenedSource model source = (bytes : List ℕ) → model.seen source.journal.disk ≡ Some bytes → IsSourceOf model bytes source

-- A topic log that was opened, if its disk has known contents.
abbrev pub IsOpenedLog : {D : Type 0} → DiskModel D → OnDisk D → Type 0
IsOpenedLog model log = (bytes : List ℕ) → model.seen log.disk ≡ Some bytes → IsLogOf model bytes log

-- An offset store that was opened, if its disk has known contents.
abbrev pub IsOpenedStore : {D : Type 0} → DiskModel D → StoreOn D → Type 0
IsOpenedStore model store = (bytes : List ℕ) → model.seen (disk_of store) ≡ Some bytes → IsStoreOf model bytes store

-- ---- the answer of the connector

-- Three disks as one value.
abbrev pub disks_of : {W T F : Type 0} → W → T → F → Disks W T F
disks_of wal topics offsets = record { wal = wal; topics = topics; offsets = offsets }

-- The clauses of `connect` that concern more than one disk, for the disks before and after.
pub record AnswersConnect {W T F : Type 0} (wal_model : DiskModel W) (topics_model : DiskModel T) (offsets_model : DiskModel F)
    (asked : Asked) (now : ℤ) (old new : Disks W T F) (end : ConnectEnd) : Type 0 where
  pub headline : AreKeptDisks wal_model topics_model offsets_model old → IsTrueAfterCrash wal_model topics_model offsets_model new
      (GuaranteesAfterCrash (IsCompleteEnd end) (asks_in asked) (wal_model.may_leave old.wal) (topics_model.may_leave old.topics)
      (offsets_model.may_leave old.offsets))
  pub kept : AreKeptDisks wal_model topics_model offsets_model old → AreKeptDisks wal_model topics_model offsets_model new
  pub report : AreKeptDisks wal_model topics_model offsets_model old → IsTrueOfContents wal_model topics_model offsets_model old (λ w t f.
      IfOk end (IsReported asked now (wal_model.may_leave new.wal) (topics_model.may_leave new.topics)
      (offsets_model.may_leave new.offsets) w t f))
  pub never : AreKeptDisks wal_model topics_model offsets_model old → IsTrueOfContents wal_model topics_model offsets_model old (λ w t f.
      IfErr end (IsKeptError asked now (wal_model.may_leave new.wal) (topics_model.may_leave new.topics)
      (offsets_model.may_leave new.offsets) w t f))
  pub told : IsTrueOfContents wal_model topics_model offsets_model old (λ w t f. MatchResult end
      (HasRun asked now (wal_model.may_leave new.wal) (topics_model.may_leave new.topics) (offsets_model.may_leave new.offsets) w t f)
      (EndsBefore asked now (wal_model.may_leave new.wal) (topics_model.may_leave new.topics) (offsets_model.may_leave new.offsets) w t f))
  pub refuses : IsTrueOfContents wal_model topics_model offsets_model old (λ w t f.
      IfErr end (IsRefusedNext asked now (wal_model.may_leave new.wal) w t f))
  pub gains : IsTrueOfContents wal_model topics_model offsets_model old (λ w t f. (begun : HasBegun asked w t f)
      → GainsRecords asked now (topics_model.may_leave old.topics) (topics_model.may_leave new.topics) w t f begun)
  pub marks : IsTrueOfContents wal_model topics_model offsets_model old (λ w t f.
      AddsFew asked (wal_model.may_leave old.wal) (wal_model.may_leave new.wal) w t f)

-- What a session over opened stores answers and leaves.
pub record EndsSession {W T F : Type 0} (wal_model : DiskModel W) (topics_model : DiskModel T) (offsets_model : DiskModel F)
    (asked : Asked) (now : ℤ) (source new_source : Demo W) (log new_log : OnDisk T) (store new_store : StoreOn F)
    (end : ConnectEnd) : Type 0 where
  pub answers : AnswersConnect wal_model topics_model offsets_model asked now (disks_of source.journal.disk log.disk (disk_of store))
      (disks_of new_source.journal.disk new_log.disk (disk_of new_store)) end
  pub spent : IfOk end (IsSpent (budget_of asked))
  pub kinds : IfErr end (IsErrorFor asked)
  pub after_opening : IfErr end (IsAfterOpening stores.Offsets)
  pub source_stays : IfErr end (λ e. IsConnectRefusal e → new_source ≡ source)
  pub log_stays : IfErr end (λ e. IsConnectRefusal e → new_log ≡ log)
  pub store_stays : IfErr end (λ e. IsConnectRefusal e → new_store ≡ store)
  pub source_counts : CountsFaults wal_model stores.Wal end source.journal.disk new_source.journal.disk
  pub steady : OnOk end (AreSteady wal_model topics_model offsets_model (disks_of source.journal.disk log.disk (disk_of store))
      (disks_of new_source.journal.disk new_log.disk (disk_of new_store)))
  pub log_counts : CountsFaults topics_model stores.Topics end log.disk new_log.disk
  pub store_counts : CountsFaults offsets_model stores.Offsets end (disk_of store) (disk_of new_store)
  pub source_bounded : IsBounded (wal_model.seen source.journal.disk) (wal_model.seen new_source.journal.disk)
  pub log_bounded : IsBounded (topics_model.seen log.disk) (topics_model.seen new_log.disk)
  pub store_bounded : IsStoreBounded (offsets_model.seen (disk_of store)) (offsets_model.seen (disk_of new_store))

-- The end of a session over a gate: a refused record is an error of its own, whatever the session's error is.
abbrev pub session_end : Result Ending Halt → Option (ℕ × ℕ) → Result Ending ConnectError
session_end (Ok ending) refused = Ok ending
session_end (Err h) None = Err (halt_error h)
session_end (Err h) (Some place) = Err (Refused place.0 place.1)
