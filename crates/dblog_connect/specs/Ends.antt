-- The results of `capture` and `resume`, from the contents of the disks.
use Rattle.std.specs.Prelude.{Contains, IfSome, ◌≡◌, ◌⊎◌, ℕ, ℤ, ◌<◌, ◌≤◌, ◌^◌, take, Option, Some, None, Result, Ok, Err, List, length}
use Rattle.std.specs.List.{AllByRecursion}
use Rattle.dbl_base.specs.Streams.{FailsOnlyIfCounted}
use Rattle.dbl_record.specs.declared.record.Record.{Record}
use Rattle.dbl_hooks_gate.specs.Gates.{AddsAllowed}
use Rattle.dbl_disk.specs.Calls.{IsSteady}
use Rattle.dbl_disk.specs.Model.{DiskModel}
use Rattle.dbl_journal.specs.Form.{IsFaultAt}
use Rattle.dbl_model_table.specs.declared.config.Config.{Config}
use Rattle.dbl_model_table.specs.declared.table.TableName.{TableName}
use Rattle.dbl_model_commit.specs.Blocks.{AreWithoutFault}
use Rattle.dbl_model_commit.specs.Past.{last_lsn}
use Rattle.dbl_model_commit.specs.Stated.{commits_of}
use Rattle.dbl_demo.specs.SourceModel.Standings.{Reading}
use Rattle.dbl_demo.specs.SourceModel.Stated.{commits_after}
use Rattle.dbl_topic.specs.Logs.{IsLog}
use Rattle.dbl_topic.specs.Logs as log_bytes
use Rattle.dbl_offset_content.specs.declared.offset.Offset.{Offset}
use Rattle.dbl_offset.specs.Stores.{HasBadOffset, IsNoStoreAt, IsStore}
use Rattle.dbl_demo.specs.DemoWal.Standings.{confirmed_of, history_in}
use Rattle.dbl_demo.specs.DemoWal.Wals.{IsWal, Wal}
use Rattle.dbl_demo.specs.DemoWal.Wals as wal_bytes
use Rattle.dbl_capture.specs.CaptureWork.declared.halt.Halt.{Halt}
use Rattle.dbl_capture.specs.CaptureWork.declared.report.Ending.TheVariants.{Budget, Complete}
use Rattle.dbl_capture.specs.CaptureWork.declared.report.Report.{Report}
use Rattle.dbl_capture.specs.CaptureWork.Begins.{CanBeCaptured, IsAbsentHalt, IsExhausted}
use Rattle.dbl_capture.specs.CaptureLaws.Closed.{HasNoHigh}
use Rattle.dbl_capture.specs.CaptureLaws.Ends.{AreAllDone}
use Rattle.dbl_capture.specs.CaptureLaws.Found.{HasStored, IsFirstStored}
use Rattle.dbl_capture.specs.CaptureLaws.Gained.{Gains}
use Rattle.dbl_capture.specs.CaptureLaws.Reported.{AllCouldBeSent, course_at}
use Rattle.dbl_capture.specs.CaptureLaws.Written.{AddsAtMost, HaveBrought}
use Rattle.dblog_init.specs.declared.disks.Disks.{Disks}
use Rattle.dblog_init.specs.declared.error.Store.{Store}
use Rattle.dblog_init.specs.declared.error.Store.TheVariants.{Wal as WalStore, Topics, Offsets}
use Rattle.dbl_capture.specs.CaptureLaws.Captured.{IsTableHalt}
use Rattle.dblog_promise.specs.Bounds.{GrowsByFewMarks, AddsReportedMarks}
use Rattle.dblog_promise.specs.Causes.{HasGained, HasRead, IsCauseOf, IsKeptHalt}
use Rattle.dblog_promise.specs.Contents.{Contents, HasOwnTables, ReadAs, confirmed_at, history_at}
use Rattle.dblog_promise.specs.PromiseLaws.{AreCountedWhole}
use Rattle.dblog_promise.specs.Reports.{IsReportOf, IsWatermark}
pub use Rattle.dblog_connect_ends.specs.Ends.{ConnectEnd}
use Rattle.dblog_connect.specs.declared.asked.Asked.{Asked}
use Rattle.dblog_connect_ends.specs.declared.summary.Summary.{Summary}
use Rattle.dblog_connect_ends.specs.declared.error.ConnectError.{ConnectError}
use Rattle.dblog_connect_ends.specs.declared.error.ConnectError.TheVariants.{BadEntry, Failed, Halted, NotAStore}
use Rattle.dblog_connect.specs.Asked.{Refuses, asks_in, budget_of, rule_of}
use Rattle.dblog_connect_ends.specs.Errors.{IsExternalConnectError}
use Rattle.dblog_connect.specs.Followed.{AreFollowed, AreTallied, ComesByReading}
use Rattle.dbl_disk.specs.Disks.{disk_limit}

-- ---- disks with which no session can begin

-- Why the bytes are no source's log: where they are no journal, or the first bad entry.
abbrev pub IsNoSource : List ℕ → ConnectError → Type 0
IsNoSource bytes e =
    ((at : ℕ) × (e ≡ NotAStore WalStore at) × IsFaultAt bytes at)
    ⊎ ((index : ℕ) × (e ≡ BadEntry WalStore index) × wal_bytes.HasBadWalEntry bytes index)

-- Why the bytes are no topic log: where they are no journal, or the first bad entry.
abbrev pub IsNoTopicLog : List ℕ → ConnectError → Type 0
IsNoTopicLog bytes e =
    ((at : ℕ) × (e ≡ NotAStore Topics at) × IsFaultAt bytes at)
    ⊎ ((index : ℕ) × (e ≡ BadEntry Topics index) × log_bytes.HasBadEntry bytes index)

-- Why the bytes are no offset store: where they are no store, or the slot with a bad entry.
abbrev pub IsNoOffset : List ℕ → ConnectError → Type 0
IsNoOffset bytes e =
    ((at : ℕ) × (e ≡ NotAStore Offsets at) × IsNoStoreAt bytes at) ⊎ ((index : ℕ) × (e ≡ BadEntry Offsets index) × HasBadOffset bytes index)

-- If the error is that the source's disk has no valid log, its index or entry is right.
abbrev pub IsWrongSource : List ℕ → ConnectError → Type 0
IsWrongSource bytes (NotAStore WalStore at) = IsFaultAt bytes at
IsWrongSource bytes (BadEntry WalStore index) = wal_bytes.HasBadWalEntry bytes index
IsWrongSource bytes e = Unit {0}

-- Why a session is refused, in the order of the checks: a disk has no valid store, an offset is stored, or none is.
pub data IsRefused (asked : Asked) (w t f : List ℕ) (e : ConnectError) : Type 0 where
  no_source : IsNoSource w e → IsRefused asked w t f e
  no_log : (wal : Wal) → IsWal w wal → IsNoTopicLog t e → IsRefused asked w t f e
  no_offset : (wal : Wal) (groups : List (List Record)) → IsWal w wal → IsLog t groups → IsNoOffset f e → IsRefused asked w t f e
  not_asked : (held : Contents) → ReadAs w t f held → Refuses asked held.offset e → IsRefused asked w t f e

-- ---- what a session did

-- A session began over the contents of the disks, with this configuration.
pub record HasBegun (asked : Asked) (w t f : List ℕ) : Type 0 where
  pub held : Contents
  pub read : ReadAs w t f held
  pub config : Config
  pub asks : asks_in asked held ≡ Some config

-- The last stored offset: the one that was found, or one that the session stored.
abbrev pub IsStoredLast : Config → Option Offset → Option Offset → Type 0
IsStoredLast config found stored = (stored ≡ found) ⊎ HasStored config found stored

-- What was read has no error, its records could be sent, and the report counts it; the position is its last commit, up to which all is
-- confirmed. If the ending is Complete, the source has only watermarks after it.
pub record HasReadClean (config : Config) (now : ℤ) (found stored : Option Offset) (wal : Wal) (summary : Summary) : Type 0 where
  pub reading : Reading
  pub was : HasRead config found stored wal reading
  pub many : length reading.messages ≡ summary.report.messages
  pub accepted : AreWithoutFault was.by.offset.infos reading.after reading.messages
  pub sendable : AllCouldBeSent (course_at now reading.after was.by) (commits_of was.by.offset.infos reading.messages)
  pub position : summary.report.position ≡ (last_lsn reading.after reading.messages).0
  pub commits : summary.report.commits ≡ length (commits_of was.by.offset.infos reading.messages)
  pub confirmed : summary.report.position ≤ (confirmed_of wal).0
  pub all_read : summary.ending ≡ Complete
      → AllByRecursion (λ commit. IsWatermark commit.body)
      (commits_after (last_lsn reading.after reading.messages) (history_in wal).commits)

-- A crash leaves a source's log of the same workload.
abbrev pub Stays : (List ℕ → Type 0) → Contents → Type 0
Stays wals old = (bytes : List ℕ) → wals bytes → (wal : Wal) × IsWal bytes wal × (wal.script ≡ old.wal.script)

-- A crash leaves an offset store with this offset.
abbrev pub AreStores : (List ℕ → Type 0) → Option Offset → Type 0
AreStores stores offset = (bytes : List ℕ) → stores bytes → IsStore bytes offset

-- If the offset is still the one that was found, the topic log has gained nothing.
abbrev pub IsUngained : (List ℕ → Type 0) → Contents → Option Offset → Type 0
IsUngained logs old stored = stored ≡ old.offset → (bytes : List ℕ) (groups : List (List Record)) → logs bytes → IsLog bytes groups
    → groups ≡ old.groups

-- The topic log gained the records that a report counts.
abbrev pub AreGained : (List ℕ → Type 0) → Contents → Report → Type 0
AreGained logs old report = (bytes : List ℕ) (groups : List (List Record)) → logs bytes → IsLog bytes groups
    → HasGained old.groups groups report

-- A session ended normally: it could begin, what it read of the source's log has no error, and the disk has the offset that it stored last.
-- If the ending is Complete, that offset has each table done.
pub record HasRun (asked : Asked) (now : ℤ) (wals logs stores : List ℕ → Type 0) (w t f : List ℕ) (summary : Summary) : Type 0 where
  pub begun : HasBegun asked w t f
  pub stays : Stays wals begun.held
  pub gained : AreGained logs begun.held summary.report
  pub raised : (h : Halt) → IsExhausted begun.held.offset h → ⊥
  pub captured : begun.held.offset ≡ None → AllByRecursion (CanBeCaptured (history_at begun.held)) begun.config.tables
  -- The source still had the log after the stored LSN: none above it was confirmed.
  pub kept : IfSome begun.held.offset (λ offset. (confirmed_at begun.held).0 ≤ offset.lsn.0)
  pub stored : Option Offset
  pub store : AreStores stores stored
  pub first : IsFirstStored begun.config (history_at begun.held) begun.held.offset stored
  pub ungained : IsUngained logs begun.held stored
  pub done : summary.ending ≡ Complete → IfSome stored (λ offset. AreAllDone offset.cursors)
  pub clean : (bytes : List ℕ) (wal : Wal) → wals bytes → IsWal bytes wal
      → HasReadClean begun.config now begun.held.offset stored wal summary
  -- The topic log gained the records of the commits that were read, of the windows that these close, and nothing else.
  pub tallied : AreTallied begun.config now begun.held stored wals logs summary.report (Ok summary.ending)

-- A session halted for a cause in the contents of the disks and of the source's log since, and the disk has the offset that it stored last.
pub record EndsWithHalt (asked : Asked) (now : ℤ) (wals logs stores : List ℕ → Type 0) (w t f : List ℕ) (e : ConnectError) : Type 0 where
  pub begun : HasBegun asked w t f
  pub halt : Halt
  pub is : e ≡ Halted halt
  pub stays : Stays wals begun.held
  pub raised : (other : Halt) → IsExhausted begun.held.offset other → halt ≡ other
  pub captured : begun.held.offset ≡ None → (name : TableName) → Contains begun.config.tables name
      → (CanBeCaptured (history_at begun.held) name → ⊥)
      → IsTableHalt halt × IsAbsentHalt begun.config.tables (history_at begun.held) halt
  pub stored : Option Offset
  pub last : IsStoredLast begun.config begun.held.offset stored
  pub store : AreStores stores stored
  pub first : IsFirstStored begun.config (history_at begun.held) begun.held.offset stored
  pub ungained : IsUngained logs begun.held stored
  pub report : Report
  -- No more messages were read than the arguments allow.
  pub within : report.messages ≤ budget_of asked
  pub gained : AreGained logs begun.held report
  -- If the offset captures the tables of the catalogue, at most two watermarks were added for each reported window, and two more.
  pub marked : HasOwnTables begun.held → (bytes : List ℕ) (left : Contents) → wals bytes → IsWal bytes left.wal
      → AddsAtMost stored report.chunks (history_at begun.held) (history_at left)
  pub cause : (bytes : List ℕ) (wal : Wal) → wals bytes → IsWal bytes wal → IsCauseOf begun.config now begun.held stored report wal halt
  -- If the session stored no offset, it read nothing.
  pub unread : stored ≡ begun.held.offset → (report.messages ≡ 0) × (report.commits ≡ 0)
  -- If the halt comes from reading: the changes of the earlier commits were sent, and no later ones.
  pub followed : ComesByReading begun.held halt → AreFollowed begun.config now begun.held stored wals report halt
  pub tallied : ComesByReading begun.held halt → AreTallied begun.config now begun.held stored wals logs report (Err halt)

-- Why a command stopped with an error: a failed disk, no memory, contents with which it can't begin, or a halt of its session.
abbrev pub EndsBefore : Asked → ℤ → (List ℕ → Type 0) → (List ℕ → Type 0) → (List ℕ → Type 0) → List ℕ → List ℕ → List ℕ
    → ConnectError → Type 0
EndsBefore asked now wals logs stores w t f e = IsExternalConnectError e
    ⊎ (IsRefused asked w t f e ⊎ EndsWithHalt asked now wals logs stores w t f e)

-- The topic log is as before, or gained the records of some commits, made at this time, and of windows of at most the requested rows.
pub record GainsRecords (asked : Asked) (now : ℤ) (before logs : List ℕ → Type 0) (w t f : List ℕ)
    (begun : HasBegun asked w t f) : Type 0 where
  pub stored : Option Offset
  pub last : IsStoredLast begun.config begun.held.offset stored
  pub gains : (bytes : List ℕ) (groups : List (List Record)) → logs bytes → IsLog bytes groups
      → before bytes ⊎ Gains begun.config now begun.held.offset stored begun.held.groups groups
  -- No value is longer than the arguments allow.
  pub allowed : (bytes : List ℕ) (groups : List (List Record)) → logs bytes → IsLog bytes groups
      → before bytes ⊎ AddsAllowed (rule_of asked) begun.held.groups groups

-- If a stored offset captures the tables of the catalogue, the source's log is as before or gained few watermarks.
abbrev pub AddsFew : Asked → (List ℕ → Type 0) → (List ℕ → Type 0) → List ℕ → List ℕ → List ℕ → Type 0
AddsFew asked before wals w t f = (begun : HasBegun asked w t f) → HasOwnTables begun.held
    → (bytes : List ℕ) (left : Contents) → wals bytes → IsWal bytes left.wal → before bytes ⊎ GrowsByFewMarks begun.config begun.held left

-- ---- crash-consistent disks

-- A session ended normally, and a crash leaves only the present contents of the disks.
pub record HasEnded (asked : Asked) (wals logs stores : List ℕ → Type 0) (w t f : List ℕ) : Type 0 where
  pub begun : HasBegun asked w t f
  pub left : Contents
  pub each : (w1 t1 f1 : List ℕ) → wals w1 → logs t1 → stores f1 → ReadAs w1 t1 f1 left

-- Each window whose high watermark is among the reported commits is a reported window.
pub record HasClosedSent (config : Config) (found stored : Option Offset) (wal : Wal) (report : Report) : Type 0 where
  pub reading : Reading
  pub was : HasRead config found stored wal reading
  pub many : length reading.messages ≡ report.messages
  pub none : (number : ℕ) → report.chunks < number → number < 2 ^ 64
      → HasNoHigh was.by.offset.incarnation number (take report.commits (commits_of was.by.offset.infos reading.messages))

-- The report is that of the old and the new contents of the disks, with their watermarks and the progress of the tables.
pub record IsReported (asked : Asked) (now : ℤ) (wals logs stores : List ℕ → Type 0) (w t f : List ℕ) (summary : Summary) : Type 0 where
  pub ended : HasEnded asked wals logs stores w t f
  pub report : IsReportOf ended.begun.config now ended.begun.held ended.left summary.ending summary.report
  pub marks : AddsReportedMarks summary.ending summary.report.chunks ended.begun.held ended.left
  pub brought : HaveBrought ended.begun.config.chunk summary.report.chunks (history_at ended.left) ended.begun.held.offset ended.left.offset
  pub closed : HasClosedSent ended.begun.config ended.begun.held.offset ended.left.offset ended.left.wal summary.report
  -- A count stops at 2^64 - 1, more than a topic log of fewer than 2^40 bytes can reach.
  pub exact : (bytes : List ℕ) → logs bytes → length bytes < disk_limit → AreCountedWhole report.more summary.report

-- The session was complete.
abbrev pub IsCompleteEnd : ConnectEnd → Type 0
IsCompleteEnd (Ok summary) = summary.ending ≡ Complete
IsCompleteEnd (Err e) = ⊥

-- Why a session over crash-consistent disks halts: the cause is in every contents that a crash leaves.
pub record HasKeptHalt (asked : Asked) (now : ℤ) (wals logs stores : List ℕ → Type 0) (w t f : List ℕ) (h : Halt) : Type 0 where
  pub halted : EndsWithHalt asked now wals logs stores w t f (Halted h)
  pub each : (w1 t1 f1 : List ℕ) (left : Contents) → wals w1 → logs t1 → stores f1 → ReadAs w1 t1 f1 left
      → IsKeptHalt halted.begun.config now halted.begun.held halted.stored halted.report left h

-- An error over crash-consistent disks, none of which has an invalid store.
abbrev pub IsKeptError : Asked → ℤ → (List ℕ → Type 0) → (List ℕ → Type 0) → (List ℕ → Type 0) → List ℕ → List ℕ → List ℕ
    → ConnectError → Type 0
IsKeptError asked now wals logs stores w t f (Halted h) = HasKeptHalt asked now wals logs stores w t f h
IsKeptError asked now wals logs stores w t f (NotAStore store at) = ⊥
IsKeptError asked now wals logs stores w t f (BadEntry store index) = ⊥
IsKeptError asked now wals logs stores w t f e = Unit {0}

-- ---- every disk

-- The count of faults of a disk never falls, and its failure is reported only if the count rose.
abbrev pub CountsFaults : {D : Type 0} → DiskModel D → Store → ConnectEnd → D → D → Type 0
CountsFaults model store end old new = FailsOnlyIfCounted (end ≡ Err (Failed store)) (model.faults old) (model.faults new)

-- No call of a disk with known contents failed.
pub record AreSteady {W T F : Type 0} (wal_model : DiskModel W) (topics_model : DiskModel T) (offsets_model : DiskModel F)
    (old new : Disks W T F) : Type 0 where
  pub wal : IsSteady wal_model old.wal new.wal
  pub topics : IsSteady topics_model old.topics new.topics
  pub offsets : IsSteady offsets_model old.offsets new.offsets

-- A refused command has only read the disk: its contents are the same, and a crash leaves nothing that it couldn't leave before.
pub record OnlyRead {D : Type 0} (model : DiskModel D) (old new : D) : Type 0 where
  pub same : model.seen new ≡ model.seen old
  pub crash : (crashed : List ℕ) → model.may_leave new crashed → model.may_leave old crashed

-- A session with ending Budget has read exactly its budget of messages, with Complete fewer; and no more commits than messages.
pub record IsSpent (budget : ℕ) (summary : Summary) : Type 0 where
  pub complete : summary.ending ≡ Complete → summary.report.messages < budget
  pub spent : summary.ending ≡ Budget → summary.report.messages ≡ budget
  pub commits : summary.report.commits ≤ summary.report.messages
