-- What a session over the disks had read, followed and sent when it ended.
use Rattle.std.specs.Prelude.{◌≡◌, ◌⊎◌, ℕ, ℤ, Option, Result, List, length}
use Rattle.dbl_pgmsg.specs.declared.messages.Message.{Message}
use Rattle.dbl_record.specs.declared.record.Record.{Record}
use Rattle.dbl_model_table.specs.declared.config.Config.{Config}
use Rattle.dbl_demo.specs.SourceModel.Standings.{Reading}
use Rattle.dbl_topic.specs.Logs.{IsLog}
use Rattle.dbl_offset_content.specs.declared.offset.Offset.{Offset}
use Rattle.dbl_demo.specs.DemoWal.Wals.{IsWal, Wal}
use Rattle.dbl_capture.specs.CaptureWork.declared.halt.Halt.{Halt}
use Rattle.dbl_capture.specs.CaptureWork.declared.halt.Halt.TheVariants as halt
use Rattle.dbl_capture.specs.CaptureWork.declared.report.Ending.{Ending}
use Rattle.dbl_capture.specs.CaptureWork.declared.report.Report.{Report}
use Rattle.dbl_capture.specs.CaptureLaws.Gained.{making_of}
use Rattle.dbl_capture.specs.CaptureLaws.Reported.{HasFollowedOf, IsLeftOut, course_at}
use Rattle.dbl_capture.specs.CaptureLaws.Tallied.{Tallies}
use Rattle.dblog_promise.specs.Causes.{HasRead}
use Rattle.dblog_promise.specs.Contents.{Contents, HasOwnTables}

-- The halts after which it is known what was read and sent: those of a commit, of a missing watermark, of the next offset, and, if the
-- offset captures the tables of the catalogue, of a cell of a window.
abbrev pub ComesByReading : Contents → Halt → Type 0
ComesByReading held (halt.Txn number error) = Unit {0}
ComesByReading held (halt.Clash table column) = Unit {0}
ComesByReading held (halt.RecordTooLong len) = Unit {0}
ComesByReading held (halt.OffsetTooLong len) = Unit {0}
ComesByReading held (halt.WatermarkMissing value at) = Unit {0}
ComesByReading held (halt.Cell table column error) = HasOwnTables held
ComesByReading held h = ⊥

-- ---- what was followed

-- As many messages of the source's log were read as reported, without an error, and as many commits followed, except for the newest
-- message, if it is the cause of the halt.
pub record HasFollowedRead (config : Config) (now : ℤ) (found stored : Option Offset) (wal : Wal) (report : Report)
    (h : Halt) : Type 0 where
  pub reading : Reading
  pub was : HasRead config found stored wal reading
  pub many : length reading.messages ≡ report.messages
  pub so_far : HasFollowedOf (course_at now reading.after was.by) reading.messages report.commits h

-- No message was read, or the messages were followed as reported.
abbrev pub IsFollowedRead : Config → ℤ → Option Offset → Option Offset → Wal → Report → Halt → Type 0
IsFollowedRead config now found stored wal report h =
    ((report.messages ≡ 0) × (report.commits ≡ 0) × IsLeftOut h 0) ⊎ HasFollowedRead config now found stored wal report h

-- The messages were followed as reported, in every source's log that a crash leaves.
abbrev pub AreFollowed : Config → ℤ → Contents → Option Offset → (List ℕ → Type 0) → Report → Halt → Type 0
AreFollowed config now old stored wals report h =
    (bytes : List ℕ) (wal : Wal) → wals bytes → IsWal bytes wal → IsFollowedRead config now old.offset stored wal report h

-- ---- what was sent

-- The topic log has gained exactly the records of the reported commits, in order; of a watermark those of a window, or none; and of the
-- newest message, if it is the cause of the halt, some first records of its commit.
pub record HasTalliedRead (config : Config) (now : ℤ) (found stored : Option Offset) (wal : Wal) (old new : List (List Record))
    (report : Report) (result : Result Ending Halt) : Type 0 where
  pub reading : Reading
  pub was : HasRead config found stored wal reading
  pub many : length reading.messages ≡ report.messages
  pub tallies : Tallies (λ (log groups : List (List Record)). log ≡ groups) old new (making_of was.by.offset now config.chunk) reading.after
      was.by.offset.lsn (λ (read message : Message). read ≡ message) reading.messages report.commits result

-- Nothing was read and gained, or the records of the reported commits.
abbrev pub IsTalliedRead : Config → ℤ → Option Offset → Option Offset → Wal → List (List Record) → List (List Record) → Report
    → Result Ending Halt → Type 0
IsTalliedRead config now found stored wal old new report result =
    ((report.messages ≡ 0) × (report.commits ≡ 0) × (new ≡ old)) ⊎ HasTalliedRead config now found stored wal old new report result

-- The topic log has gained the records of the reported commits, in all logs that a crash leaves.
abbrev pub AreTallied : Config → ℤ → Contents → Option Offset → (List ℕ → Type 0) → (List ℕ → Type 0) → Report → Result Ending Halt → Type 0
AreTallied config now old stored wals logs report result =
    (bytes image : List ℕ) (wal : Wal) (groups : List (List Record)) → wals bytes → IsWal bytes wal → logs image → IsLog image groups
    → IsTalliedRead config now old.offset stored wal old.groups groups report result
