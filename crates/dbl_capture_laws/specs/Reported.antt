-- What a session reads and follows, and what its report says of that.
use Rattle.std.specs.Prelude.{◌≡◌, ◌⊎◌, ℕ, ℤ, ◌≤◌, ◌++◌, Option, Some, None, IfSome, Result, IsErr, List, [], ◌∷◌, length}
use Rattle.std.specs.List.{AllByRecursion, AllZip}
use Rattle.dbl_base.specs.declared.lsn.Lsn.{Lsn}
use Rattle.dbl_pgmsg.specs.declared.messages.Message.{Message}
use Rattle.dbl_pgmsg.specs.Grammar.{Spells}
use Rattle.dbl_model_table.specs.declared.change.Commit.{Commit}
use Rattle.dbl_model_table.specs.declared.config.Config.{Config}
use Rattle.dbl_model_table.specs.declared.identity.Identity.{Identity}
use Rattle.dbl_model_table.specs.declared.table.TableInfo.{TableInfo}
use Rattle.dbl_capture_work.specs.ModelCommit.Blocks.{AreWithoutFault}
use Rattle.dbl_capture_work.specs.ModelCommit.Past.{last_lsn}
use Rattle.dbl_capture_work.specs.ModelCommit.Stated.{commits_of}
use Rattle.dbl_capture_work.specs.SourceModel.Standings.{Reading, SourceState}
use Rattle.dbl_capture_work.specs.SourceModel.Trace.{Trace, IsTakenBy}
use Rattle.dbl_capture_work.specs.Offset.declared.offset.Offset.{Offset}
use Rattle.dbl_capture_work.specs.declared.halt.Halt.{Halt}
use Rattle.dbl_capture_work.specs.declared.halt.Halt.TheVariants as halt
use Rattle.dbl_capture_work.specs.declared.report.Ending.{Ending}
use Rattle.dbl_capture_work.specs.declared.report.Report.{Report}
use Rattle.dbl_capture_work.specs.declared.work.SessionState.{SessionState}
use Rattle.dbl_capture_work.specs.Works.{CouldBeSent, IsWork}
use Rattle.dbl_capture_laws.specs.Found.{HasStored}

-- ---- messages and commits

-- The bytes that were read encode these messages, newest first.
abbrev pub AreSpelled : List (List ℕ) → List Message → Type 0
AreSpelled read ms = AllZip Spells read ms

-- The parameters by which a session follows commits: its identity, its tables, the time of its records, and the LSN after which it reads.
pub record Course : Type 0 where
  pub identity : Identity
  pub infos : List TableInfo
  pub now : ℤ
  pub after : Lsn

-- The parameters of a session that began to read after this LSN.
abbrev pub course_of : Lsn → SessionState → Course
course_of after work = record { identity = work.offset.identity; infos = work.offset.infos; now = work.now_ms; after = after }

-- The records of these commits have no value equal to the placeholder, and none of them is too long.
abbrev pub AllCouldBeSent : Course → List Commit → Type 0
AllCouldBeSent course commits = AllByRecursion (λ commit. CouldBeSent course.identity course.infos course.now commit commit.body) commits

-- How many of the newest messages aren't counted when a session stops: one if it is invalid, or if the records of its commit weren't all
-- appended, and none otherwise. If memory ran out, both are possible; `Tallies` decides by the sink's contents.
abbrev pub IsLeftOut : Halt → ℕ → Type 0
IsLeftOut halt.Memory n = n ≤ 1
IsLeftOut (halt.Message number error) n = n ≡ 1
IsLeftOut (halt.Txn number error) n = n ≡ 1
IsLeftOut (halt.Clash table column) n = n ≡ 1
IsLeftOut (halt.RecordTooLong len) n = n ≡ 1
IsLeftOut halt.Sink n = n ≡ 1
IsLeftOut h n = n ≡ 0

-- `commits` counts the commits that the bytes encode, each of which could be sent; the newest message may be left out.
pub record HasFollowed (course : Course) (read : List (List ℕ)) (commits : ℕ) (h : Halt) : Type 0 where
  pub newest : List (List ℕ)
  pub few : IsLeftOut h (length newest)
  pub earlier : List (List ℕ)
  pub parted : read ≡ newest ++ earlier
  pub messages : List Message
  pub spelled : AreSpelled earlier messages
  pub accepted : AreWithoutFault course.infos course.after messages
  pub sent : AllCouldBeSent course (commits_of course.infos messages)
  pub followed : commits ≡ length (commits_of course.infos messages)

-- `commits` counts the commits that the messages state, each of which could be sent; the newest message may be left out.
pub record HasFollowedOf (course : Course) (messages : List Message) (commits : ℕ) (h : Halt) : Type 0 where
  pub newest : List Message
  pub few : IsLeftOut h (length newest)
  pub earlier : List Message
  pub parted : messages ≡ newest ++ earlier
  pub accepted : AreWithoutFault course.infos course.after earlier
  pub sent : AllCouldBeSent course (commits_of course.infos earlier)
  pub followed : commits ≡ length (commits_of course.infos earlier)

-- ---- after which LSN

-- What a session captures, and after which LSN it reads: those of the offset that it found, or else of the first one that it stored.
abbrev pub BeginsAfter : Option Offset → Option Offset → List TableInfo → Lsn → Type 0
BeginsAfter (Some old) new infos after = (infos ≡ old.infos) × (after ≡ old.lsn)
BeginsAfter None (Some first) infos after = (infos ≡ first.infos) × (after ≡ first.start)
BeginsAfter None None infos after = ⊥

-- The session has stored an offset and read as many messages as it reports, newest first; the source's trace, if known, has their bytes.
pub record HasReadAfter (config : Config) (old new : Option Offset) (report : Report) (told : Option Trace) : Type 0 where
  pub stored : HasStored config old new
  pub infos : List TableInfo
  pub after : Lsn
  pub begins_after : BeginsAfter old new infos after
  pub read : List (List ℕ)
  pub many : length read ≡ report.messages
  pub tells : (t : Trace) → told ≡ Some t → t.read ≡ read

-- The parameters by which the session followed commits, with the stored offset's identity and tables.
abbrev pub course_after : {config : Config} {old new : Option Offset} {report : Report} {told : Option Trace} → ℤ
    → HasReadAfter config old new report told → Course
course_after now r = record { identity = r.stored.offset.identity; infos = r.infos; now = now; after = r.after }

-- The parameters of a session that reads after this LSN, with the stored offset's identity and tables.
abbrev pub course_at : {config : Config} {old new : Option Offset} → ℤ → Lsn → HasStored config old new → Course
course_at now after s = record { identity = s.offset.identity; infos = s.offset.infos; now = now; after = after }

-- The end in the log of the last of these commits, or `end` if there are none.
abbrev pub end_after : Lsn → List Commit → Lsn
end_after end [] = end
end_after end (commit ∷ more) = end_after commit.end_lsn more

-- The end in the log after which the session reads.
abbrev pub began_after : Option Offset → Offset → Lsn
began_after None new = new.start
began_after (Some old) new = old.end_lsn

-- ---- what its report says

-- The source's trace, if known, has so many messages.
abbrev pub TellsSoMany : ℕ → Option Trace → Type 0
TellsSoMany messages told = (t : Trace) → told ≡ Some t → length t.read ≡ messages

-- The source's trace, if known, has as many messages as are reported; or reading hasn't begun, and it is unchanged.
abbrev pub HasReadMessages : Result Ending Halt → ℕ → Option Trace → Option Trace → Type 0
HasReadMessages result messages old new = TellsSoMany messages new ⊎ ((messages ≡ 0) × IsErr result × IsTakenBy [] old new)

-- At a normal end, the messages that were read are valid, the commits that they state could be sent and are counted, and the stored offset
-- is at the last of them.
pub record StoodAtLast (config : Config) (now : ℤ) (old new : Option Offset) (report : Report) (told : Option Trace) : Type 0 where
  pub read : HasReadAfter config old new report told
  pub messages : List Message
  pub spelled : AreSpelled read.read messages
  pub accepted : AreWithoutFault read.infos read.after messages
  pub sent : AllCouldBeSent (course_after now read) (commits_of read.infos messages)
  pub lsn : read.stored.offset.lsn ≡ last_lsn read.after messages
  pub end_lsn : read.stored.offset.end_lsn ≡ end_after (began_after old read.stored.offset) (commits_of read.infos messages)
  pub followed : report.commits ≡ length (commits_of read.infos messages)

-- At a stop, the report counts the commits that the messages read state, by the source's trace, or nothing was read.
abbrev pub IsFollowed : Config → ℤ → Option Offset → Option Offset → Report → Option Trace → Halt → Type 0
IsFollowed config now old new report told h =
    ((report.messages ≡ 0) × (report.commits ≡ 0) × IsLeftOut h 0)
    ⊎ ((r : HasReadAfter config old new report told) × HasFollowed (course_after now r) r.read report.commits h)

-- ---- by the source's state

-- At a normal end, by the source's state, the messages that were read are valid and counted, and the stored offset is at the last commit
-- that they state, which is confirmed.
pub record HasSettled (config : Config) (now : ℤ) (old new : Option Offset) (report : Report) (t : SourceState) : Type 0 where
  pub stored : HasStored config old new
  pub upto : stored.offset.lsn.0 ≤ t.confirmed.0
  pub reading : Reading
  pub reading_is : t.reading ≡ Some reading
  pub begins_after : BeginsAfter old new stored.offset.infos reading.after
  pub many : length reading.messages ≡ report.messages
  pub accepted : AreWithoutFault stored.offset.infos reading.after reading.messages
  pub sent : AllCouldBeSent (course_at now reading.after stored) (commits_of stored.offset.infos reading.messages)
  pub last : stored.offset.lsn ≡ last_lsn reading.after reading.messages
  pub end_lsn : stored.offset.end_lsn ≡ end_after (began_after old stored.offset) (commits_of stored.offset.infos reading.messages)
  pub followed : report.commits ≡ length (commits_of stored.offset.infos reading.messages)

-- At a stop, the report counts the messages that were read and the commits that they state, by the source's state.
pub record HasReadSo (config : Config) (now : ℤ) (old new : Option Offset) (report : Report) (t : SourceState) (h : Halt) : Type 0 where
  pub stored : HasStored config old new
  pub reading : Reading
  pub reading_is : t.reading ≡ Some reading
  pub begins_after : BeginsAfter old new stored.offset.infos reading.after
  pub many : length reading.messages ≡ report.messages
  pub so_far : HasFollowedOf (course_at now reading.after stored) reading.messages report.commits h

-- At a stop, nothing was read, or the report counts what was read, by the source's state.
abbrev pub HasStoodAfter : Config → ℤ → Option Offset → Option Offset → Report → SourceState → SourceState → Halt → Type 0
HasStoodAfter config now old new report s t h =
    ((report.messages ≡ 0) × (report.commits ≡ 0) × IsLeftOut h 0 × ((t.reading ≡ s.reading) ⊎ IfSome t.reading (λ r. r.messages ≡ [])))
    ⊎ HasReadSo config now old new report t h

-- ---- from call to call

-- These messages were read since reading began after this LSN, by the source's trace; all were taken, and their commits followed and
-- counted.
pub record HasTakenMessages (after end : Lsn) (old new : Option Trace) (report : Report) (work : SessionState) : Type 0 where
  pub read : List (List ℕ)
  pub messages : List Message
  pub many : length read ≡ report.messages
  pub taken : IsTakenBy read old new
  pub spelled : AreSpelled read messages
  pub is : IsWork after messages work
  pub end_is : work.offset.end_lsn ≡ end_after end (commits_of work.offset.infos messages)
  pub followed : report.commits ≡ length (commits_of work.offset.infos messages)

-- At a stop, the report counts what was read and followed, by the source's trace.
pub record HasStopped (course : Course) (old new : Option Trace) (report : Report) (h : Halt) : Type 0 where
  pub read : List (List ℕ)
  pub many : length read ≡ report.messages
  pub taken : IsTakenBy read old new
  pub so_far : HasFollowed course read report.commits h

-- These messages were read since reading began after this LSN, by the state of any source, conforming or not.
pub record StandsAfter (after end : Lsn) (report : Report) (work : SessionState) (t : SourceState) : Type 0 where
  pub messages : List Message
  pub is : IsWork after messages work
  pub reading_is : t.reading ≡ Some (record { after = after; messages = messages })
  pub many : length messages ≡ report.messages
  pub end_is : work.offset.end_lsn ≡ end_after end (commits_of work.offset.infos messages)
  pub followed : report.commits ≡ length (commits_of work.offset.infos messages)

-- At a stop, the report counts what was read and followed, by the source's state.
pub record HasStood (course : Course) (report : Report) (t : SourceState) (h : Halt) : Type 0 where
  pub messages : List Message
  pub reading_is : t.reading ≡ Some (record { after = course.after; messages = messages })
  pub many : length messages ≡ report.messages
  pub so_far : HasFollowedOf course messages report.commits h

-- The offset is the first one at another position of the log.
abbrev pub IsPlacedOf : Offset → Offset → Type 0
IsPlacedOf first later = later ≡ record first { lsn = later.lsn; end_lsn = later.end_lsn }

-- The parameters of a session that begins with this offset.
abbrev pub course_from : Offset → ℤ → Course
course_from first now = record { identity = first.identity; infos = first.infos; now = now; after = first.lsn }
