-- What the report of a session says, in terms of the contents of the disks when it began and when it ended.
use Rattle.std.specs.Prelude.{◌≡◌, ◌&&◌, ℕ, ℤ, ◌<◌, ◌≤◌, nat_lt, nat_le, Option, Some, None, List, [], ◌∷◌, ◌++◌, length, filter, reverse}
use Rattle.std.specs.List.{AllByRecursion}
use Rattle.dbl_base.specs.declared.lsn.Lsn.{Lsn}
use Rattle.dbl_pgmsg.specs.declared.messages.Message.{Message}
use Rattle.dbl_pgmsg.specs.declared.messages.Message.TheVariants.{Commit}
use Rattle.dbl_record.specs.declared.record.Record.{Record}
use Rattle.dbl_model_table.specs.declared.config.Config.{Config}
use Rattle.dbl_model_commit.specs.Blocks.{AreWithoutFault}
use Rattle.dbl_model_commit.specs.Past.{last_lsn}
use Rattle.dbl_model_commit.specs.Stated.{commits_of}
use Rattle.dbl_model_history.specs.History.{History, RawBody, RawCommit}
use Rattle.dbl_model_history.specs.History.RawBody.{Changes, Mark, Alter}
use Rattle.dbl_source.specs.SourceModel.Stated.{commits_after}
use Rattle.dbl_capture_laws.specs.Offset.declared.offset.Offset.{Offset}
use Rattle.dbl_demo_laws.specs.DemoWal.Standings.{messages_sent}
use Rattle.dbl_demo_laws.specs.DemoWal.Wals.{Wal}
use Rattle.dbl_capture_laws.specs.CaptureWork.declared.report.Ending.{Ending}
use Rattle.dbl_capture_laws.specs.CaptureWork.declared.report.Ending.TheVariants.{Complete, Budget}
use Rattle.dbl_capture_laws.specs.CaptureWork.declared.report.Report.{Report}
use Rattle.dbl_capture_laws.specs.Found.{IsStoredBy}
use Rattle.dbl_capture_laws.specs.Gained.{AreCounted}
use Rattle.dbl_capture_laws.specs.Reported.{AllCouldBeSent, Course, began_after, end_after}
use Rattle.dblog_promise.specs.Contents.{Contents, confirmed_at, history_at}

-- The LSN after which the session read: the stored one, or in a first session the start of the offset that it stored.
abbrev pub read_after : Option Offset → Offset → Lsn
read_after None new = new.start
read_after (Some old) new = old.lsn

-- The commits of a history above one position, up to and including another.
abbrev pub commits_between : ℕ → ℕ → History → List RawCommit
commits_between from to history = filter (λ commit. nat_lt from commit.lsn.0 && nat_le commit.lsn.0 to) history.commits

-- The messages are the first of those that are sent after an LSN, and `upto` is the LSN of the last commit that they complete.
pub record IsSentUpto (wal : Wal) (after upto : Lsn) (ms : List Message) : Type 0 where
  pub rest : List Message
  pub front : messages_sent wal after ≡ ms ++ rest
  pub last : upto ≡ last_lsn after (reverse ms)

-- No transaction is open after these messages, which are listed newest first.
abbrev pub HasNoOpenTransaction : List Message → Type 0
HasNoOpenTransaction [] = Unit {0}
HasNoOpenTransaction (Commit flags lsn end_lsn time ∷ ms) = Unit {0}
HasNoOpenTransaction (m ∷ ms) = ⊥

-- The number of messages that were read: the budget, or for `Complete` fewer, ending outside a transaction.
abbrev pub CountsMessages : Ending → ℕ → List Message → ℕ → Type 0
CountsMessages Complete budget ms messages = (messages ≡ length ms) × (messages < budget) × HasNoOpenTransaction (reverse ms)
CountsMessages Budget budget ms messages = (messages ≡ length ms) × (messages ≡ budget)

-- The commit writes a watermark and nothing else.
abbrev pub IsWatermark : RawBody → Type 0
IsWatermark (Changes changes) = ⊥
IsWatermark (Mark value) = Unit {0}
IsWatermark (Alter name columns rows) = ⊥

-- The parameters from which the records of the commits are made.
abbrev pub course : Offset → ℤ → Lsn → Course
course offset now after = record { identity = offset.identity; infos = offset.infos; now = now; after = after }

-- The report of a session that has stored an offset. Its position is the offset's LSN, which is confirmed; it counts the commits from where
-- the session began to read up to there, the records that the topic log gained, and the progress records and snapshot rows among them.
pub record IsReportOf (config : Config) (now : ℤ) (old new : Contents) (ending : Ending) (report : Report) : Type 0 where
  pub offset : Offset
  pub stored : new.offset ≡ Some offset
  pub by : IsStoredBy config old.offset offset
  pub position : report.position ≡ offset.lsn.0
  pub confirmed : offset.lsn.0 ≤ (confirmed_at new).0
  pub sent_messages : List Message
  pub are_sent : IsSentUpto new.wal (read_after old.offset offset) offset.lsn sent_messages
  -- No message is invalid, and the records of each commit that the messages state could be sent.
  pub faultless : AreWithoutFault offset.infos (read_after old.offset offset) (reverse sent_messages)
  pub sendable : AllCouldBeSent (course offset now (read_after old.offset offset)) (commits_of offset.infos (reverse sent_messages))
  pub messages : CountsMessages ending config.messages sent_messages report.messages
  pub commits : report.commits ≡ length (commits_between (read_after old.offset offset).0 offset.lsn.0 (history_at new))
  -- The offset's end in the log is that of the last commit that the messages state, or where reading began if they state none.
  pub end_lsn : offset.end_lsn ≡ end_after (began_after old.offset offset) (commits_of offset.infos (reverse sent_messages))
  -- For `Complete` everything was read: the source's commits above the position are all watermarks.
  pub all_read : ending ≡ Complete → AllByRecursion (λ commit. IsWatermark commit.body) (commits_after offset.lsn (history_at new).commits)
  pub more : List (List Record)
  pub gained : new.groups ≡ old.groups ++ more
  -- The counts have 64 bits; the theorem SmallLogsAreCounted says when they are exact.
  pub counted : AreCounted more report
