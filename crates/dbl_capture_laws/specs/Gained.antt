-- What the sink gains, and what a report counts of it.
use Rattle.std.specs.Prelude.{◌≡◌, ◌⊎◌, ℕ, ℤ, ◌+◌, ◌<◌, ◌≤◌, ◌^◌, ◌++◌, is_some, take}
use Rattle.std.specs.Prelude.{Option, Some, None, Result, Ok, Err, List, [], ◌∷◌, length}
use Rattle.std.specs.List.{AllByRecursion, AllZip}
use Rattle.dbl_base.specs.declared.lsn.Lsn.{Lsn}
use Rattle.dbl_pgmsg.specs.declared.messages.Message.{Message}
use Rattle.dbl_pgmsg.specs.Grammar.{FitsFields}
use Rattle.dbl_record.specs.declared.record.Record.{Record}
use Rattle.dbl_record.specs.Cuts.{cut, joined}
use Rattle.dbl_model_table.specs.declared.change.Body.TheVariants.{Mark}
use Rattle.dbl_model_table.specs.declared.change.Commit.{Commit}
use Rattle.dbl_model_table.specs.declared.config.Config.{Config}
use Rattle.dbl_model_table.specs.declared.identity.Identity.{Identity}
use Rattle.dbl_model_table.specs.declared.table.TableInfo.{TableInfo}
use Rattle.dbl_capture_work.specs.ModelHistory.MarkTexts.{mark_text}
use Rattle.dbl_capture_work.specs.ModelHistory.MarkTexts.Side.{High}
use Rattle.dbl_capture_work.specs.ModelHistory.Ranges.{IsCommitInRange, IsMomentInRange}
use Rattle.dbl_capture_work.specs.ModelCommit.Stated.{commits_of, ended_commit}
use Rattle.dbl_capture_work.specs.ModelEvent.declared.closed.Closed.{Closed}
use Rattle.dbl_capture_work.specs.ModelEvent.Clashes.{clash_of, snapshot_clash}
use Rattle.dbl_capture_work.specs.ModelEvent.EventJson.{envelopes}
use Rattle.dbl_capture_work.specs.ModelEvent.SnapshotLists.{IsSnapshot}
use Rattle.dbl_capture_work.specs.Follow.Steps.{clash_by, mark_of, records_by}
use Rattle.dbl_capture_work.specs.Offset.declared.offset.Offset.{Offset}
use Rattle.dbl_topic.specs.Sinks.{IsLeftByPut}
use Rattle.dbl_capture_work.specs.CaptureModel.Entries.{appends_after}
use Rattle.dbl_capture_work.specs.CaptureModel.Reports.{chunks_in, snapshot_row_count}
use Rattle.dbl_capture_work.specs.declared.halt.Halt.{Halt}
use Rattle.dbl_capture_work.specs.declared.halt.Halt.TheVariants as halt
use Rattle.dbl_capture_work.specs.declared.report.Report.{Report}
use Rattle.dbl_capture_work.specs.declared.work.SessionState.{SessionState}
use Rattle.dbl_capture_work.specs.Groups.{counted, report_with}
use Rattle.dbl_capture_work.specs.Takes.{HasSnapshotRecords}
use Rattle.dbl_capture_work.specs.Works.{IsWork}

-- ---- the records of commits

-- The parameters of a session's records: its identity, the captured tables, the time, the greatest number of rows of a window, and the
-- incarnation in the texts of its watermarks.
pub record Making : Type 0 where
  pub identity : Identity
  pub infos : List TableInfo
  pub now : ℤ
  pub chunk : ℕ
  pub incarnation : ℕ

-- The parameters of the records of a session with this offset, time and chunk size.
abbrev pub making_of : Offset → ℤ → ℕ → Making
making_of offset now
    chunk = record { identity = offset.identity; infos = offset.infos; now = now; chunk = chunk; incarnation = offset.incarnation }

-- The records are those of a window of at most `chunk` rows that the commit closes, without a value equal to the placeholder.
pub record ClosesWindow (by : Making) (commit : Commit) (records : List Record) : Type 0 where
  pub number : ℕ
  pub mark : commit.body ≡ Mark (mark_text by.incarnation number High)
  pub closed : Closed
  pub few : length closed.rows ≤ by.chunk
  pub clear : snapshot_clash by.identity by.infos closed ≡ None
  pub listed : IsSnapshot by.identity by.infos closed commit by.now records

-- The records are those of the commit's changes, without a value equal to the placeholder.
pub record TellsChanges (by : Making) (commit : Commit) (records : List Record) : Type 0 where
  pub clear : clash_of by.identity by.infos commit ≡ None
  pub are : records ≡ envelopes by.identity by.infos commit by.now

-- The records are those of the commit's changes, or of the window that it closes.
abbrev pub IsSentFor : Making → Commit → List Record → Type 0
IsSentFor by commit records = TellsChanges by commit records ⊎ ClosesWindow by commit records

-- The LSNs of the commits rise, from above this one.
abbrev pub AreRisingCommits : ℕ → List Commit → Type 0
AreRisingCommits low [] = Unit {0}
AreRisingCommits low (commit ∷ commits) = (low < commit.lsn.0) × AreRisingCommits commit.lsn.0 commits

-- The records are all those of these commits, in order, and the LSNs of the commits rise from above `low`.
pub record AreSent (by : Making) (low : ℕ) (commits : List Commit) (records : List Record) : Type 0 where
  pub parts : List (List Record)
  pub each : AllZip (IsSentFor by) commits parts
  pub whole : records ≡ joined parts
  pub rising : AreRisingCommits low commits

-- ---- what the sink gains

-- The sink gained a prefix of the records of such commits, in batches.
pub record GainsCut (by : Making) (low : ℕ) (groups left : List (List Record)) : Type 0 where
  pub commits : List Commit
  pub records : List Record
  pub sent : AreSent by low commits records
  pub count : ℕ
  pub is : left ≡ groups ++ cut (take count records)

-- The sink gained records of the tables that the stored offset captures, and nothing if none is stored.
abbrev pub Gains : Config → ℤ → Option Offset → Option Offset → List (List Record) → List (List Record) → Type 0
Gains config now old None groups left = left ≡ groups
Gains config now old (Some offset) groups left = GainsCut (making_of offset now config.chunk) (appends_after old (Some offset)) groups left

-- ---- what a report counts of it

-- A report counts the records of these groups, and the progress records and snapshot rows among them.
pub record AreCounted (more : List (List Record)) (report : Report) : Type 0 where
  pub records : report.records ≡ counted 0 (length (joined more))
  pub chunks : report.chunks ≡ counted 0 (chunks_in (joined more))
  pub rows : report.snapshot_rows ≡ counted 0 (snapshot_row_count (joined more))

-- The sink gained groups whose appends were acknowledged, and the report counts them.
pub record HasCountedGroups {K : Type 0} (holds : K → List (List Record) → Type 0) (groups : List (List Record)) (sink : K)
    (report : Report) : Type 0 where
  pub more : List (List Record)
  pub held : holds sink (groups ++ more)
  pub are : AreCounted more report

-- After a failed append, the report counts the groups that were acknowledged before it, and a prefix of the failed group may be left
-- besides.
pub record HasCountedBefore {K : Type 0} (may_leave : K → List (List Record) → Type 0) (groups : List (List Record)) (sink : K)
    (report : Report) : Type 0 where
  pub more : List (List Record)
  pub group : List Record
  pub left : (found : List (List Record)) → may_leave sink found → IsLeftByPut (groups ++ more) group found
  pub are : AreCounted more report

-- The report counts what the sink gained, up to a group whose append failed.
abbrev pub ReportsGroups : {A K : Type 0} → (K → List (List Record) → Type 0) → (K → List (List Record) → Type 0) → List (List Record)
    → Result A Halt → K → Report → Type 0
ReportsGroups holds may_leave groups (Ok answer) sink report = HasCountedGroups holds groups sink report
ReportsGroups holds may_leave groups (Err halt.Sink) sink report = HasCountedBefore may_leave groups sink report
ReportsGroups holds may_leave groups (Err h) sink report = HasCountedGroups holds groups sink report

-- ---- from call to call

-- The records are all those of the commits that were read and followed since reading began after this LSN.
pub record IsGained (after : Lsn) (ms : List Message) (work : SessionState) (records : List Record) : Type 0 where
  pub sent : AreSent (making_of work.offset work.now_ms work.chunk) after.0 (commits_of work.offset.infos ms) records
  pub within : AllByRecursion (λ item. item.position ≤ work.offset.lsn.0) records
  pub commits_within : AllByRecursion (λ commit. commit.lsn.0 ≤ work.offset.lsn.0) (commits_of work.offset.infos ms)
  pub order : after.0 ≤ work.offset.lsn.0

-- ---- theorems

-- The records of the commit that is followed next come after all others and begin a new batch, even if only a prefix of them is appended.
abbrev pub CommitsAreSent : Type 0
CommitsAreSent = (after : Lsn) (ms : List Message) (m : Message) (commit : Commit) (old : SessionState) (records : List Record)
    → IsWork after ms old → ended_commit old.offset.infos m ms ≡ Some commit → old.offset.lsn.0 < commit.lsn.0
    → clash_by old.follower commit ≡ None → HasSnapshotRecords commit old → IsGained after ms old records
    → AreSent (making_of old.offset old.now_ms old.chunk) after.0 (commits_of old.offset.infos (m ∷ ms))
    (records ++ records_by old.follower commit old.now_ms)
    × ((n : ℕ) → (groups : List (List Record)) → (groups ++ cut records) ++ cut (take n (records_by old.follower commit old.now_ms))
    ≡ groups ++ cut (take (length records + n) (records ++ records_by old.follower commit old.now_ms)))
    × AllByRecursion (λ item. item.position ≤ commit.lsn.0) (records ++ records_by old.follower commit old.now_ms)
    × AllByRecursion (λ other. other.lsn.0 ≤ commit.lsn.0) (commits_of old.offset.infos (m ∷ ms))

-- A session reads fewer messages than this.
abbrev pub read_limit : ℕ
read_limit = 2 ^ 30

-- A commit that messages state has its numbers and its texts in range, and fewer than 2^62 changes.
abbrev pub StatedCommitsAreInRange : Type 0
StatedCommitsAreInRange = (infos : List TableInfo) (m : Message) (ms : List Message) (commit : Commit)
    → AllByRecursion FitsFields (m ∷ ms) → length ms < read_limit → ended_commit infos m ms ≡ Some commit → IsCommitInRange commit

-- A report that counts a prefix of a commit's records counts what the sink gained by them, within 64 bits.
abbrev pub PutsAreCounted : Type 0
PutsAreCounted = (commit : Commit) (work : SessionState) (count : ℕ) (before report : Report) (more : List (List Record))
    → IsCommitInRange commit → IsMomentInRange work.now_ms → HasSnapshotRecords commit work → AreCounted more before
    → report.records ≡ (report_with (is_some (mark_of commit)) (take count (records_by work.follower commit work.now_ms)) before).records
    → report.chunks ≡ (report_with (is_some (mark_of commit)) (take count (records_by work.follower commit work.now_ms)) before).chunks
    → report.snapshot_rows
    ≡ (report_with (is_some (mark_of commit)) (take count (records_by work.follower commit work.now_ms)) before).snapshot_rows
    → AreCounted (more ++ cut (take count (records_by work.follower commit work.now_ms))) report
