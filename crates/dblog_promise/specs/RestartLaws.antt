-- Theorems on sessions that follow sessions and crashes.
use Rattle.std.specs.Prelude.{◌≡◌, ◌≢◌, ℕ, ℤ, ◌+◌, ◌<◌, ◌≤◌, ◌^◌, Option, Some, List, [], length, filter, nat_le, slice_get}
use Rattle.dbl_record.specs.declared.record.Record.{Record}
use Rattle.dbl_record.specs.Cuts.{joined}
use Rattle.dbl_model_table.specs.declared.config.Config.{Config}
use Rattle.dbl_model_table.specs.declared.change.Commit.{Commit}
use Rattle.dbl_model_history.specs.History.{RawCommit, History}
use Rattle.dbl_model_history.specs.History.RawBody.{Mark}
use Rattle.dbl_model_history.specs.Fit.{IsFitHistory}
use Rattle.dbl_model_history.specs.MarkTexts.{Side, mark_text}
use Rattle.dbl_source.specs.SourceModel.Growth.{Grows}
use Rattle.dbl_source.specs.SourceModel.Standings.{CrashState}
use Rattle.dbl_capture_laws.specs.Offset.declared.offset.Offset.{Offset}
use Rattle.dbl_capture_laws.specs.Follow.Followed.{Following}
use Rattle.dbl_capture_laws.specs.Follow.Steps.{Steps, mark_of, records_by}
use Rattle.dbl_capture_laws.specs.Faithful.Stores.{top_position, lag}
use Rattle.dbl_capture_laws.specs.CaptureModel.Entries.{SessionStart, WasFaithful, HadOwnTables, StoodInLog, WasKept}
use Rattle.dbl_capture_laws.specs.CaptureModel.Stages.{Stage, read_at, next_offset}
use Rattle.dbl_capture_laws.specs.CaptureModel.Marked.{IsOwnWindow}
use Rattle.dbl_capture_laws.specs.CaptureModel.Going.{IsGoing}
use Rattle.dbl_capture_laws.specs.CaptureModel.Outcomes.{FollowsSession, IsComplete}
use Rattle.dblog_promise.specs.Runs.{IsAsked, BeginsSession, raised, Run}
use Rattle.dblog_promise.specs.Stops.{Stops, Completes}
use Rattle.dblog_promise.specs.Restarts.{FoundStores, restart_at, IsRight, ByRules, ByPromise, After, IsUnused}
use Rattle.dblog_promise.specs.Outcomes.{IsCountedByLag, WentOn}

-- ---- one session

-- If the stores of a valid history were faithful, the session found what the guarantees on its answers require: the captured tables are
-- those of the catalogue, the offset is in the source's log, and the source has its log from there on.
abbrev pub FaithfulEntriesAreKnown : Type 0
FaithfulEntriesAreKnown = (entry : SessionStart) → IsFitHistory entry.history → WasFaithful entry
    → HadOwnTables entry × StoodInLog entry × WasKept entry

-- A session may begin with each stored offset whose incarnation can still be raised, whether or not others have committed since.
abbrev pub StoredOffsetsBeginAgain : Type 0
StoredOffsetsBeginAgain = (entry : SessionStart) (history : History) (old : Offset)
    → Grows entry.history history → IsFitHistory history → entry.offset ≡ Some old → old.incarnation + 1 < 2 ^ 64
    → BeginsSession entry history (raised old)

-- A session that begins with faithful stores keeps its invariant at each of its stages.
abbrev pub RunsKeepGoing : Type 0
RunsKeepGoing = (entry : SessionStart) (stage : Stage)
    → IsAsked entry.config entry.now → IsFitHistory entry.history → WasFaithful entry → Run entry stage → IsGoing entry stage

-- At any point where a session stops, it leaves a valid history and faithful stores that extend those it found.
abbrev pub StopsFollow : Type 0
StopsFollow = (entry : SessionStart) (left : CrashState) (groups : List (List Record)) (offset : Option Offset)
    → IsAsked entry.config entry.now → IsFitHistory entry.history → WasFaithful entry → Stops entry left groups offset
    → FollowsSession entry left groups offset × IsFitHistory left.history

-- Each appended record whose position isn't above those of the topic log at entry belongs to a commit that the lag counts.
abbrev pub RepeatsAreCounted : Type 0
RepeatsAreCounted = (entry : SessionStart) (left : CrashState) (groups : List (List Record)) (offset : Option Offset) (old : Offset)
    (follows : FollowsSession entry left groups offset) (place : ℕ) (item : Record)
    → IsFitHistory left.history → WasFaithful entry → entry.offset ≡ Some old
    → slice_get follows.adds.more place ≡ Some item → item.position ≤ top_position (joined entry.groups)
    → IsCountedByLag entry.history (joined entry.groups) old item.position

-- The commits that a session has read whose positions aren't above those of the topic log at entry.
abbrev pub read_again : SessionStart → Stage → List Commit
read_again entry stage = filter (λ commit. nat_le commit.lsn.0 (top_position (joined entry.groups))) (read_at stage)

-- A session reads no more commits for a second time than the lag counts.
abbrev pub FewCommitsAreReadAgain : Type 0
FewCommitsAreReadAgain = (entry : SessionStart) (stage : Stage)
    → IsAsked entry.config entry.now → IsFitHistory entry.history → WasFaithful entry → Run entry stage
    → length (read_again entry stage) ≤ lag entry.history (joined entry.groups) entry.offset

-- ---- old watermarks

-- No watermark that exists when a session begins has the text of one of its own.
abbrev pub OldMarksAreOthers : Type 0
OldMarksAreOthers = (entry : SessionStart) (history : History) (first : Offset) (place number : ℕ) (side : Side) (commit : RawCommit)
    → WasFaithful entry → BeginsSession entry history first → number < 2 ^ 64 → slice_get history.commits place ≡ Some commit
    → commit.body ≢ Mark (mark_text first.incarnation number side)

-- No watermark that exists when a session begins opens or closes one of its windows, or makes a record.
abbrev pub OldMarksDoNothing : Type 0
OldMarksDoNothing = (entry : SessionStart) (history : History) (first : Offset) (place number : ℕ) (raw : RawCommit) (value : List ℕ)
    (old new : Following) (commit : Commit)
    → WasFaithful entry → BeginsSession entry history first → number < 2 ^ 64
    → slice_get history.commits place ≡ Some raw → raw.body ≡ Mark value → mark_of commit ≡ Some value
    → IsOwnWindow first.incarnation number old.window → Steps old commit new
    → (new ≡ old) × (records_by old commit entry.now ≡ [])

-- ---- any number of sessions and crashes

-- Any number of sessions that follow the rules keep the session's guarantees.
abbrev pub RulesKeepPromises : Type 0
RulesKeepPromises = (first last : FoundStores) (sessions : List Config)
    → After ByRules first sessions last → After ByPromise first sessions last

-- Sessions that keep the guarantees leave faithful stores, at any point where they stop.
abbrev pub RestartsStayFaithful : Type 0
RestartsStayFaithful = (first last : FoundStores) (sessions : List Config)
    → IsRight first → After ByPromise first sessions last → IsRight last

-- Sessions that keep the guarantees only extend the stores.
abbrev pub RestartsGoOn : Type 0
RestartsGoOn = (first last : FoundStores) (sessions : List Config)
    → IsRight first → After ByPromise first sessions last → WentOn sessions first last

-- After any sessions that followed the rules, and stopped anywhere, stores that were unused at first are faithful.
abbrev pub FirstSessionsAreFaithful : Type 0
FirstSessionsAreFaithful = (first last : FoundStores) (sessions : List Config)
    → IsUnused first → After ByRules first sessions last → IsRight last

-- A session that completes leaves the source's tables, after any sessions that stopped anywhere.
abbrev pub CompletedRestartsAreImages : Type 0
CompletedRestartsAreImages = (first last : FoundStores) (sessions : List Config) (config : Config) (now : ℤ) (stage : Stage)
    (left : CrashState)
    → IsRight first → After ByPromise first sessions last → IsAsked config now → Completes (restart_at config now last) stage left
    → IsComplete (restart_at config now last) left stage.groups (next_offset stage)
