-- The cause of an error is in the source's history, if the source is conforming and the stores were faithful.
use Rattle.std.specs.Prelude.{◌≡◌, ◌≢◌, map, None, Some, Option, Ok, List, [], ◌∷◌, ◌++◌}
use Rattle.dbl_pgmsg.specs.declared.messages.Message.{Message}
use Rattle.dbl_record.specs.Cuts.{cut, joined}
use Rattle.dbl_model_table.specs.declared.change.Change.{Change}
use Rattle.dbl_model_table.specs.declared.change.Commit.{Commit}
use Rattle.dbl_model_table.specs.declared.config.Config.{Config}
use Rattle.dbl_model_table.specs.declared.table.TableInfo.{TableInfo}
use Rattle.dbl_capture_work.specs.ModelHistory.Fit.{AreInfosOf, IsFitHistory}
use Rattle.dbl_capture_work.specs.ModelHistory.History.{History}
use Rattle.dbl_base.specs.declared.lsn.Lsn.{Lsn}
use Rattle.dbl_capture_work.specs.ModelCommit.Stated.{ended_commit, stated, transaction_fault}
use Rattle.dbl_capture_work.specs.ModelEvent.Clashes.{clash_of}
use Rattle.dbl_capture_work.specs.ModelEvent.EventJson.{envelopes}
use Rattle.dbl_capture_work.specs.SourceModel.Calls.{Moved}
use Rattle.dbl_capture_work.specs.SourceModel.Standings.{Reading, SourceState}
use Rattle.dbl_capture_work.specs.Offset.declared.offset.Offset.{Offset}
use Rattle.dbl_capture_work.specs.Follow.Steps.{clash_by, records_by}
use Rattle.dbl_capture_work.specs.CaptureModel.Entries.{SessionStart, WasFaithful}
use Rattle.dbl_capture_work.specs.CaptureModel.Stages.{Stage}
use Rattle.dbl_capture_work.specs.CaptureModel.Going.{IsGoing}
use Rattle.dbl_capture_work.specs.CaptureModel.Steps.{ReadsOneMore}
use Rattle.dbl_capture_work.specs.declared.halt.Halt.{Halt}
use Rattle.dbl_capture_work.specs.declared.halt.Halt.TheVariants as halt
use Rattle.dbl_capture_work.specs.declared.report.Report.{Report}
use Rattle.dbl_capture_work.specs.declared.work.SessionState.{SessionState}
use Rattle.dbl_capture_work.specs.Begins.{IsFirstOffsetAtHead, IsTooLong}
use Rattle.dbl_capture_work.specs.Causes.{IsLongRecord}
use Rattle.dbl_capture_work.specs.Takes.{IsClashIn, IsLongSoFar}
use Rattle.dbl_capture_work.specs.Works.{HasOpen, next_offset_of, open_commit, rest_in}
use Rattle.dbl_capture_laws.specs.Found.{BeginsAt}
use Rattle.dbl_capture_laws.specs.Sessions.{IsWorkOf, state_at_stage}
use Rattle.dbl_capture_laws.specs.Carried.{Beginning, IsResting}
use Rattle.dbl_capture_laws.specs.Nevers.{IsFirstLong, IsOwnClash, IsOwnLong, IsOwnOffset}

-- The next message is valid and ends this commit, and the messages with it state the history's commits.
pub record EndsNext (stage : Stage) (m : Message) (commit : Commit) : Type 0 where
  pub clean : transaction_fault stage.first.infos stage.first.lsn m stage.messages ≡ None
  pub ends : ended_commit stage.first.infos m stage.messages ≡ Some commit
  pub right : ReadsOneMore stage m

-- The next message is valid and states changes, with which this is the open transaction so far; and the messages with it state the
-- history's commits.
pub record StatesNext (stage : Stage) (m : Message) (changes : List Change) (so_far : Commit) : Type 0 where
  pub clean : transaction_fault stage.first.infos stage.first.lsn m stage.messages ≡ None
  pub states : stated stage.first.infos m stage.messages ≡ Ok changes
  pub some : changes ≢ []
  pub commit_is : so_far ≡ open_commit stage.first.infos (m ∷ stage.messages)
  pub right : ReadsOneMore stage m

-- The messages that were read, and this one.
abbrev pub read_with : Stage → Message → Reading
read_with stage m = record { after = stage.first.lsn; messages = m ∷ stage.messages }

-- A session in progress over faithful stores: its state and its report agree with its stage.
pub record IsOverFaithful (entry : SessionStart) (stage : Stage) (b : Beginning) (ms : List Message) (stored : Option Offset)
    (work : SessionState) (report : Report) : Type 0 where
  pub faithful : WasFaithful entry
  pub going : IsGoing entry stage
  pub work_is : IsWorkOf entry stage work
  pub rests : IsResting b ms stored work report

-- The error is neither a value equal to the placeholder, nor a record or an offset that is too long.
abbrev pub IsContentFree : Halt → Type 0
IsContentFree (halt.Clash table column) = ⊥
IsContentFree (halt.RecordTooLong len) = ⊥
IsContentFree (halt.OffsetTooLong len) = ⊥
IsContentFree h = Unit {0}

-- A first offset of the configured tables, as the catalogue has them, with nothing read.
pub record IsFirstByCatalogue (config : Config) (history : History) (offset : Offset) : Type 0 where
  pub infos : List TableInfo
  pub names : map (λ info. info.name) infos ≡ config.tables
  pub described : AreInfosOf history infos
  pub head : Lsn
  pub first : IsFirstOffsetAtHead config infos head offset

-- If the error is an offset that is too long, it is the first one, by the catalogue.
abbrev pub IsLongBy : Config → History → Halt → Type 0
IsLongBy config history (halt.OffsetTooLong len) = IsFirstLong config history (halt.OffsetTooLong len)
IsLongBy config history h = Unit {0}

-- ---- theorems

-- A value equal to the placeholder in the next commit's records is in the history: in that commit, or in the window that it closes.
abbrev pub ClashesAreOwn : Type 0
ClashesAreOwn = (entry : SessionStart) (stage : Stage) (b : Beginning) (ms : List Message) (stored : Option Offset) (work : SessionState)
    (report : Report) (m : Message) (commit : Commit) (later : Report) (h : Halt)
    → IsOverFaithful entry stage b ms stored work report → EndsNext stage m commit → later.chunks ≡ report.chunks
    → IsClashIn (clash_by work.follower commit) h
    → (offset : Offset) × (stored ≡ Some offset) × IsOwnClash entry offset later stage.history (read_with stage m) h

-- A value equal to the placeholder in the changes of the open transaction is in the history: in the commit that it begins.
abbrev pub OpenClashesAreOwn : Type 0
OpenClashesAreOwn = (entry : SessionStart) (stage : Stage) (b : Beginning) (ms : List Message) (stored : Option Offset)
    (work : SessionState) (report : Report) (m : Message) (changes : List Change) (so_far : Commit) (later : Report) (h : Halt)
    → IsOverFaithful entry stage b ms stored work report → StatesNext stage m changes so_far
    → IsClashIn (clash_of stage.first.identity stage.first.infos so_far) h
    → (offset : Offset) × (stored ≡ Some offset) × IsOwnClash entry offset later stage.history (read_with stage m) h

-- A record of the open transaction that is too long comes from the history: from the commit that it begins.
abbrev pub OpenLongRecordsAreOwn : Type 0
OpenLongRecordsAreOwn = (entry : SessionStart) (stage : Stage) (b : Beginning) (ms : List Message) (stored : Option Offset)
    (work : SessionState) (report : Report) (m : Message) (changes : List Change) (so_far : Commit) (later : Report) (h : Halt)
    → IsOverFaithful entry stage b ms stored work report → StatesNext stage m changes so_far
    → IsLongSoFar (envelopes stage.first.identity stage.first.infos so_far entry.now) h
    → (offset : Offset) × (stored ≡ Some offset) × IsOwnLong entry offset later stage.history (read_with stage m) h

-- A record of the next commit that is too long comes from the history: from that commit, or from the window that it closes.
abbrev pub LongRecordsAreOwn : Type 0
LongRecordsAreOwn = (entry : SessionStart) (stage : Stage) (b : Beginning) (ms : List Message) (stored : Option Offset)
    (work : SessionState) (report : Report) (m : Message) (commit : Commit) (later : Report) (h : Halt)
    → IsOverFaithful entry stage b ms stored work report → EndsNext stage m commit → later.chunks ≡ report.chunks
    → IsLongRecord (records_by work.follower commit work.now_ms) h
    → (offset : Offset) × (stored ≡ Some offset) × IsOwnLong entry offset later stage.history (read_with stage m) h

-- A next offset that is too long agrees with the stores, also within a transaction.
abbrev pub LongOffsetsAreOwn : Type 0
LongOffsetsAreOwn = (entry : SessionStart) (stage : Stage) (work : SessionState) (ahead : HasOpen stage.messages work) (h : Halt)
    → WasFaithful entry → IsGoing entry stage → IsWorkOf entry stage (rest_in ahead) → IsTooLong (next_offset_of work) h
    → IsOwnOffset entry (state_at_stage stage) (joined (stage.groups ++ cut ahead.put)) h

-- A first offset that is too long agrees with the stores.
abbrev pub FirstLongOffsetsAreOwn : Type 0
FirstLongOffsetsAreOwn = (entry : SessionStart) (s t : SourceState) (first : Offset) (h : Halt)
    → WasFaithful entry → s.history ≡ entry.history → s.confirmed ≡ entry.confirmed
    → IsFitHistory entry.history → IsFitHistory t.history → BeginsAt entry first s t → IsTooLong first h
    → IsOwnOffset entry t (joined entry.groups) h

-- A new connector's first offset that is too long follows from the catalogue, since no table is altered.
abbrev pub FirstOffsetsAreLong : Type 0
FirstOffsetsAreLong = (config : Config) (s t : SourceState) (first : Offset) (h : Halt)
    → Moved s t → IsFirstByCatalogue config t.history first → IsTooLong first h
    → IsFirstLong config s.history h
