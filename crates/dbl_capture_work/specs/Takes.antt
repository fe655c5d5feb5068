-- How a message and a commit change the state of a session.
use Rattle.std.specs.Prelude.{◌≡◌, ◌≢◌, ◌⊎◌, ℕ, ◌+◌, ◌-◌, ◌<◌, Bool, true, false, if◌then◌else◌, is_ok, is_some, All, Option, Some, None, IfSome}
use Rattle.std.specs.Prelude.{IsSome, Result, Ok, Err, IfErr, IfOk, IsErr, OnErr, OnOk, List, [], ◌∷◌, ◌++◌, drop, length, slice_get, take}
use Rattle.dbl_base.specs.declared.lsn.Lsn.{Lsn}
use Rattle.dbl_pgmsg.specs.declared.messages.Message.{Message}
use Rattle.dbl_pgmsg.specs.declared.error.MsgError.{MsgError}
use Rattle.dbl_pgmsg.specs.Faults.{IsFault}
use Rattle.dbl_pgmsg.specs.Grammar.{Spells}
use Rattle.dbl_record.specs.declared.record.Record.{Record}
use Rattle.dbl_record.specs.Cuts.{cut}
use Rattle.dbl_record.specs.Groups.{group_form}
use Rattle.dbl_topic.specs.Model.{SinkModel}
use Rattle.dbl_topic.specs.Sinks.{group_limit}
use Rattle.dbl_model_table.specs.declared.change.Change.{Change}
use Rattle.dbl_model_table.specs.declared.change.Commit.{Commit}
use Rattle.dbl_model_table.specs.declared.change.Ended.{Ended}
use Rattle.dbl_model_table.specs.declared.table.TableInfo.{TableInfo}
use Rattle.dbl_model_table.specs.Rows.{changes_of}
use Rattle.dbl_model_history.specs.FitsInfos.{FitsInfos}
use Rattle.dbl_model_commit.specs.declared.txn_error.TxnError.{TxnError}
use Rattle.dbl_model_commit.specs.declared.piece.Piece.{Piece}
use Rattle.dbl_model_commit.specs.declared.piece.Piece.TheVariants.{Nothing, Changed, Ended as EndedPiece}
use Rattle.dbl_model_commit.specs.Past.{begin_of}
use Rattle.dbl_model_commit.specs.Pieces.{IsPieceOf, changes_so_far, ended_by}
use Rattle.dbl_model_commit.specs.Stated.{ended_commit, stated, transaction_fault}
use Rattle.dbl_txn.specs.Stands.{StandsInPieces}
use Rattle.dbl_envelope.specs.ModelEvent.Clashes.{Clash, clash_of}
use Rattle.dbl_envelope.specs.ModelEvent.EventJson.{envelopes}
use Rattle.dbl_envelope.specs.ModelEvent.SnapshotLists.{IsSnapshot}
use Rattle.dbl_follow.specs.Followed.{Following}
use Rattle.dbl_window.specs.Plans.{Chunk}
use Rattle.dbl_follow.specs.Steps.{Steps, mark_of, clash_by, closed_of, closing, records_by}
use Rattle.dbl_capture_work.specs.declared.halt.Halt.{Halt}
use Rattle.dbl_capture_work.specs.declared.halt.Halt.TheVariants as halt
use Rattle.dbl_capture_work.specs.declared.report.Report.{Report}
use Rattle.dbl_capture_work.specs.declared.work.SessionState.{SessionState}
use Rattle.dbl_capture_work.specs.Causes.{HasPutBefore, IsLongRecord}
use Rattle.dbl_capture_work.specs.Groups.{AreShort, HoldsPut, WasTorn, WerePut, report_with}
use Rattle.dbl_capture_work.specs.Works.{HasOpen, IsAmidWork}

-- ---- a message

-- The bytes encode a message that is valid after the others; the assembler has taken it, and `commit` is the commit that it ends.
pub record WasTaken (after : Lsn) (ms : List Message) (bytes : List ℕ) (old new : SessionState) (commit : Option Commit) : Type 0 where
  pub message : Message
  pub spells : Spells bytes message
  pub clean : transaction_fault old.offset.infos after message ms ≡ None
  pub commit_is : commit ≡ ended_commit old.offset.infos message ms
  pub stands : StandsInPieces old.offset.infos after (message ∷ ms) new.assembler
  pub same : new ≡ record old { assembler = new.assembler }
  pub fits : IfSome commit (λ c. All (FitsInfos old.offset.infos) (changes_of c))

-- The changes of a piece match the captured tables.
abbrev pub FitsPiece : List TableInfo → Piece → Type 0
FitsPiece infos Nothing = Unit {0}
FitsPiece infos (Changed changes) = All (FitsInfos infos) changes
FitsPiece infos (EndedPiece ended) = Unit {0}

-- The message was taken, and this is its piece of the open transaction: the changes that it states, or the end of the commit.
pub record HasTakenPiece (after : Lsn) (ms : List Message) (bytes : List ℕ) (old new : SessionState) (piece : Piece) : Type 0 where
  pub taken : WasTaken after ms bytes old new (ended_by (changes_so_far old.offset.infos ms) piece)
  pub is : IsPieceOf old.offset.infos taken.message ms piece
  pub fits_piece : FitsPiece old.offset.infos piece

-- The newest message states these changes of the open transaction, and the assembler has taken it.
pub record IsStated (after : Lsn) (m : Message) (ms : List Message) (changes : List Change) (work : SessionState) : Type 0 where
  pub stands : StandsInPieces work.offset.infos after (m ∷ ms) work.assembler
  pub states : stated work.offset.infos m ms ≡ Ok changes
  pub some : changes ≢ []
  pub clean : transaction_fault work.offset.infos after m ms ≡ None

-- The newest message states these changes, which the session hasn't followed yet.
pub record StatesChanges (work : SessionState) (changes : List Change) : Type 0 where
  pub after : Lsn
  pub message : Message
  pub messages : List Message
  pub is : IsStated after message messages changes work
  pub ahead : HasOpen messages work
  pub infos : work.follower.infos ≡ work.offset.infos
  pub fits : All (FitsInfos work.offset.infos) changes

-- The newest message ends the open transaction, which the session has followed so far.
pub record EndsOpen (work : SessionState) (ended : Ended) : Type 0 where
  pub messages : List Message
  pub ahead : HasOpen messages work
  pub begun : begin_of messages ≡ Some ended.head
  -- A transaction with a watermark has no change.
  pub bare : IsSome ended.mark → changes_so_far work.offset.infos messages ≡ []

-- The bytes encode no message, and the error says why.
pub record IsMessageHalt (number : ℕ) (bytes : List ℕ) (h : Halt) : Type 0 where
  pub error : MsgError
  pub fault : IsFault bytes error
  pub is : h ≡ halt.Message number error

-- The bytes encode a message that is invalid after the others, and the error says why.
pub record IsTxnHalt (number : ℕ) (after : Lsn) (ms : List Message) (bytes : List ℕ) (work : SessionState) (h : Halt) : Type 0 where
  pub message : Message
  pub spells : Spells bytes message
  pub error : TxnError
  pub fault : transaction_fault work.offset.infos after message ms ≡ Some error
  pub is : h ≡ halt.Txn number error

-- ---- a commit

-- The records of the window that the commit closes, if any, are those of its snapshot.
abbrev pub HasSnapshotRecords : Commit → SessionState → Type 0
HasSnapshotRecords commit work = (chunk : Chunk) → closing work.follower.window (mark_of commit) ≡ Some chunk
    → IsSnapshot work.follower.identity work.follower.infos (closed_of chunk) commit work.now_ms
    (records_by work.follower commit work.now_ms)

-- The follower made this step, and the session's offset is at the commit.
pub record WasStepped (commit : Commit) (old new : SessionState) : Type 0 where
  pub steps : Steps old.follower commit new.follower
  pub no_clash : clash_by old.follower commit ≡ None
  pub listed : HasSnapshotRecords commit old
  pub same : new ≡ record old {
    offset = record old.offset { lsn = commit.lsn; end_lsn = commit.end_lsn };
    follower = new.follower;
    since = old.since + 1;
  }

-- The sink gained a prefix of the commit's records, none of which has a value equal to the placeholder.
pub record LeftStep (commit : Commit) (work : SessionState) (groups left : List (List Record)) : Type 0 where
  pub following : Following
  pub steps : Steps work.follower commit following
  pub no_clash : clash_by work.follower commit ≡ None
  pub listed : HasSnapshotRecords commit work
  pub cut_is : (n : ℕ) × (left ≡ groups ++ cut (take n (records_by work.follower commit work.now_ms)))

-- A step left the sink with those records of the commit that were appended before, or with a prefix of the commit's records.
abbrev pub IsLeftByStep : Commit → SessionState → List Record → List (List Record) → List (List Record) → Type 0
IsLeftByStep commit work put groups left = (left ≡ groups ++ cut put) ⊎ LeftStep commit work groups left

-- Whether the commit closes a window.
abbrev pub closes : SessionState → Commit → Bool
closes work commit = is_some (closing work.follower.window (mark_of commit))

-- The error names this value equal to the placeholder.
abbrev pub IsClashIn : Option Clash → Halt → Type 0
IsClashIn None h = ⊥
IsClashIn (Some clash) h = h ≡ halt.Clash clash.table clash.column

-- ---- reports

-- A step adds to a report those of these records that were appended, and the commit if all of them were.
pub record ReportsStep (snapshot : Bool) (records : List Record) (before after : Report) (done : Bool) : Type 0 where
  pub put : Report
  pub records_are : WerePut snapshot records before put
  pub all : done ≡ true → put ≡ report_with snapshot records before
  pub is : after ≡ record put { commits = put.commits + (if done then 1 else 0) }

-- ---- changes of the open transaction

-- The records of the open transaction so far that are known not to be its last one, which is held back.
abbrev pub open_released : SessionState → Commit → List Record
open_released work commit = take (length (envelopes work.follower.identity work.follower.infos commit work.now_ms) - 1)
    (envelopes work.follower.identity work.follower.infos commit work.now_ms)

-- A report counts nothing but records more.
abbrev pub CountsOnlyRecords : Report → Report → Type 0
CountsOnlyRecords before after = after ≡ record before { records = after.records }

-- The session has followed one message more of the open transaction, which is now this commit so far: the sink has gained all records of it
-- that were released but those of the batch that is gathered.
pub record GoesOnOpen {K : Type 0} (sink_model : SinkModel K) (ms : List Message) (start : Following) (put : List Record)
    (new_work : SessionState) (sink new_sink : K) (report new_report : Report) : Type 0 where
  pub more : List Record
  pub is : IsAmidWork ms start (put ++ more) new_work
  pub held : (groups : List (List Record)) → sink_model.holds sink (groups ++ cut put)
      → sink_model.holds new_sink (groups ++ cut (put ++ more))
  pub counted : new_report ≡ report_with false more report

-- The sink gained a prefix of the open transaction's records, none of which has a value equal to the placeholder, and which isn't all of
-- them.
pub record LeftOpen (commit : Commit) (work : SessionState) (groups left : List (List Record)) : Type 0 where
  pub no_clash : clash_of work.follower.identity work.follower.infos commit ≡ None
  pub count : ℕ
  pub few : (count ≡ 0) ⊎ (count < length (envelopes work.follower.identity work.follower.infos commit work.now_ms))
  pub is : left ≡ groups ++ cut (take count (envelopes work.follower.identity work.follower.infos commit work.now_ms))

-- One of the open transaction's records so far is too long, and the record after the next one is known, so that it was appended alone.
pub record IsLongSoFar (records : List Record) (h : Halt) : Type 0 where
  pub long : IsLongRecord records h
  pub known : long.place + 2 < length records

-- The effect of a message that states changes: `commit` is the open transaction with them, as far as it is known, and `put` are those of
-- its records that were appended before.
pub record DeliversOpen {K T : Type 0} (sink_model : SinkModel K) (commit : Commit) (ms : List Message) (start : Following)
    (put : List Record) (work new_work : SessionState) (sink new_sink : K) (report new_report : Report) (result : Result T Halt)
    : Type 0 where
  pub next : OnOk result (GoesOnOpen sink_model ms start put new_work sink new_sink report new_report)
  pub left : (groups left : List (List Record)) → sink_model.holds sink (groups ++ cut put) → sink_model.may_leave new_sink left
      → (left ≡ groups ++ cut put) ⊎ LeftOpen commit work groups left
  pub some : (groups : List (List Record)) → sink_model.holds sink groups → (left : List (List Record)) × sink_model.may_leave new_sink left
  -- After an error the sink has, and the report counts, a prefix of the records after those that were appended before.
  pub kept : (groups : List (List Record)) → sink_model.holds sink (groups ++ cut put) → OnErr result (result ≢ Err halt.Sink
      → HoldsPut sink_model.holds groups false put (drop (length put) (open_released work commit)) report new_report new_sink)
  pub torn : (groups : List (List Record)) → sink_model.holds sink (groups ++ cut put) → result ≡ Err halt.Sink
      → WasTorn sink_model groups false put (drop (length put) (open_released work commit)) report new_report new_sink
  pub causes : IfErr result (λ h. (h ≡ halt.Memory) ⊎ ((h ≡ halt.Sink)
      ⊎ (IsClashIn (clash_of work.follower.identity work.follower.infos commit) h
      ⊎ ((clash_of work.follower.identity work.follower.infos commit ≡ None)
      × IsLongSoFar (envelopes work.follower.identity work.follower.infos commit work.now_ms) h))))
  pub clash : clash_of work.follower.identity work.follower.infos commit ≢ None → IsErr result
  pub no_clash : result ≡ Err halt.Sink → clash_of work.follower.identity work.follower.infos commit ≡ None
  -- If an append failed, the records that were appended before come first among those that are released.
  pub released : result ≡ Err halt.Sink → put ++ drop (length put) (open_released work commit) ≡ open_released work commit
  pub long : (place : ℕ) (item : Record)
      → slice_get (envelopes work.follower.identity work.follower.infos commit work.now_ms) place ≡ Some item
      → place + 2 < length (envelopes work.follower.identity work.follower.infos commit work.now_ms)
      → group_limit < length (group_form (item ∷ [])) → IsErr result

-- ---- the end of the open transaction

-- The effect of the message that ends the commit on a session that was `work` before the commit's first change: `put` are those of its
-- records that were appended before.
pub record DeliversCommit {K : Type 0} (sink_model : SinkModel K) (commit : Commit) (put : List Record) (work new_work : SessionState)
    (sink new_sink : K) (report new_report : Report) (result : Result Bool Halt) : Type 0 where
  pub put_all : (groups : List (List Record)) → sink_model.holds sink (groups ++ cut put)
      → OnOk result (sink_model.holds new_sink (groups ++ cut (records_by work.follower commit work.now_ms)))
  pub left : (groups left : List (List Record)) → sink_model.holds sink (groups ++ cut put) → sink_model.may_leave new_sink left
      → IsLeftByStep commit work put groups left
  pub some : (groups : List (List Record)) → sink_model.holds sink groups → (left : List (List Record)) × sink_model.may_leave new_sink left
  -- After an error other than the sink's, the sink has exactly the prefix of the records that the report counts.
  pub kept : (groups : List (List Record)) → sink_model.holds sink (groups ++ cut put) → OnErr result (result ≢ Err halt.Sink
      → HoldsPut sink_model.holds groups (is_some (mark_of commit)) put (drop (length put) (records_by work.follower commit work.now_ms))
      report new_report new_sink)
  -- After the sink's own error the report counts a prefix, and at most the next batch is torn.
  pub torn : (groups : List (List Record)) → sink_model.holds sink (groups ++ cut put) → result ≡ Err halt.Sink
      → WasTorn sink_model groups (is_some (mark_of commit)) put (drop (length put) (records_by work.follower commit work.now_ms))
      report new_report new_sink
  -- If a record is too long, those before it were appended, and are counted.
  pub before : (groups : List (List Record)) → sink_model.holds sink (groups ++ cut put) → (len : ℕ) → result ≡ Err (halt.RecordTooLong len)
      → HasPutBefore sink_model.holds groups (is_some (mark_of commit)) put
      (drop (length put) (records_by work.follower commit work.now_ms)) report new_report new_sink (halt.RecordTooLong len)
  pub stepped : OnOk result (WasStepped commit work new_work)
  pub closed : IfOk result (λ closed. closed ≡ closes work commit)
  pub noted : ReportsStep (is_some (mark_of commit)) (drop (length put) (records_by work.follower commit work.now_ms)) report new_report
      (is_ok result)
  pub counts : OnErr result (new_report.chunks ≡ report.chunks)
  pub causes : IfErr result (λ h. (h ≡ halt.Memory) ⊎ ((h ≡ halt.Sink) ⊎ (IsClashIn (clash_by work.follower commit) h
      ⊎ ((clash_by work.follower commit ≡ None) × IsLongRecord (records_by work.follower commit work.now_ms) h))))
  -- The changes were found to have no value equal to the placeholder, so that only a window's rows can have one.
  pub marked : (c : Clash) → clash_by work.follower commit ≡ Some c → IsSome (mark_of commit)
  pub clash : clash_by work.follower commit ≢ None → IsErr result
  pub no_clash : result ≡ Err halt.Sink → clash_by work.follower commit ≡ None
  pub listed : result ≡ Err halt.Sink → HasSnapshotRecords commit work
  pub long : OnOk result (AreShort (records_by work.follower commit work.now_ms))
