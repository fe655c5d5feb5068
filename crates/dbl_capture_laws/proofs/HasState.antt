-- The cause of a session's halt, at each of its calls, by the messages after which its source stands.
use Rattle.std.proofs.Common.{◌≡◌, ◌∙◌, ◌⊎◌, inl, inr, ◌+◌, ℕ, ℤ, Option, Some, None, List, ◌∷◌, refl, sym, ap, subst}
use Rattle.std.specs.Prelude.{Contains}
use Rattle.dbl_base.specs.declared.lsn.Lsn.{Lsn}
use Rattle.dbl_pgmsg.specs.declared.messages.Message.{Message}
use Rattle.dbl_pgmsg.specs.Grammar.{Spells}
use Rattle.dbl_capture_work.specs.Source.Model.{SourceModel}
use Rattle.dbl_model_table.specs.declared.change.Change.{Change}
use Rattle.dbl_model_table.specs.declared.change.Commit.{Commit}
use Rattle.dbl_model_table.specs.declared.config.Config.{Config}
use Rattle.dbl_model_table.specs.declared.table.RawTable.{RawTable}
use Rattle.dbl_model_table.specs.declared.table.TableName.{TableName}
use Rattle.dbl_capture_work.specs.ModelCommit.declared.piece.Piece.TheVariants.{Changed}
use Rattle.dbl_capture_work.specs.SourceModel.Calls.{HasReadOneMore}
use Rattle.dbl_capture_work.specs.SourceModel.Standings.{Reading, SourceState, HasState}
use Rattle.dbl_capture_work.specs.SourceModel.Trace.{Trace}
use Rattle.dbl_capture_work.proofs.FaithfulItems.{first_some}
use Rattle.dbl_capture_work.specs.Offset.declared.offset.Offset.{Offset}
use Rattle.dbl_capture_work.specs.Offset.Offsets.{IsOffset}
use Rattle.dbl_capture_work.specs.SourceLog.declared.error.SourceError.{SourceError}
use Rattle.dbl_capture_work.specs.SourceLog.declared.error.SourceError.TheVariants as source
use Rattle.dbl_capture_work.specs.Window.declared.error.WindowError.{WindowError}
use Rattle.dbl_capture_work.specs.Window.declared.error.WindowError.TheVariants as window
use Rattle.dbl_capture_work.specs.Follow.Followed.{awaited}
use Rattle.dbl_capture_work.specs.Follow.Steps.{clash_by, records_by}
use Rattle.dbl_capture_work.specs.declared.halt.Halt.{Halt}
use Rattle.dbl_capture_work.specs.declared.halt.Halt.TheVariants as halt
use Rattle.dbl_capture_work.specs.declared.report.Report.{Report}
use Rattle.dbl_capture_work.specs.declared.work.SessionState.{SessionState}
use Rattle.dbl_capture_work.specs.Begins.{IsExhausted, IsFaultOf, IsGoneFrom, IsModelFault, IsOffsetFor, IsTooLong}
use Rattle.dbl_capture_work.specs.Causes.{IsChunkHalt, IsLongRecord, IsOfRows}
use Rattle.dbl_capture_work.specs.Halts.{source_halt, window_halt}
use Rattle.dbl_capture_work.specs.Takes.{HasTakenPiece, IsClashIn, IsMessageHalt, IsTxnHalt, WasTaken}
use Rattle.dbl_capture_work.specs.Works.{next_offset_of, rest_in, resting}
use Rattle.dbl_capture_laws.specs.Halted.{IsHaltOfStood}
use Rattle.dbl_capture_laws.specs.Underway.{IsBeginHalt, IsBetweenMessages, IsNewestHalt}
use Rattle.dbl_capture_laws.specs.Carried.{Beginning, IsReadUpTo, IsResting, StandsAt}
use Rattle.dbl_capture_laws.specs.Sources.{HasCommitted, IsUnderWay}
use Rattle.dbl_capture_laws.proofs.Causes.{missed, sources_stood_at_halts, sources_stood_at_offsets}
use Rattle.dbl_capture_laws.proofs.Ended.{stands_since}
use Rattle.dbl_capture_laws.proofs.Halting.{was_stood}
use Rattle.dbl_capture_laws.proofs.Honest.{spelled_bytes_never_halt}
use Rattle.dbl_capture_laws.proofs.Ahead.{rest_next, rest_taken}
use Rattle.dbl_capture_laws.proofs.Opened.{awaited_open}
use Rattle.dbl_capture_laws.proofs.OpenCommits.{IsOpenCause, open_newest, rest_halt, rest_piece}
use Rattle.dbl_capture_laws.specs.HasState.{IsHaltStanding, IsNotOffsetTooLong, IsShortOr}

-- ---- halts that aren't told by messages

module _ (config : Config) (now : ℤ) (held stored : Option Offset) (report : Report) (stands : SourceState → Type 0) where
  abbrev Causes : Halt → Type 0
  Causes h = IsHaltStanding config now held stored report stands h

  -- by what it represents
  pub stands_so : (t : SourceState) → stands t → (h : Halt) → IsHaltOfStood config now held stored report t h → Causes h
  stands_so t is (halt.Message number error) cause = cause
  stands_so t is (halt.Txn number error) cause = (t, is, cause)
  stands_so t is (halt.Clash table column) cause = (t, is, cause)
  stands_so t is (halt.RecordTooLong len) cause = (t, is, cause)
  stands_so t is (halt.WatermarkMissing value at) cause = (t, is, cause)
  stands_so t is (halt.OffsetTooLong len) cause = (t, is, cause)
  stands_so t is h cause = tt

  pub memory_stood : (h : Halt) → h ≡ halt.Memory → Causes h
  memory_stood h is = subst Causes (sym is) tt

  pub source_stood : (e : SourceError) → Causes (source_halt e)
  source_stood source.Failed = tt
  source_stood source.Memory = tt

  window_stood : (name : TableName) (e : WindowError) → Causes (window_halt name e)
  window_stood name (window.BadChunk row) = tt
  window_stood name (window.Moved version) = tt
  window_stood name (window.Cell column error) = tt
  window_stood name window.Failed = tt
  window_stood name window.Memory = tt

  pub chunk_stood : (work : SessionState) (table : ℕ) (told : Option Trace) (h : Halt) → IsChunkHalt work table told h → Causes h
  chunk_stood work table told h chunk = by chunk.cause
    where
      by : (h ≡ halt.Memory) ⊎ ((h ≡ halt.Source) ⊎ ((error : WindowError) × (h ≡ window_halt chunk.info.name error) × IsOfRows chunk.plan told error)) → Causes h
      by (inl memory) = memory_stood h memory
      by (inr (inl failed)) = subst Causes (sym failed) tt
      by (inr (inr rows)) = subst Causes (sym rows.1) (window_stood chunk.info.name rows.0)

  -- before it reads

  exhausted_stood : (old : Option Offset) (h : Halt) → IsExhausted old h → Causes h
  exhausted_stood None h is = absurd is
  exhausted_stood (Some old) h is = subst Causes (sym is.1) tt

  fault_stood : (name : TableName) (entry : Option RawTable) (h : Halt) → IsFaultOf name entry h → Causes h
  fault_stood name None h is = subst Causes (sym is) tt
  fault_stood name (Some raw) h is = subst Causes (sym is.2) tt

  long_stood : (offset : Offset) (h : Halt) → stored ≡ held → IsOffset offset → IsOffsetFor config held offset → IsTooLong offset h → IsShortOr stands h → Causes h
  long_stood offset h same asked for long (inl short) = absurd (subst IsNotOffsetTooLong long.is short)
  long_stood offset h same asked for long (inr standing) = subst Causes (sym long.is) (standing.0, standing.1, inl (same, (offset, asked, for, subst (IsTooLong offset) long.is long)))

  pub begin_stood : (told : Option Trace) (h : Halt) → stored ≡ held → IsBeginHalt config held told h → IsShortOr stands h → Causes h
  begin_stood told h same (inl memory) short = memory_stood h memory
  begin_stood told h same (inr (inl failed)) short = subst Causes (sym failed) tt
  begin_stood told h same (inr (inr (inl failed))) short = subst Causes (sym failed) tt
  begin_stood told h same (inr (inr (inr (inl exhausted)))) short = exhausted_stood held h exhausted
  begin_stood told h same (inr (inr (inr (inr (inl model))))) short = fault_stood model.1.0 model.1.2.entry h model.1.2.is
  begin_stood told h same (inr (inr (inr (inr (inr long))))) short = long_stood long.0 h same long.1 long.2 long.3 short

  pub start_stood : (after : Lsn) (h : Halt) → (h ≡ halt.Memory) ⊎ ((h ≡ halt.Source) ⊎ IsGoneFrom after h) → Causes h
  start_stood after h (inl memory) = memory_stood h memory
  start_stood after h (inr (inl failed)) = subst Causes (sym failed) tt
  start_stood after h (inr (inr gone)) = subst Causes (sym gone.is) tt

-- an offset that is too long is none that is being described

short_exhausted : (old : Option Offset) (h : Halt) → IsExhausted old h → IsNotOffsetTooLong h
short_exhausted None h is = absurd is
short_exhausted (Some old) h is = subst IsNotOffsetTooLong (sym is.1) tt

pub again_short : (old : Option Offset) (h : Halt) → (h ≡ halt.Memory) ⊎ IsExhausted old h → IsNotOffsetTooLong h
again_short old h (inl memory) = subst IsNotOffsetTooLong (sym memory) tt
again_short old h (inr exhausted) = short_exhausted old h exhausted

short_fault : (name : TableName) (entry : Option RawTable) (h : Halt) → IsFaultOf name entry h → IsNotOffsetTooLong h
short_fault name None h is = subst IsNotOffsetTooLong (sym is) tt
short_fault name (Some raw) h is = subst IsNotOffsetTooLong (sym is.2) tt

pub first_short : (tables : List TableName) (told : Option Trace) (h : Halt) → (h ≡ halt.Memory) ⊎ ((h ≡ halt.Source) ⊎ ((name : TableName) × Contains tables name × IsModelFault name told h)) → IsNotOffsetTooLong h
first_short tables told h (inl memory) = subst IsNotOffsetTooLong (sym memory) tt
first_short tables told h (inr (inl failed)) = subst IsNotOffsetTooLong (sym failed) tt
first_short tables told h (inr (inr model)) = short_fault model.0 model.2.entry h model.2.is

-- ---- by the messages

-- where such a source stood
abbrev stood_before : Beginning → List Message → SourceState → SourceState
stood_before b ms t = record { history = t.history; confirmed = t.confirmed; reading = Some (record { after = b.first.lsn; messages = ms }) }

module _ (b : Beginning) (ms : List Message) (stored : Option Offset) (work : SessionState) (t : SourceState) where
  between : (report : Report) (r : IsResting b ms stored work report) → IsBetweenMessages work r.is.offset report.chunks
  between report r = record { cursors = r.same; windows = r.is.windows }

  held_as : (report after : Report) (is : IsReadUpTo b ms stored work report) (h : Halt) → IsHaltOfStood b.config b.now b.held (Some is.offset) after t h → IsHaltOfStood b.config b.now b.held stored after t h
  held_as report after is h x = subst (λ (o : Option Offset). IsHaltOfStood b.config b.now b.held o after t h) (sym is.stored_is) x

  newest_stood : (before report : Report) (m : Message) (bytes : List ℕ) (h : Halt) → IsResting b ms stored work before → StandsAt b (m ∷ ms) t → Spells bytes m
      → report.messages ≡ before.messages + 1 → report.chunks ≡ before.chunks → IsNewestHalt report.messages b.first.lsn ms bytes work h → IsHaltOfStood b.config b.now b.held stored report t h
  newest_stood before report m bytes h r at spells counted windows cause =
      held_as before report r.is h
      (sources_stood_at_halts b.config b.now b.held b.first r.is.offset work before report (stood_before b ms t) t m bytes h r.is.of
      (subst (IsBetweenMessages work r.is.offset) (sym windows) (between before r)) (stands_since b ms stored work before (stood_before b ms t) r.is refl) r.is.so_far at counted spells cause)

  -- the newest message, which is invalid
  pub message_stood : (before : Report) (m : Message) (bytes : List ℕ) (h : Halt) → IsResting b ms stored work before → StandsAt b (m ∷ ms) t → Spells bytes m
      → (h ≡ halt.Memory) ⊎ (IsMessageHalt (before.messages + 1) bytes h ⊎ IsTxnHalt (before.messages + 1) b.first.lsn ms bytes work h)
      → IsHaltOfStood b.config b.now b.held stored (record before { messages = before.messages + 1 }) t h
  message_stood before m bytes h r at spells (inl memory) = subst (IsHaltOfStood b.config b.now b.held stored (record before { messages = before.messages + 1 }) t) (sym memory) tt
  message_stood before m bytes h r at spells (inr (inl message)) = absurd (spelled_bytes_never_halt (before.messages + 1) bytes m h spells message)
  message_stood before m bytes h r at spells (inr (inr txn)) =
      newest_stood before (record before { messages = before.messages + 1 }) m bytes h r at spells refl refl (inl txn)

  -- or the records of the commit that it ends
  pub commit_stood : (before report : Report) (m : Message) (bytes : List ℕ) (next : SessionState) (commit : Commit) (h : Halt) → IsResting b ms stored work before → StandsAt b (m ∷ ms) t → Spells bytes m
      → WasTaken b.first.lsn ms bytes work next (Some commit) → report.messages ≡ before.messages + 1 → report.chunks ≡ before.chunks
      → (h ≡ halt.Memory) ⊎ ((h ≡ halt.Sink) ⊎ (IsClashIn (clash_by next.follower commit) h ⊎ ((clash_by next.follower commit ≡ None) × IsLongRecord (records_by next.follower commit next.now_ms) h)))
      → IsHaltOfStood b.config b.now b.held stored report t h
  commit_stood before report m bytes next commit h r at spells w counted windows (inl memory) = subst (IsHaltOfStood b.config b.now b.held stored report t) (sym memory) tt
  commit_stood before report m bytes next commit h r at spells w counted windows (inr (inl failed)) = subst (IsHaltOfStood b.config b.now b.held stored report t) (sym failed) tt
  commit_stood before report m bytes next commit h r at spells w counted windows (inr (inr either)) =
      newest_stood before report m bytes h r at spells counted windows (inr (inr (next, commit, w, either)))

  -- or those of changes that it states
  pub part_stood : (before report : Report) (m : Message) (bytes : List ℕ) (next : SessionState) (changes : List Change) (h : Halt) → IsResting b ms stored work before → StandsAt b (m ∷ ms) t → Spells bytes m
      → (p : HasTakenPiece b.first.lsn ms bytes work next (Changed changes)) → report.messages ≡ before.messages + 1 → report.chunks ≡ before.chunks
      → (h ≡ halt.Memory) ⊎ ((h ≡ halt.Sink) ⊎ IsOpenCause next (p.taken.message ∷ ms) h)
      → IsHaltOfStood b.config b.now b.held stored report t h
  part_stood before report m bytes next changes h r at spells p counted windows (inl memory) = subst (IsHaltOfStood b.config b.now b.held stored report t) (sym memory) tt
  part_stood before report m bytes next changes h r at spells p counted windows (inr (inl failed)) = subst (IsHaltOfStood b.config b.now b.held stored report t) (sym failed) tt
  part_stood before report m bytes next changes h r at spells p counted windows (inr (inr either)) =
      newest_stood before report m bytes h r at spells counted windows (inr (inl (open_newest b.first.lsn ms bytes work next changes h p r.is.so_far either)))

  -- a watermark that it waits for
  pub missed_stood : (report : Report) (value : List ℕ) → IsResting b ms stored work report → StandsAt b ms t → awaited work.follower.window ≡ Some value
      → IsHaltOfStood b.config b.now b.held stored report t (halt.WatermarkMissing value work.offset.lsn)
  missed_stood report value r at waits =
      held_as report report r.is (halt.WatermarkMissing value work.offset.lsn)
      (record {
        reading = record { after = b.first.lsn; messages = ms };
        was = was_stood b.config b.now b.held b.first r.is.offset work r.is.of report t ms r.is.many at;
        by = missed b.config b.now b.held b.first r.is.offset work report r.is.of (between report r) ms r.is.is r.is.opened value work.follower.window r.is.is.own waits r.is.windows r.is.opened;
      })

  -- its next offset
  pub offset_stood : (report : Report) (h : Halt) → IsReadUpTo b ms stored work report → StandsAt b ms t → IsOffset (next_offset_of work) → (h ≡ halt.Memory) ⊎ ((h ≡ halt.Offsets) ⊎ IsTooLong (next_offset_of work) h)
      → IsHaltOfStood b.config b.now b.held stored report t h
  offset_stood report h is at asked (inl memory) = subst (IsHaltOfStood b.config b.now b.held stored report t) (sym memory) tt
  offset_stood report h is at asked (inr (inl failed)) = subst (IsHaltOfStood b.config b.now b.held stored report t) (sym failed) tt
  offset_stood report h is at asked (inr (inr long)) =
      held_as report report is h
      (sources_stood_at_offsets b.config b.now b.held b.first is.offset work report t h is.of (stands_since b ms stored work report t is at) is.moves asked long)

-- ---- at its calls

took_on : (b : Beginning) (ms : List Message) (m : Message) (s t : SourceState) → StandsAt b ms s → HasReadOneMore m s t → StandsAt b (m ∷ ms) t
took_on b ms m s t stands took =
    let same : took.before ≡ record { after = b.first.lsn; messages = ms } = first_some took.before (record { after = b.first.lsn; messages = ms }) (sym took.was ∙ stands) in
    took.is ∙ ap (λ (r : Reading). Some (record { after = r.after; messages = m ∷ r.messages })) same

module _ {S : Type 0} (source_model : SourceModel S) (at : Option SourceState) (found : Option Trace) (b : Beginning) (stored : Option Offset) (work : SessionState) (src src2 : S) where
  pub messages_stood : (before : Report) (bytes : List ℕ) (h : Halt) (u : IsUnderWay source_model at found b stored work before src)
      → ((s : SourceState) → source_model.stands src s → (m : Message) × Spells bytes m × HasState source_model.stands src2 (HasReadOneMore m s))
      → (h ≡ halt.Memory) ⊎ (IsMessageHalt (before.messages + 1) bytes h ⊎ IsTxnHalt (before.messages + 1) b.first.lsn u.messages bytes work h)
      → (s : SourceState) → at ≡ Some s → IsHaltStanding b.config b.now b.held stored (record before { messages = before.messages + 1 }) (source_model.stands src2) h
  messages_stood before bytes h u took cause s first =
      let was = u.stood s first in
      let read = took was.standing was.is in
      stands_so b.config b.now b.held stored (record before { messages = before.messages + 1 }) (source_model.stands src2) read.2.standing read.2.is h
      (message_stood b u.messages stored (rest_in u.ahead) read.2.standing before read.0 bytes h u.is (took_on b u.messages read.0 was.standing read.2.standing was.holds read.2.holds) read.1
      (rest_halt u.ahead.start b.first.lsn u.messages bytes (before.messages + 1) work h cause))

  pub commits_stood : (before report : Report) (bytes : List ℕ) (after : SessionState) (commit : Commit) (h : Halt) (u : IsUnderWay source_model at found b stored work before src)
      → ((s : SourceState) → source_model.stands src s → (m : Message) × Spells bytes m × HasState source_model.stands src2 (HasReadOneMore m s))
      → WasTaken b.first.lsn u.messages bytes work after (Some commit) → report.messages ≡ before.messages + 1 → report.chunks ≡ before.chunks
      → (h ≡ halt.Memory) ⊎ ((h ≡ halt.Sink) ⊎ (IsClashIn (clash_by u.ahead.start commit) h ⊎ ((clash_by u.ahead.start commit ≡ None) × IsLongRecord (records_by u.ahead.start commit after.now_ms) h)))
      → (s : SourceState) → at ≡ Some s → IsHaltStanding b.config b.now b.held stored report (source_model.stands src2) h
  commits_stood before report bytes after commit h u took w counted windows cause s first =
      let was = u.stood s first in
      let read = took was.standing was.is in
      stands_so b.config b.now b.held stored report (source_model.stands src2) read.2.standing read.2.is h
      (commit_stood b u.messages stored (rest_in u.ahead) read.2.standing before report read.0 bytes (resting u.ahead.start after) commit h u.is (took_on b u.messages read.0 was.standing read.2.standing was.holds read.2.holds) read.1
      (rest_taken b.first.lsn u.messages bytes work after (Some commit) u.ahead.start w) counted windows cause)

  pub parts_stood : (before report : Report) (bytes : List ℕ) (after : SessionState) (changes : List Change) (h : Halt) (u : IsUnderWay source_model at found b stored work before src)
      → ((s : SourceState) → source_model.stands src s → (m : Message) × Spells bytes m × HasState source_model.stands src2 (HasReadOneMore m s))
      → (p : HasTakenPiece b.first.lsn u.messages bytes work after (Changed changes)) → report.messages ≡ before.messages + 1 → report.chunks ≡ before.chunks
      → (h ≡ halt.Memory) ⊎ ((h ≡ halt.Sink) ⊎ IsOpenCause after (p.taken.message ∷ u.messages) h)
      → (s : SourceState) → at ≡ Some s → IsHaltStanding b.config b.now b.held stored report (source_model.stands src2) h
  parts_stood before report bytes after changes h u took p counted windows cause s first =
      let was = u.stood s first in
      let read = took was.standing was.is in
      stands_so b.config b.now b.held stored report (source_model.stands src2) read.2.standing read.2.is h
      (part_stood b u.messages stored (rest_in u.ahead) read.2.standing before report read.0 bytes (resting u.ahead.start after) changes h u.is (took_on b u.messages read.0 was.standing read.2.standing was.holds read.2.holds) read.1
      (rest_piece u.ahead.start b.first.lsn u.messages bytes work after (Changed changes) p) counted windows cause)

  pub marks_stood : (report : Report) (value : List ℕ) (u : IsUnderWay source_model at found b stored work report src) → awaited work.follower.window ≡ Some value
      → (s : SourceState) → at ≡ Some s → IsHaltStanding b.config b.now b.held stored report (source_model.stands src) (halt.WatermarkMissing value work.offset.lsn)
  marks_stood report value u waits s first =
      let was = u.stood s first in
      (was.standing, was.is, missed_stood b u.messages stored (rest_in u.ahead) was.standing report value u.is was.holds (sym (awaited_open u.ahead) ∙ waits))

  pub offsets_stood : (report : Report) (h : Halt) (u : HasCommitted source_model at found b stored work report src)
      → IsOffset (next_offset_of work) → (h ≡ halt.Memory) ⊎ ((h ≡ halt.Offsets) ⊎ IsTooLong (next_offset_of work) h)
      → (s : SourceState) → at ≡ Some s → IsHaltStanding b.config b.now b.held stored report (source_model.stands src) h
  offsets_stood report h u asked cause s first =
      let was = u.stood s first in
      stands_so b.config b.now b.held stored report (source_model.stands src) was.standing was.is h
      (offset_stood b u.messages stored (rest_in u.ahead) was.standing report h u.is was.holds (subst IsOffset (rest_next u.messages work u.ahead) asked) (subst (λ (o : Offset). (h ≡ halt.Memory) ⊎ ((h ≡ halt.Offsets) ⊎ IsTooLong o h)) (rest_next u.messages work u.ahead) cause))
