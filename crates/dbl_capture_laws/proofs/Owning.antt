-- Where a session over a conforming source and faithful stores stops with an error, that it is of the source's history: at each place where it may.
use Rattle.std.proofs.Common.{◌≡◌, ◌≢◌, ◌∙◌, ◌⊎◌, inl, inr, ℕ, ℤ, true, Option, Some, None, Ok, List, [], ◌∷◌, ◌++◌, map, refl, sym, ap, subst}
use Rattle.std.specs.Prelude.{Contains, IfSome}
use Rattle.dbl_base.specs.declared.lsn.Lsn.{Lsn}
use Rattle.dbl_pgmsg.specs.declared.messages.Message.{Message}
use Rattle.dbl_pgmsg.specs.Grammar.{Spells}
use Rattle.dbl_pgmsg.proofs.MessageLaws.{one_message}
use Rattle.dbl_record.specs.declared.record.Record.{Record}
use Rattle.dbl_record.specs.Cuts.{cut, joined}
use Rattle.dbl_topic.specs.Model.{SinkModel}
use Rattle.dbl_capture_work.specs.Source.Model.{SourceModel}
use Rattle.dbl_model_table.specs.declared.change.Change.{Change}
use Rattle.dbl_model_table.specs.declared.change.Commit.{Commit}
use Rattle.dbl_model_table.specs.declared.config.Config.{Config}
use Rattle.dbl_model_table.specs.declared.identity.Identity.{Identity}
use Rattle.dbl_model_table.specs.declared.table.RawTable.{RawTable}
use Rattle.dbl_model_table.specs.declared.table.TableInfo.{TableInfo}
use Rattle.dbl_model_table.specs.declared.table.TableName.{TableName}
use Rattle.dbl_capture_work.specs.Disk.Model.{DiskModel}
use Rattle.dbl_capture_work.specs.ModelHistory.Fit.{AreInfosOf, IsFitHistory}
use Rattle.dbl_capture_work.specs.ModelHistory.History.{History}
use Rattle.dbl_capture_work.specs.ModelCommit.Stated.{ended_commit, stated, transaction_fault}
use Rattle.dbl_capture_work.specs.ModelEvent.Clashes.{Clash, clash_of}
use Rattle.dbl_capture_work.specs.ModelEvent.EventJson.{envelopes}
use Rattle.dbl_capture_work.proofs.FaithfulFaithful.{described_infos}
use Rattle.dbl_capture_work.proofs.FaithfulItems.{first_some}
use Rattle.dbl_capture_work.specs.SourceModel.Calls.{Moved, HasReadOneMore}
use Rattle.dbl_capture_work.specs.SourceModel.Standings.{Reading, SourceState}
use Rattle.dbl_capture_work.specs.SourceModel.Stated.{IsReadPlainly}
use Rattle.dbl_capture_work.specs.SourceModel.Trace.{Trace}
use Rattle.dbl_capture_work.specs.Offset.declared.offset.Offset.{Offset}
use Rattle.dbl_capture_work.specs.OffsetStore.Stores.{StoreOn}
use Rattle.dbl_capture_work.specs.SourceLog.declared.error.SourceError.{SourceError}
use Rattle.dbl_capture_work.specs.SourceLog.declared.error.SourceError.TheVariants as source
use Rattle.dbl_capture_work.specs.Faithful.Faithful.{IsFaithful}
use Rattle.dbl_capture_work.specs.Window.declared.error.WindowError.{WindowError}
use Rattle.dbl_capture_work.specs.Window.declared.error.WindowError.TheVariants as window
use Rattle.dbl_capture_work.proofs.WindowHonestLemmas.{captured_stays}
use Rattle.dbl_capture_work.specs.Follow.Steps.{clash_by, records_by}
use Rattle.dbl_capture_work.specs.CaptureModel.Entries.{SessionStart, HadOwnTables, WasFaithful}
use Rattle.dbl_capture_work.specs.CaptureModel.Stages.{Stage}
use Rattle.dbl_capture_work.specs.CaptureModel.Steps.{ReadsOneMore}
use Rattle.dbl_capture_work.proofs.CaptureModelStepping.{others_keep_going}
use Rattle.dbl_capture_work.specs.declared.halt.Halt.{Halt}
use Rattle.dbl_capture_work.specs.declared.halt.Halt.TheVariants as halt
use Rattle.dbl_capture_work.specs.declared.report.Report.{Report}
use Rattle.dbl_capture_work.specs.declared.work.SessionState.{SessionState}
use Rattle.dbl_capture_work.specs.Begins.{IsExhausted, IsFaultOf, IsFirstOffsetAtHead, IsGoneFrom, IsModelFault, IsTooLong}
use Rattle.dbl_capture_work.specs.Causes.{IsChunkHalt, IsLongRecord}
use Rattle.dbl_capture_work.specs.Halts.{source_halt, window_halt}
use Rattle.dbl_capture_work.specs.Takes.{IsClashIn, IsLongSoFar, IsMessageHalt, IsTxnHalt, WasTaken}
use Rattle.dbl_capture_work.specs.Works.{HasOpen, next_offset_of, open_commit, rest_in}
use Rattle.dbl_capture_laws.specs.Found.{BeginsAt}
use Rattle.dbl_capture_laws.specs.Sessions.{InSession, state_at_stage}
use Rattle.dbl_capture_laws.specs.Carried.{Beginning, IsResting}
use Rattle.dbl_capture_laws.specs.Nevers.{IsFaithfulHalt, IsOwnOffset}
use Rattle.dbl_capture_laws.specs.Owned.{EndsNext, IsContentFree, IsFirstByCatalogue, IsLongBy, IsOverFaithful, StatesNext}
use Rattle.dbl_capture_laws.proofs.OpenCommits.{IsOpenCause}
use Rattle.dbl_capture_laws.proofs.Opened.{opens_agree}
use Rattle.dbl_capture_laws.proofs.Owned.{clashes_are_own, first_long_offsets_are_own, long_offsets_are_own, long_records_are_own, open_clashes_are_own, open_long_records_are_own}

-- ---- halts that aren't by content

pub source_free : (e : SourceError) → IsContentFree (source_halt e)
source_free source.Failed = tt
source_free source.Memory = tt

pub memory_free : (h : Halt) → h ≡ halt.Memory → IsContentFree h
memory_free h is = subst IsContentFree (sym is) tt

-- before it reads: of a stored offset, and of tables that are described
pub again_free : (old : Option Offset) (h : Halt) → (h ≡ halt.Memory) ⊎ IsExhausted old h → IsContentFree h
again_free old h (inl memory) = memory_free h memory
again_free None h (inr exhausted) = absurd exhausted
again_free (Some stored) h (inr exhausted) = subst IsContentFree (sym exhausted.1) tt

fault_free : (name : TableName) (raw : Option RawTable) (h : Halt) → IsFaultOf name raw h → IsContentFree h
fault_free name None h is = subst IsContentFree (sym is) tt
fault_free name (Some raw) h is = subst IsContentFree (sym is.2) tt

pub first_free : (names : List TableName) (told : Option Trace) (h : Halt) → (h ≡ halt.Memory) ⊎ ((h ≡ halt.Source) ⊎ ((name : TableName) × Contains names name × IsModelFault name told h)) → IsContentFree h
first_free names told h (inl memory) = memory_free h memory
first_free names told h (inr (inl failed)) = subst IsContentFree (sym failed) tt
first_free names told h (inr (inr model)) = fault_free model.0 model.2.entry h model.2.is

pub start_free : (after : Lsn) (h : Halt) → (h ≡ halt.Memory) ⊎ ((h ≡ halt.Source) ⊎ IsGoneFrom after h) → IsContentFree h
start_free after h (inl memory) = memory_free h memory
start_free after h (inr (inl failed)) = subst IsContentFree (sym failed) tt
start_free after h (inr (inr gone)) = subst IsContentFree (sym gone.is) tt

-- a window's
window_free : (table : TableName) (e : WindowError) → IsContentFree (window_halt table e)
window_free table (window.BadChunk row) = tt
window_free table (window.Moved version) = tt
window_free table (window.Cell column error) = tt
window_free table window.Failed = tt
window_free table window.Memory = tt

pub chunk_free : (work : SessionState) (table : ℕ) (told : Option Trace) (h : Halt) → IsChunkHalt work table told h → IsContentFree h
chunk_free work table told h chunk = elim chunk.cause [
  | inl memory ↦ memory_free h memory
  | inr (inl failed) ↦ subst IsContentFree (sym failed) tt
  | inr (inr rows) ↦ subst IsContentFree (sym rows.1) (window_free chunk.info.name rows.0)
]

-- the newest message's
pub taken_free : (number : ℕ) (after : Lsn) (ms : List Message) (bytes : List ℕ) (work : SessionState) (h : Halt) → (h ≡ halt.Memory) ⊎ (IsMessageHalt number bytes h ⊎ IsTxnHalt number after ms bytes work h) → IsContentFree h
taken_free number after ms bytes work h (inl memory) = memory_free h memory
taken_free number after ms bytes work h (inr (inl message)) = subst IsContentFree (sym message.is) tt
taken_free number after ms bytes work h (inr (inr txn)) = subst IsContentFree (sym txn.is) tt

module _ (entry : SessionStart) (stored : Option Offset) (report : Report) (stands : SourceState → Type 0) (holds : List (List Record) → Type 0) where
  abbrev Own : Halt → Type 0
  Own h = IsFaithfulHalt entry stored report stands holds h

  pub free_own : (h : Halt) → IsContentFree h → Own h
  free_own (halt.Clash table column) free = absurd free
  free_own (halt.RecordTooLong len) free = absurd free
  free_own (halt.OffsetTooLong len) free = absurd free
  free_own h free = tt

  -- ---- offsets

  long_own : (t : SourceState) (groups : List (List Record)) → stands t → holds groups → (offset : Offset) (h : Halt) → IsTooLong offset h → (IsTooLong offset h → IsOwnOffset entry t (joined groups) h) → Own h
  long_own t groups is held offset h long own =
      subst Own (sym long.is) (t, is, groups, held, subst (IsOwnOffset entry t (joined groups)) long.is (own long))

  -- a store that failed, or an offset that is too long
  stores_own : (offset : Offset) (h : Halt) → (IsTooLong offset h → Own h) → (h ≡ halt.Memory) ⊎ ((h ≡ halt.Offsets) ⊎ IsTooLong offset h) → Own h
  stores_own offset h own (inl memory) = subst Own (sym memory) tt
  stores_own offset h own (inr (inl failed)) = subst Own (sym failed) tt
  stores_own offset h own (inr (inr long)) = own long

  -- the first one
  pub first_own : (s t : SourceState) (first : Offset) (h : Halt) → WasFaithful entry → s.history ≡ entry.history → s.confirmed ≡ entry.confirmed → IsFitHistory entry.history → IsFitHistory t.history → BeginsAt entry first s t → stands t → holds entry.groups
      → (h ≡ halt.Memory) ⊎ ((h ≡ halt.Offsets) ⊎ IsTooLong first h) → Own h
  first_own s t first h faithful history_is confirmed_is fit_entry fit begins is held cause =
      stores_own first h (λ long. long_own t entry.groups is held first h long (first_long_offsets_are_own entry s t first h faithful history_is confirmed_is fit_entry fit begins)) cause

-- the next one
module _ {S K D : Type 0} {source_model : SourceModel S} {sink_model : SinkModel K} {model : DiskModel D} {entry : SessionStart} {work : SessionState} {src : S} {sink : K} {store : StoreOn D}
    (s : InSession true source_model sink_model model entry work src sink store) (faithful : WasFaithful entry) where
  pub store_own : (stored : Option Offset) (report : Report) (h : Halt) → (h ≡ halt.Memory) ⊎ ((h ≡ halt.Offsets) ⊎ IsTooLong (next_offset_of work) h) → IsFaithfulHalt entry stored report (source_model.stands src) (sink_model.holds sink) h
  store_own stored report h cause =
      stores_own entry stored report (source_model.stands src) (sink_model.holds sink) (next_offset_of work) h
      (λ long. long_own entry stored report (source_model.stands src) (sink_model.holds sink) (state_at_stage s.stage) (s.stage.groups ++ cut s.ahead.put) s.source_is (s.sink_is refl) (next_offset_of work) h long (long_offsets_are_own entry s.stage work s.ahead h faithful s.going s.work_is)) cause

  -- ---- the records of the newest message

  module _ (m : Message) (t : SourceState) (took : HasReadOneMore m (state_at_stage s.stage) t) (fit : IsFitHistory t.history) (right : (r : Reading) → t.reading ≡ Some r → IsReadPlainly t.history r)
      (bytes : List ℕ) (spells : Spells bytes m) (next : SessionState) (ended : Option Commit) (w : WasTaken s.stage.first.lsn s.stage.messages bytes work next ended) where
    abbrev stage : Stage
    stage = record s.stage { history = t.history }

    abbrev read_now : Reading
    read_now = record { after = s.stage.first.lsn; messages = m ∷ s.stage.messages }

    reading_is : t.reading ≡ Some read_now
    reading_is =
        took.is ∙ ap (λ (r : Reading). Some (record { after = r.after; messages = m ∷ r.messages }))
        (sym (first_some (record { after = s.stage.first.lsn; messages = s.stage.messages }) took.before took.was))

    infos_are : work.offset.infos ≡ s.stage.first.infos
    infos_are = ap (λ (o : Offset). o.infos) s.work_is.offset_is

    same : w.message ≡ m
    same = one_message bytes w.message m w.spells spells

    clean : transaction_fault s.stage.first.infos s.stage.first.lsn m s.stage.messages ≡ None
    clean = ap (λ (l : List TableInfo). transaction_fault l s.stage.first.lsn m s.stage.messages) (sym infos_are) ∙ (ap (λ (x : Message). transaction_fault work.offset.infos s.stage.first.lsn x s.stage.messages) (sym same) ∙ w.clean)

    right_now : ReadsOneMore stage m
    right_now = right read_now reading_is s.stage.first.infos (captured_stays s.stage.history t.history s.stage.first.infos took.grows.tables s.going.reading.infos)

    module _ (b : Beginning) (ms : List Message) (stored : Option Offset) (report later : Report) (ahead : HasOpen ms work) (rests : IsResting b ms stored (rest_in ahead) report) (src2 : S) (sink2 : K) (is : source_model.stands src2 t) where
      abbrev Here : Halt → Type 0
      Here h = IsFaithfulHalt entry stored later (source_model.stands src2) (sink_model.holds sink2) h

      over : IsOverFaithful entry stage b ms stored (rest_in s.ahead) report
      over = record {
        faithful = faithful;
        going = others_keep_going entry s.stage t.history took.grows fit s.going;
        work_is = record {
          is = s.work_is.is;
          offset_is = s.work_is.offset_is;
          follower_is = s.work_is.follower_is;
          now_is = s.work_is.now_is;
          chunk_is = s.work_is.chunk_is;
          every_is = s.work_is.every_is;
          since_is = s.work_is.since_is;
          number_is = s.work_is.number_is;
        };
        rests = opens_agree ahead s.ahead b ms stored report s.work_is.is.own rests;
      }

      -- those of the commit that it ends
      module _ (commit : Commit) (ends : ended ≡ Some commit) (chunks : later.chunks ≡ report.chunks) where
        ends_next : EndsNext stage m commit
        ends_next = record {
          clean = clean;
          ends = ap (λ (l : List TableInfo). ended_commit l m s.stage.messages) (sym infos_are) ∙ (ap (λ (x : Message). ended_commit work.offset.infos x s.stage.messages) (sym same) ∙ (sym w.commit_is ∙ ends));
          right = right_now;
        }

        clash_at : (x : Option Clash) (h : Halt) → IsClashIn x h → clash_by s.ahead.start commit ≡ x → Here h
        clash_at None h found same_clash = absurd found
        clash_at (Some c) h found same_clash =
            subst Here (sym found)
            (let own = clashes_are_own entry stage b ms stored (rest_in s.ahead) report m commit later (halt.Clash c.table c.column) over ends_next chunks (subst (λ (x : Option Clash). IsClashIn x (halt.Clash c.table c.column)) (sym same_clash) refl) in
            (t, is, read_now, reading_is, own.0, own.1, own.2))

        long_at : (h : Halt) → IsLongRecord (records_by s.ahead.start commit work.now_ms) h → Here h
        long_at h long =
            subst Here (sym long.is)
            (let own = long_records_are_own entry stage b ms stored (rest_in s.ahead) report m commit later _ over ends_next chunks (subst (IsLongRecord (records_by s.ahead.start commit work.now_ms)) long.is long) in
            (t, is, read_now, reading_is, own.0, own.1, own.2))

        pub follow_own : (h : Halt) → (h ≡ halt.Memory) ⊎ ((h ≡ halt.Sink) ⊎ (IsClashIn (clash_by s.ahead.start commit) h ⊎ ((clash_by s.ahead.start commit ≡ None) × IsLongRecord (records_by s.ahead.start commit next.now_ms) h))) → Here h
        follow_own h (inl memory) = subst Here (sym memory) tt
        follow_own h (inr (inl failed)) = subst Here (sym failed) tt
        follow_own h (inr (inr (inl clash))) = clash_at (clash_by s.ahead.start commit) h clash refl
        follow_own h (inr (inr (inr long))) = long_at h (subst (λ (x : SessionState). IsLongRecord (records_by s.ahead.start commit x.now_ms) h) w.same long.1)

      -- those of the changes that it states
      module _ (changes : List Change) (states : stated work.offset.infos w.message s.stage.messages ≡ Ok changes) (some : changes ≢ []) where
        abbrev so_far : Commit
        so_far = open_commit s.stage.first.infos (m ∷ s.stage.messages)

        states_next : StatesNext stage m changes so_far
        states_next = record {
          clean = clean;
          states = ap (λ (l : List TableInfo). stated l m s.stage.messages) (sym infos_are) ∙ (ap (λ (x : Message). stated work.offset.infos x s.stage.messages) (sym same) ∙ states);
          some = some;
          commit_is = refl;
          right = right_now;
        }

        abbrev CauseAt : Identity → List TableInfo → ℤ → Message → Halt → Type 0
        CauseAt identity infos now x h =
            IsClashIn (clash_of identity infos (open_commit infos (x ∷ s.stage.messages))) h
            ⊎ ((clash_of identity infos (open_commit infos (x ∷ s.stage.messages)) ≡ None) × IsLongSoFar (envelopes identity infos (open_commit infos (x ∷ s.stage.messages)) now) h)

        cause_here : (h : Halt) → IsOpenCause next (w.message ∷ s.stage.messages) h → CauseAt s.stage.first.identity s.stage.first.infos entry.now m h
        cause_here h cause =
            subst (λ (x : Message). CauseAt s.stage.first.identity s.stage.first.infos entry.now x h) same
            (subst (λ (now : ℤ). CauseAt s.stage.first.identity s.stage.first.infos now w.message h) s.work_is.now_is
            (subst (λ (o : Offset). CauseAt o.identity o.infos work.now_ms w.message h) s.work_is.offset_is
            (subst (λ (x : SessionState). IsOpenCause x (w.message ∷ s.stage.messages) h) w.same cause)))

        clash_so_far : (x : Option Clash) (h : Halt) → IsClashIn x h → clash_of s.stage.first.identity s.stage.first.infos so_far ≡ x → Here h
        clash_so_far None h found same_clash = absurd found
        clash_so_far (Some c) h found same_clash =
            subst Here (sym found)
            (let own = open_clashes_are_own entry stage b ms stored (rest_in s.ahead) report m changes so_far later (halt.Clash c.table c.column) over states_next (subst (λ (x : Option Clash). IsClashIn x (halt.Clash c.table c.column)) (sym same_clash) refl) in
            (t, is, read_now, reading_is, own.0, own.1, own.2))

        long_so_far : (h : Halt) → IsLongSoFar (envelopes s.stage.first.identity s.stage.first.infos so_far entry.now) h → Here h
        long_so_far h long =
            subst Here (sym long.long.is)
            (let own = open_long_records_are_own entry stage b ms stored (rest_in s.ahead) report m changes so_far later _ over states_next (subst (IsLongSoFar (envelopes s.stage.first.identity s.stage.first.infos so_far entry.now)) long.long.is long) in
            (t, is, read_now, reading_is, own.0, own.1, own.2))

        by_cause : (h : Halt) → CauseAt s.stage.first.identity s.stage.first.infos entry.now m h → Here h
        by_cause h (inl clash) = clash_so_far (clash_of s.stage.first.identity s.stage.first.infos so_far) h clash refl
        by_cause h (inr long) = long_so_far h long.1

        pub part_own : (h : Halt) → (h ≡ halt.Memory) ⊎ ((h ≡ halt.Sink) ⊎ IsOpenCause next (w.message ∷ s.stage.messages) h) → Here h
        part_own h (inl memory) = subst Here (sym memory) tt
        part_own h (inr (inl failed)) = subst Here (sym failed) tt
        part_own h (inr (inr cause)) = by_cause h (cause_here h cause)

-- ---- before the first store

-- what was described, and stored at the head
pub first_by_catalogue : (config : Config) (s t : SourceState) (infos : List TableInfo) (head : Lsn) (offset : Offset) → Moved s t → IsFirstOffsetAtHead config infos head offset → map (λ (info : TableInfo). info.name) infos ≡ config.tables → AreInfosOf t.history infos → IsFirstByCatalogue config s.history offset
first_by_catalogue config s t infos head offset moved is names described = record {
  infos = infos;
  names = names;
  described = captured_stays t.history s.history infos (sym moved.grows.tables) described;
  head = head;
  first = is;
}

module _ (config : Config) (history : History) where
  pub free_long : (h : Halt) → IsContentFree h → IsLongBy config history h
  free_long (halt.OffsetTooLong len) free = absurd free
  free_long h free = tt

  pub first_long : (offset : Offset) (h : Halt) → IsFirstByCatalogue config history offset → (h ≡ halt.Memory) ⊎ ((h ≡ halt.Offsets) ⊎ IsTooLong offset h) → IsLongBy config history h
  first_long offset h is (inl memory) = subst (IsLongBy config history) (sym memory) tt
  first_long offset h is (inr (inl failed)) = subst (IsLongBy config history) (sym failed) tt
  first_long offset h is (inr (inr long)) =
      subst (IsLongBy config history) (sym long.is) (record {
        infos = is.infos;
        names = is.names;
        described = is.described;
        offset = offset;
        first = subst (λ (x : Lsn). IsFirstOffsetAtHead config is.infos x offset) (sym is.first.start) is.first;
        long = subst (IsTooLong offset) long.is long;
      })

-- none is stored where one isn't
pub none_some : (offset : Offset) → None ≡ Some offset → ⊥
none_some offset is = cc

-- faithful stores have the tables of the source's catalogue, if no table is altered
had_so : (history : History) (confirmed : Lsn) (records : List Record) (offset : Option Offset) → IsFitHistory history → IsFaithful history confirmed records offset → IfSome offset (λ o. AreInfosOf history o.infos)
had_so history confirmed records None fit is = tt
had_so history confirmed records (Some offset) fit is = described_infos history confirmed records offset fit is.lags.offset_is

pub had_of : (entry : SessionStart) → IsFitHistory entry.history → WasFaithful entry → HadOwnTables entry
had_of entry fit faithful = had_so entry.history entry.confirmed (joined entry.groups) entry.offset fit faithful
