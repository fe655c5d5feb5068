-- What was answered last requires no other error, at each of a session's calls.
use Rattle.std.proofs.Common.{◌≡◌, ◌∙◌, ◌⊎◌, inl, inr, ◌≤◌, ℕ, Option, Some, None, Result, Ok, Err, List, [], ◌∷◌, length, refl, sym, ap, subst}
use Rattle.std.specs.Prelude.{Contains, OnOk}
use Rattle.dbl_base.specs.declared.lsn.Lsn.{Lsn}
use Rattle.dbl_pgmsg.specs.declared.messages.Message.{Message}
use Rattle.dbl_model_table.specs.declared.config.Config.{Config}
use Rattle.dbl_model_table.specs.declared.table.RawTable.{RawTable}
use Rattle.dbl_model_table.specs.declared.table.TableName.{TableName}
use Rattle.dbl_capture_work.specs.SourceModel.declared.selected.Selected.{Selected}
use Rattle.dbl_capture_work.specs.SourceModel.declared.started.Started.TheVariants.{Gone}
use Rattle.dbl_capture_work.specs.SourceModel.Trace.{Trace, Began, Done, Head, IsTakenBy, Read, RowsSelected, LastAnswerIs}
use Rattle.dbl_capture_work.specs.Offset.declared.offset.Offset.{Offset}
use Rattle.dbl_capture_work.specs.Offset.Offsets.{IsOffset}
use Rattle.dbl_capture_work.specs.SourceLog.declared.error.SourceError.{SourceError}
use Rattle.dbl_capture_work.specs.SourceLog.declared.error.SourceError.TheVariants as source
use Rattle.dbl_capture_work.specs.Follow.declared.window.Window.TheVariants.{Absent}
use Rattle.dbl_capture_work.specs.declared.halt.Halt.{Halt}
use Rattle.dbl_capture_work.specs.declared.halt.Halt.TheVariants as halt
use Rattle.dbl_capture_work.specs.declared.report.Ending.{Ending}
use Rattle.dbl_capture_work.specs.declared.report.Report.{Report}
use Rattle.dbl_capture_work.specs.declared.work.SessionState.{SessionState}
use Rattle.dbl_capture_work.specs.Begins.{IsAgain, IsExhausted, IsFaultOf, IsGoneFrom, IsModelFault, IsOffsetFor, IsTooLong}
use Rattle.dbl_capture_work.specs.Causes.{IsChunkHalt}
use Rattle.dbl_capture_work.specs.Halts.{source_halt}
use Rattle.dbl_capture_work.specs.Works.{IsOpenTable, next_offset_of}
use Rattle.dbl_capture_laws.specs.Found.{HasStored}
use Rattle.dbl_capture_laws.specs.Reported.{AreSpelled}
use Rattle.dbl_capture_laws.specs.Musts.{MustHalt}
use Rattle.dbl_capture_laws.specs.Underway.{IsOpenHalt}
use Rattle.dbl_capture_laws.specs.Carried.{HasReadSinceStart, Beginning, IsReadUpTo, IsNewestCause, IsResting}
use Rattle.dbl_capture_laws.proofs.Reported.{read_is, taken_more}
use Rattle.dbl_capture_laws.specs.Caused.{AsksUnread, IsQuiet}
use Rattle.dbl_capture_laws.proofs.Answered.{failures_excuse, newest_bytes_ask, quiet_answers_ask_nothing, rows_ask, unread_answers_ask}
use Rattle.dbl_capture_laws.proofs.StepHalting.{between}
use Rattle.dbl_capture_laws.proofs.Telling.{again_begins, first_begins, store_begins, start_opens}

-- ---- what was answered last

done_rows : (rows : Selected) → Done ≡ RowsSelected rows → ⊥
done_rows rows is = cc

done_gone : (first : Lsn) → Done ≡ Began (Gone first) → ⊥
done_gone first is = cc

read_rows : (read : Option (List ℕ)) (rows : Selected) → Read read ≡ RowsSelected rows → ⊥
read_rows read rows is = cc

read_gone : (read : Option (List ℕ)) (first : Lsn) → Read read ≡ Began (Gone first) → ⊥
read_gone read first is = cc

-- a watermark or a confirm
pub done_quiet : (told : Option Trace) → LastAnswerIs told Done → IsQuiet told
done_quiet told done t is = (λ rows answer. done_rows rows (sym (done t is) ∙ answer), λ first answer. done_gone first (sym (done t is) ∙ answer))

-- what was read
pub read_quiet : (told : Option Trace) (read : Option (List ℕ)) → LastAnswerIs told (Read read) → IsQuiet told
read_quiet told read done t is = (λ rows answer. read_rows read rows (sym (done t is) ∙ answer), λ first answer. read_gone read first (sym (done t is) ∙ answer))

-- ---- results

pub ok_done : {T : Type 0} (r : Result T Halt) (told : Option Trace) → OnOk r (LastAnswerIs told Done) → OnOk r (IsQuiet told)
ok_done (Ok x) told done = done_quiet told done
ok_done (Err h) told done = tt

pub ok_pair : {T : Type 0} (r : Result T Halt) (A B : Type 0) → OnOk r A → OnOk r B → OnOk r (A × B)
ok_pair (Ok x) A B a b = (a, b)
ok_pair (Err h) A B a b = tt

-- ---- what was told spells messages

told_as : (found old new : Option Trace) (ms : List Message) (t : Trace) → HasReadSinceStart found old ms → IsTakenBy [] old new → new ≡ Some t → AreSpelled t.read ms
told_as found old new ms t a none is =
    subst (λ (l : List (List ℕ)). AreSpelled l ms) (sym (read_is a.read found a.begun new t is a.begun_unread (taken_more [] a.read a.begun old new a.taken none a.read refl))) a.spelled

told_none : (told : Option Trace) → IsTakenBy [] told told
told_none None = tt
told_none (Some t) = refl

-- ---- while it reads

module _ (b : Beginning) (ms : List Message) (stored : Option Offset) (work : SessionState) where
  -- the stored offset is still the same one, or the next
  at_later : (before : Report) (is : IsReadUpTo b ms stored work before) (later : Option Offset) (P : Option Offset → Type 0) → (later ≡ stored) ⊎ (later ≡ Some (next_offset_of work)) → ((o : Offset) → P (Some o)) → P later
  at_later before is later P (inl same) at = subst P (sym (same ∙ is.stored_is)) (at is.offset)
  at_later before is later P (inr next) at = subst P (sym next) (at (next_offset_of work))

  -- neither rows nor a log that is gone were answered last
  pub quiet_asks : (before report : Report) (found told : Option Trace) (later : Option Offset) (result : Result Ending Halt) → IsReadUpTo b ms stored work before → HasReadSinceStart found told ms → IsQuiet told
      → (later ≡ stored) ⊎ (later ≡ Some (next_offset_of work)) → (t : Trace) → told ≡ Some t → MustHalt b.config b.held later report t result
  quiet_asks before report found told later result is a quiet kept t tells =
      at_later before is later (λ (o : Option Offset). MustHalt b.config b.held o report t result) kept
      (λ o. quiet_answers_ask_nothing b.config b.held o report t ms result (told_as found told told ms t a (told_none told) tells) (quiet t tells).0 (quiet t tells).1)

  -- memory ran out, or a call of the source failed
  pub failure_asks : (before report : Report) (found old new : Option Trace) (later : Option Offset) (h : Halt) → IsReadUpTo b ms stored work before → HasReadSinceStart found old ms → IsTakenBy [] old new → (h ≡ halt.Memory) ⊎ (h ≡ halt.Source)
      → (later ≡ stored) ⊎ (later ≡ Some (next_offset_of work)) → (t : Trace) → new ≡ Some t → MustHalt b.config b.held later report t (Err h)
  failure_asks before report found old new later h is a none failed kept t tells =
      at_later before is later (λ (o : Option Offset). MustHalt b.config b.held o report t (Err h)) kept
      (λ o. failures_excuse b.config b.held o report t ms h (told_as found old new ms t a none tells) failed)

  -- the rows of its next window were
  pub chunk_asks : (report : Report) (table : ℕ) (found old new : Option Trace) (h : Halt) → IsResting b ms stored work report → HasReadSinceStart found old ms → IsTakenBy [] old new → work.follower.window ≡ Absent → IsOpenTable work table
      → IsChunkHalt work table new h → (t : Trace) → new ≡ Some t → MustHalt b.config b.held stored report t (Err h)
  chunk_asks report table found old new h r a none absent unread chunk t tells =
      subst (λ (o : Option Offset). MustHalt b.config b.held o report t (Err h)) (sym r.is.stored_is)
      (rows_ask b.config b.now b.held b.first r.is.offset work report table t ms h r.is.of (between b ms stored work report r) absent unread (told_as found old new ms t a none tells)
      (subst (λ (o : Option Trace). IsChunkHalt work table o h) tells chunk))

  -- the newest bytes were
  pub newest_asks : (before report : Report) (old new : Option Trace) (bytes : List ℕ) (h : Halt) → IsReadUpTo b ms stored work before → IsTakenBy (bytes ∷ []) old new → LastAnswerIs new (Read (Some bytes))
      → IsNewestCause report.messages b.first.lsn ms bytes work h → (t : Trace) → new ≡ Some t → MustHalt b.config b.held stored report t (Err h)
  newest_asks before report old new bytes h is one answer cause t tells =
      let read = earlier_of old new bytes t one tells in
      subst (λ (o : Option Offset). MustHalt b.config b.held o report t (Err h)) (sym is.stored_is)
      (newest_bytes_ask b.config b.held is.offset report t b.first.lsn read.0 ms bytes work h (answer t tells) read.1 cause)
    where
      earlier_of : (old new : Option Trace) (bytes : List ℕ) (t : Trace) → IsTakenBy (bytes ∷ []) old new → new ≡ Some t → (earlier : List (List ℕ)) × (t.read ≡ bytes ∷ earlier)
      earlier_of None None bytes t one is = cc
      earlier_of None (Some n) bytes t one is = absurd one
      earlier_of (Some o) None bytes t one is = absurd one
      earlier_of (Some o) (Some n) bytes t one is = let same : n ≡ t = cc in (o.read, ap (λ (x : Trace). x.read) (sym same) ∙ one)

pub source_fails : (e : SourceError) → (source_halt e ≡ halt.Memory) ⊎ (source_halt e ≡ halt.Source)
source_fails source.Failed = inr refl
source_fails source.Memory = inl refl

-- ---- before it reads

-- a halt of the store, or for an offset that is too long: of a first one the head was told by then
abbrev OfFirst : Halt → Type 0
OfFirst h = (h ≡ halt.Offsets) ⊎ ((offset : Offset) × IsTooLong offset h)

-- another one
abbrev pub OfOther : Halt → Type 0
OfOther halt.Offsets = ⊥
OfOther (halt.OffsetTooLong len) = ⊥
OfOther h = Unit {0}

not_first : (h : Halt) → OfOther h → OfFirst h → ⊥
not_first h other (inl is) = subst OfOther is other
not_first h other (inr long) = subst OfOther long.1.is other

pub unread_asks : (config : Config) (old new : Option Offset) (told : Option Trace) (h : Halt) → IsOpenHalt config old new told h → 1 ≤ length config.tables → (old ≡ None → OfFirst h → (lsn : Lsn) × LastAnswerIs told (Head lsn)) → AsksUnread config old new told h
unread_asks config old new told h is some head report t none tells =
    unread_answers_ask config old new report t h (subst (λ (o : Option Trace). IsOpenHalt config old new o h) tells is) some none
    (λ unfound first. let at = head unfound first in (at.0, subst (λ (o : Option Trace). LastAnswerIs o (Head at.0)) tells at.1))

pub other_asks : (config : Config) (old new : Option Offset) (told : Option Trace) (h : Halt) → IsOpenHalt config old new told h → 1 ≤ length config.tables → OfOther h → AsksUnread config old new told h
other_asks config old new told h is some other = unread_asks config old new told h is some (λ unfound first. absurd (not_first h other first))

exhausted_asks : (config : Config) (old : Option Offset) (told : Option Trace) (h : Halt) → 1 ≤ length config.tables → IsExhausted old h → OfOther h
exhausted_asks config None told h some is = absurd is
exhausted_asks config (Some stored) told h some is = subst OfOther (sym is.1) tt

pub again_asks : (config : Config) (old : Option Offset) (told : Option Trace) (h : Halt) → 1 ≤ length config.tables → (h ≡ halt.Memory) ⊎ IsExhausted old h → AsksUnread config old old told h
again_asks config old told h some (inl memory) = other_asks config old old told h (inl (inl memory, refl)) some (subst OfOther (sym memory) tt)
again_asks config old told h some (inr exhausted) = other_asks config old old told h (inl (again_begins config old told h (inr exhausted), refl)) some (exhausted_asks config old told h some exhausted)

fault_other : (name : TableName) (entry : Option RawTable) (h : Halt) → IsFaultOf name entry h → OfOther h
fault_other name None h is = subst OfOther (sym is) tt
fault_other name (Some raw) h is = subst OfOther (sym is.2) tt

first_other : (config : Config) (told : Option Trace) (h : Halt) → (h ≡ halt.Memory) ⊎ ((h ≡ halt.Source) ⊎ ((name : TableName) × Contains config.tables name × IsModelFault name told h)) → OfOther h
first_other config told h (inl memory) = subst OfOther (sym memory) tt
first_other config told h (inr (inl failed)) = subst OfOther (sym failed) tt
first_other config told h (inr (inr model)) = fault_other model.0 model.2.entry h model.2.is

pub first_asks : (config : Config) (old : Option Offset) (told : Option Trace) (h : Halt) → 1 ≤ length config.tables → old ≡ None → (h ≡ halt.Memory) ⊎ ((h ≡ halt.Source) ⊎ ((name : TableName) × Contains config.tables name × IsModelFault name told h))
    → AsksUnread config old old told h
first_asks config old told h some none is = other_asks config old old told h (inl (first_begins config old told h none is, refl)) some (first_other config told h is)

-- the head of a first offset was told last
pub store_asks : (config : Config) (old new : Option Offset) (told : Option Trace) (offset : Offset) (h : Halt) → 1 ≤ length config.tables → new ≡ old → IsOffset offset → IsOffsetFor config old offset → (old ≡ None → (lsn : Lsn) × LastAnswerIs told (Head lsn))
    → (h ≡ halt.Memory) ⊎ ((h ≡ halt.Offsets) ⊎ IsTooLong offset h) → AsksUnread config old new told h
store_asks config old new told offset h some same asked for head is = unread_asks config old new told h (inl (store_begins config old told offset h asked for is, same)) some (λ unfound first. head unfound)

start_other : (after : Lsn) (h : Halt) → (h ≡ halt.Memory) ⊎ ((h ≡ halt.Source) ⊎ IsGoneFrom after h) → OfOther h
start_other after h (inl memory) = subst OfOther (sym memory) tt
start_other after h (inr (inl failed)) = subst OfOther (sym failed) tt
start_other after h (inr (inr gone)) = subst OfOther (sym gone.is) tt

pub start_asks : (config : Config) (old new : Option Offset) (told : Option Trace) (after : Lsn) (h : Halt) (stored : HasStored config old new) → after ≡ stored.offset.lsn
    → ((asked first : Lsn) → h ≡ halt.Gone asked first → (asked ≡ after) × LastAnswerIs told (Began (Gone first))) → 1 ≤ length config.tables → (h ≡ halt.Memory) ⊎ ((h ≡ halt.Source) ⊎ IsGoneFrom after h) → AsksUnread config old new told h
start_asks config old new told after h stored same says some is = other_asks config old new told h (start_opens config old new told after h stored same says is) some (start_other after h is)

pub memory_asks : (config : Config) (old new : Option Offset) (told : Option Trace) (h : Halt) → 1 ≤ length config.tables → h ≡ halt.Memory → AsksUnread config old new told h
memory_asks config old new told h some memory = other_asks config old new told h (inr (inr (inl memory))) some (subst OfOther (sym memory) tt)

-- none was stored
pub again_found : (old : Option Offset) (offset : Offset) → IsAgain old (Some offset) → old ≡ None → ⊥
again_found None offset again none = again
again_found (Some stored) offset again none = cc
