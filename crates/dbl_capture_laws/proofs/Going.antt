-- A log that is gone: a session that reads never stops with an error for one.
use Rattle.std.proofs.Common.{◌≡◌, ◌∙◌, ◌⊎◌, inl, inr, ◌≤◌, ◌<◌, ℕ, Option, Some, None, List, refl, sym, ap, subst, arith}
use Rattle.dbl_base.specs.declared.lsn.Lsn.{Lsn}
use Rattle.dbl_pgmsg.specs.declared.messages.Message.{Message}
use Rattle.dbl_record.specs.declared.record.Record.{Record}
use Rattle.dbl_model_table.specs.declared.config.Config.{Config}
use Rattle.dbl_model_table.specs.declared.table.RawTable.{RawTable}
use Rattle.dbl_model_table.specs.declared.table.TableName.{TableName}
use Rattle.dbl_capture_work.specs.ModelEvent.Clashes.{Clash}
use Rattle.dbl_capture_work.specs.SourceModel.Trace.{Trace}
use Rattle.dbl_capture_work.specs.Offset.declared.offset.Offset.{Offset}
use Rattle.dbl_capture_work.specs.SourceLog.declared.error.SourceError.{SourceError}
use Rattle.dbl_capture_work.specs.SourceLog.declared.error.SourceError.TheVariants as source
use Rattle.dbl_capture_work.specs.Window.declared.error.WindowError.{WindowError}
use Rattle.dbl_capture_work.specs.Window.declared.error.WindowError.TheVariants as window
use Rattle.dbl_capture_work.specs.Follow.declared.window.Window.{Window}
use Rattle.dbl_capture_work.specs.Follow.declared.window.Window.TheVariants.{Absent}
use Rattle.dbl_capture_work.specs.Follow.Followed.{awaited}
use Rattle.dbl_capture_work.specs.CaptureModel.Entries.{IsKeptAfter}
use Rattle.dbl_capture_work.specs.declared.halt.Halt.{Halt}
use Rattle.dbl_capture_work.specs.declared.halt.Halt.TheVariants as halt
use Rattle.dbl_capture_work.specs.declared.work.SessionState.{SessionState}
use Rattle.dbl_capture_work.specs.Begins.{IsExhausted, IsFaultOf, IsGoneFrom, IsOffsetFor, IsTooLong}
use Rattle.dbl_capture_work.specs.Causes.{IsChunkHalt, IsLongRecord, IsOfRows}
use Rattle.dbl_capture_work.specs.Halts.{source_halt, window_halt}
use Rattle.dbl_capture_work.specs.Takes.{IsClashIn, IsLongSoFar, IsMessageHalt, IsTxnHalt}
use Rattle.dbl_capture_laws.specs.Underway.{IsBeginHalt}
use Rattle.dbl_capture_laws.specs.Caused.{IsNotGone}
use Rattle.dbl_capture_laws.specs.HasState.{IsGoneBelow}

pub memory_reads : (h : Halt) → h ≡ halt.Memory → IsNotGone h
memory_reads h is = subst IsNotGone (sym is) tt

pub source_reads : (e : SourceError) → IsNotGone (source_halt e)
source_reads source.Failed = tt
source_reads source.Memory = tt

window_reads : (name : TableName) (e : WindowError) → IsNotGone (window_halt name e)
window_reads name (window.BadChunk row) = tt
window_reads name (window.Moved version) = tt
window_reads name (window.Cell column error) = tt
window_reads name window.Failed = tt
window_reads name window.Memory = tt

pub chunk_reads : (work : SessionState) (table : ℕ) (told : Option Trace) (h : Halt) → IsChunkHalt work table told h → IsNotGone h
chunk_reads work table told h chunk = by chunk.cause
  where
    by : (h ≡ halt.Memory) ⊎ ((h ≡ halt.Source) ⊎ ((error : WindowError) × (h ≡ window_halt chunk.info.name error) × IsOfRows chunk.plan told error)) → IsNotGone h
    by (inl memory) = memory_reads h memory
    by (inr (inl failed)) = subst IsNotGone (sym failed) tt
    by (inr (inr rows)) = subst IsNotGone (sym rows.1) (window_reads chunk.info.name rows.0)

pub store_reads : (offset : Offset) (h : Halt) → (h ≡ halt.Memory) ⊎ ((h ≡ halt.Offsets) ⊎ IsTooLong offset h) → IsNotGone h
store_reads offset h (inl memory) = memory_reads h memory
store_reads offset h (inr (inl failed)) = subst IsNotGone (sym failed) tt
store_reads offset h (inr (inr long)) = subst IsNotGone (sym long.is) tt

pub taken_reads : (number : ℕ) (after : Lsn) (ms : List Message) (bytes : List ℕ) (work : SessionState) (h : Halt) → (h ≡ halt.Memory) ⊎ (IsMessageHalt number bytes h ⊎ IsTxnHalt number after ms bytes work h) → IsNotGone h
taken_reads number after ms bytes work h (inl memory) = memory_reads h memory
taken_reads number after ms bytes work h (inr (inl message)) = subst IsNotGone (sym message.is) tt
taken_reads number after ms bytes work h (inr (inr txn)) = subst IsNotGone (sym txn.is) tt

clash_reads : (clash : Option Clash) (h : Halt) → IsClashIn clash h → IsNotGone h
clash_reads None h is = absurd is
clash_reads (Some c) h is = subst IsNotGone (sym is) tt

pub follow_reads : (clash : Option Clash) (records : List Record) (h : Halt) → (h ≡ halt.Memory) ⊎ ((h ≡ halt.Sink) ⊎ (IsClashIn clash h ⊎ ((clash ≡ None) × IsLongRecord records h))) → IsNotGone h
follow_reads clash records h (inl memory) = memory_reads h memory
follow_reads clash records h (inr (inl failed)) = subst IsNotGone (sym failed) tt
follow_reads clash records h (inr (inr (inl is))) = clash_reads clash h is
follow_reads clash records h (inr (inr (inr long))) = subst IsNotGone (sym long.1.is) tt

pub open_reads : (clash : Option Clash) (records : List Record) (h : Halt) → (h ≡ halt.Memory) ⊎ ((h ≡ halt.Sink) ⊎ (IsClashIn clash h ⊎ ((clash ≡ None) × IsLongSoFar records h))) → IsNotGone h
open_reads clash records h (inl memory) = memory_reads h memory
open_reads clash records h (inr (inl failed)) = subst IsNotGone (sym failed) tt
open_reads clash records h (inr (inr (inl is))) = clash_reads clash h is
open_reads clash records h (inr (inr (inr long))) = subst IsNotGone (sym long.1.long.is) tt

-- ---- it begins

exhausted_reads : (old : Option Offset) (h : Halt) → IsExhausted old h → IsNotGone h
exhausted_reads None h is = absurd is
exhausted_reads (Some stored) h is = subst IsNotGone (sym is.1) tt

fault_reads : (name : TableName) (entry : Option RawTable) (h : Halt) → IsFaultOf name entry h → IsNotGone h
fault_reads name None h is = subst IsNotGone (sym is) tt
fault_reads name (Some raw) h is = subst IsNotGone (sym is.2) tt

pub begin_reads : (config : Config) (old : Option Offset) (told : Option Trace) (h : Halt) → IsBeginHalt config old told h → IsNotGone h
begin_reads config old told h (inl memory) = memory_reads h memory
begin_reads config old told h (inr (inl failed)) = subst IsNotGone (sym failed) tt
begin_reads config old told h (inr (inr (inl failed))) = subst IsNotGone (sym failed) tt
begin_reads config old told h (inr (inr (inr (inl exhausted)))) = exhausted_reads old h exhausted
begin_reads config old told h (inr (inr (inr (inr (inl model))))) = fault_reads model.1.0 model.1.2.entry h model.1.2.is
begin_reads config old told h (inr (inr (inr (inr (inr long))))) = subst IsNotGone (sym long.3.is) tt

-- where nothing after the offset was confirmed, its log isn't gone
zero_le : (n m : ℕ) → n ≡ 0 → n ≤ m
zero_le n m is = omega (arith, is)

pub kept_low : (config : Config) (old : Option Offset) (first : Offset) (before now : Lsn) → IsOffsetFor config old first → IsKeptAfter before old → now ≡ before → now.0 ≤ first.lsn.0
kept_low config None first before now for kept same = zero_le now.0 first.lsn.0 (ap (λ (l : Lsn). l.0) same ∙ kept)
kept_low config (Some old) first before now for kept same =
    subst (λ (l : Lsn). l.0 ≤ first.lsn.0) (sym same) (subst (λ (o : Offset). before.0 ≤ o.lsn.0) (sym for) kept)

pub not_gone : (h : Halt) → ((asked first : Lsn) → h ≡ halt.Gone asked first → ⊥) → IsNotGone h
not_gone (halt.Gone asked first) never = never asked first refl
not_gone h never = tt

-- and where one is, it is so by what was confirmed
pub free_below : (confirmed : Lsn) (h : Halt) → IsNotGone h → IsGoneBelow confirmed h
free_below confirmed (halt.Gone asked first) none = absurd none
free_below confirmed h none = tt

pub start_below : (after now before : Lsn) (h : Halt) → now ≡ before → (h ≡ halt.Memory) ⊎ ((h ≡ halt.Source) ⊎ IsGoneFrom after h)
    → ((asked first : Lsn) → h ≡ halt.Gone asked first → (after.0 < first.0) × (first.0 ≤ now.0)) → IsGoneBelow before h
start_below after now before h same (inl memory) gone = subst (IsGoneBelow before) (sym memory) tt
start_below after now before h same (inr (inl failed)) gone = subst (IsGoneBelow before) (sym failed) tt
start_below after now before h same (inr (inr from)) gone =
    subst (λ (l : Lsn). IsGoneBelow l h) same (subst (IsGoneBelow now) (sym from.is) (gone after from.first from.is))

-- a window that isn't there waits for nothing
pub not_waiting : (w : Window) (value : List ℕ) → w ≡ Absent → awaited w ≡ Some value → ⊥
not_waiting w value absent waits = let wrong : None ≡ Some value = ap awaited (sym absent) ∙ waits in cc
