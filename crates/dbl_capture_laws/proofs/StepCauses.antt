-- Which counts a halt may have to do with.
use Rattle.std.proofs.Common.{◌≡◌, ◌∙◌, ◌⊎◌, inl, inr, ℕ, Option, Some, None, List, Result, Ok, Err, sym, ap, subst}
use Rattle.std.specs.Prelude.{Contains, IfErr, IsErrAnd}
use Rattle.dbl_base.specs.declared.lsn.Lsn.{Lsn}
use Rattle.dbl_pgmsg.specs.declared.messages.Message.{Message}
use Rattle.dbl_record.specs.declared.record.Record.{Record}
use Rattle.dbl_model_table.specs.declared.table.RawTable.{RawTable}
use Rattle.dbl_model_table.specs.declared.table.TableName.{TableName}
use Rattle.dbl_capture_work.specs.ModelEvent.Clashes.{Clash}
use Rattle.dbl_capture_work.specs.SourceModel.Trace.{Trace}
use Rattle.dbl_capture_work.specs.Offset.declared.offset.Offset.{Offset}
use Rattle.dbl_capture_work.specs.SourceLog.declared.error.SourceError.{SourceError}
use Rattle.dbl_capture_work.specs.SourceLog.declared.error.SourceError.TheVariants as source
use Rattle.dbl_capture_work.specs.Window.declared.error.WindowError.{WindowError}
use Rattle.dbl_capture_work.specs.Window.declared.error.WindowError.TheVariants as window
use Rattle.dbl_capture_work.specs.declared.halt.Halt.{Halt}
use Rattle.dbl_capture_work.specs.declared.halt.Halt.TheVariants as halt
use Rattle.dbl_capture_work.specs.declared.work.SessionState.{SessionState}
use Rattle.dbl_capture_work.specs.Begins.{IsExhausted, IsFaultOf, IsGoneFrom, IsModelFault, IsTooLong}
use Rattle.dbl_capture_work.specs.Causes.{IsChunkHalt, IsLongRecord, IsOfRows}
use Rattle.dbl_capture_work.specs.Halts.{source_halt, window_halt}
use Rattle.dbl_capture_work.specs.Takes.{IsClashIn, IsLongSoFar, IsMessageHalt, IsTxnHalt}
use Rattle.dbl_capture_work.proofs.Exits.{source_failed}

-- ---- words: none is of a watermark that is missing

-- it is neither of the sink's count nor of the store's
abbrev pub OfSource : Halt → Type 0
OfSource halt.Sink = ⊥
OfSource halt.Offsets = ⊥
OfSource (halt.WatermarkMissing value at) = ⊥
OfSource h = Unit {0}

-- neither of the source's nor of the store's
abbrev pub OfSink : Halt → Type 0
OfSink halt.Source = ⊥
OfSink halt.Offsets = ⊥
OfSink (halt.WatermarkMissing value at) = ⊥
OfSink h = Unit {0}

-- neither of the source's nor of the sink's
abbrev pub OfStore : Halt → Type 0
OfStore halt.Source = ⊥
OfStore halt.Sink = ⊥
OfStore (halt.WatermarkMissing value at) = ⊥
OfStore h = Unit {0}

-- of none
abbrev pub OfNone : Halt → Type 0
OfNone halt.Source = ⊥
OfNone halt.Sink = ⊥
OfNone halt.Offsets = ⊥
OfNone (halt.WatermarkMissing value at) = ⊥
OfNone h = Unit {0}

-- ---- results

-- what is said of the error that a result is
pub err_at : {T E : Type 0} (r : Result T E) (e : E) (P : E → Type 0) → IfErr r P → r ≡ Err e → P e
err_at (Ok x) e P p is = cc
err_at (Err d) e P p is =
    let same : d ≡ e = cc in
    subst P same p

pub err_then : {T E : Type 0} (r : Result T E) (P Q : E → Type 0) → IfErr r P → ((e : E) → P e → Q e) → IfErr r Q
err_then (Ok x) P Q p f = tt
err_then (Err e) P Q p f = f e p

-- what is said of an error is said of what a `?` makes of it
pub residual_of : {T : Type 0} (r : Result T Halt) (e : Halt) (P : Halt → Type 0) → IsErrAnd r (λ h. h ≡ e) → P e → IfErr r P
residual_of (Ok x) e P none p = tt
residual_of (Err h) e P same p = subst P (sym same) p

-- and what it makes of it tells what it was
pub residual_is : {T U : Type 0} (r : Result T Halt) (q : Result U Halt) (e k : Halt) → q ≡ Err e → IsErrAnd r (λ h. h ≡ e) → r ≡ Err k → q ≡ Err k
residual_is (Ok x) q e k was none is = absurd none
residual_is (Err h) q e k was same is =
    let both : h ≡ k = cc in
    was ∙ ap (λ (x : Halt). Err x) (sym same ∙ both)

-- ---- the source

pub source_of : (e : SourceError) → OfSource (source_halt e)
source_of source.Failed = tt
source_of source.Memory = tt

-- its count rose where it failed
pub residual_source : {T U : Type 0} (r : Result T Halt) (q : Result U SourceError) (e : SourceError) → q ≡ Err e → IsErrAnd r (λ h. h ≡ source_halt e) → r ≡ Err halt.Source → q ≡ Err source.Failed
residual_source (Ok x) q e was none is = absurd none
residual_source (Err h) q e was same is =
    let both : h ≡ halt.Source = cc in
    was ∙ ap (λ (x : SourceError). Err x) (source_failed e (sym same ∙ both))

window_of : (name : TableName) (e : WindowError) → OfSource (window_halt name e)
window_of name (window.BadChunk row) = tt
window_of name (window.Moved version) = tt
window_of name (window.Cell column error) = tt
window_of name window.Failed = tt
window_of name window.Memory = tt

pub chunk_of : (work : SessionState) (table : ℕ) (told : Option Trace) (h : Halt) → IsChunkHalt work table told h → OfSource h
chunk_of work table told h chunk = by chunk.cause
  where
    by : (h ≡ halt.Memory) ⊎ ((h ≡ halt.Source) ⊎ ((error : WindowError) × (h ≡ window_halt chunk.info.name error) × IsOfRows chunk.plan told error)) → OfSource h
    by (inl memory) = subst OfSource (sym memory) tt
    by (inr (inl source)) = subst OfSource (sym source) tt
    by (inr (inr rows)) = subst OfSource (sym rows.1) (window_of chunk.info.name rows.0)

-- ---- the beginning

fault_of : (name : TableName) (entry : Option RawTable) (h : Halt) → IsFaultOf name entry h → OfSource h
fault_of name None h is = subst OfSource (sym is) tt
fault_of name (Some raw) h is = subst OfSource (sym is.2) tt

pub first_of : (tables : List TableName) (told : Option Trace) (h : Halt) → (h ≡ halt.Memory) ⊎ ((h ≡ halt.Source) ⊎ ((name : TableName) × Contains tables name × IsModelFault name told h)) → OfSource h
first_of tables told h (inl memory) = subst OfSource (sym memory) tt
first_of tables told h (inr (inl source)) = subst OfSource (sym source) tt
first_of tables told h (inr (inr model)) = fault_of model.0 model.2.entry h model.2.is

exhausted_of : (old : Option Offset) (h : Halt) → IsExhausted old h → OfNone h
exhausted_of None h is = absurd is
exhausted_of (Some stored) h is = subst OfNone (sym is.1) tt

pub again_of : (old : Option Offset) (h : Halt) → (h ≡ halt.Memory) ⊎ IsExhausted old h → OfNone h
again_of old h (inl memory) = subst OfNone (sym memory) tt
again_of old h (inr exhausted) = exhausted_of old h exhausted

pub start_of : (after : Lsn) (h : Halt) → (h ≡ halt.Memory) ⊎ ((h ≡ halt.Source) ⊎ IsGoneFrom after h) → OfSource h
start_of after h (inl memory) = subst OfSource (sym memory) tt
start_of after h (inr (inl source)) = subst OfSource (sym source) tt
start_of after h (inr (inr gone)) = subst OfSource (sym gone.is) tt

-- ---- the store

pub store_of : (offset : Offset) (h : Halt) → (h ≡ halt.Memory) ⊎ ((h ≡ halt.Offsets) ⊎ IsTooLong offset h) → OfStore h
store_of offset h (inl memory) = subst OfStore (sym memory) tt
store_of offset h (inr (inl offsets)) = subst OfStore (sym offsets) tt
store_of offset h (inr (inr long)) = subst OfStore (sym long.is) tt

-- ---- messages

pub taken_of : (number : ℕ) (after : Lsn) (ms : List Message) (bytes : List ℕ) (work : SessionState) (h : Halt) → (h ≡ halt.Memory) ⊎ (IsMessageHalt number bytes h ⊎ IsTxnHalt number after ms bytes work h) → OfNone h
taken_of number after ms bytes work h (inl memory) = subst OfNone (sym memory) tt
taken_of number after ms bytes work h (inr (inl message)) = subst OfNone (sym message.is) tt
taken_of number after ms bytes work h (inr (inr txn)) = subst OfNone (sym txn.is) tt

clash_halt : (clash : Option Clash) (h : Halt) → IsClashIn clash h → OfSink h
clash_halt None h is = absurd is
clash_halt (Some c) h is = subst OfSink (sym is) tt

pub follow_of : (clash : Option Clash) (records : List Record) (h : Halt) → (h ≡ halt.Memory) ⊎ ((h ≡ halt.Sink) ⊎ (IsClashIn clash h ⊎ ((clash ≡ None) × IsLongRecord records h))) → OfSink h
follow_of clash records h (inl memory) = subst OfSink (sym memory) tt
follow_of clash records h (inr (inl sink)) = subst OfSink (sym sink) tt
follow_of clash records h (inr (inr (inl is))) = clash_halt clash h is
follow_of clash records h (inr (inr (inr long))) = subst OfSink (sym long.1.is) tt

pub open_of : (clash : Option Clash) (records : List Record) (h : Halt) → (h ≡ halt.Memory) ⊎ ((h ≡ halt.Sink) ⊎ (IsClashIn clash h ⊎ ((clash ≡ None) × IsLongSoFar records h))) → OfSink h
open_of clash records h (inl memory) = subst OfSink (sym memory) tt
open_of clash records h (inr (inl sink)) = subst OfSink (sym sink) tt
open_of clash records h (inr (inr (inl is))) = clash_halt clash h is
open_of clash records h (inr (inr (inr long))) = subst OfSink (sym long.1.long.is) tt
