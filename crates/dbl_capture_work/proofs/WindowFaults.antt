-- Why a window isn't read, and which halt it is.
use Rattle.std.proofs.Common.{◌≡◌, ◌≢◌, ◌∙◌, ◌⊎◌, inl, inr, ℕ, Option, Some, List, refl, sym, ap, subst}
use Rattle.std.specs.Prelude.{Err, slice_get}
use Rattle.dbl_value_types.specs.declared.error.ValueError.{ValueError}
use Rattle.dbl_model_table.specs.declared.table.TableInfo.{TableInfo}
use Rattle.dbl_model_table.specs.declared.table.TableName.{TableName}
use Rattle.dbl_model_history.specs.Fit.{IsFitHistory}
use Rattle.dbl_model_history.specs.History.{History}
use Rattle.dbl_source_model.specs.Standings.{SourceState, HasState}
use Rattle.dbl_source_model.specs.Trace.{Trace}
use Rattle.dbl_source_model.proofs.PlainLemmas.{version_kept}
use Rattle.dbl_window.specs.declared.error.WindowError.{WindowError}
use Rattle.dbl_window.specs.declared.error.WindowError.TheVariants as window
use Rattle.dbl_window.specs.Plans.{Plan}
use Rattle.dbl_window.specs.Selected.{HasMoved, HasUnreadable, IsCaptured, IsReadOf}
use Rattle.dbl_window.proofs.HonestLemmas.{captured_stays}
use Rattle.dbl_capture_work.specs.declared.halt.Halt.{Halt}
use Rattle.dbl_capture_work.specs.declared.halt.Halt.TheVariants as halt
use Rattle.dbl_capture_work.specs.declared.work.SessionState.{SessionState}
use Rattle.dbl_capture_work.specs.Causes.{IsChunkHalt, IsHonestChunkHalt, IsHonestFault, IsOfRows}
use Rattle.dbl_capture_work.specs.Halts.{window_halt}
use Rattle.dbl_capture_work.specs.Works.{plan_at}

-- ---- the fault of a step of a window

pub rows_fault : (plan : Plan) (told : Option Trace) (e : WindowError) → (e ≡ window.Failed) ⊎ ((e ≡ window.Memory) ⊎ IsReadOf plan told (Err e))
    → (e ≡ window.Memory) ⊎ ((e ≡ window.Failed) ⊎ IsOfRows plan told e)
rows_fault plan told e (inl failed) = inr (inl failed)
rows_fault plan told e (inr (inl memory)) = inl memory
rows_fault plan told e (inr (inr read)) = inr (inr read)

pub mark_fault : (plan : Plan) (told : Option Trace) (e : WindowError) → (e ≡ window.Failed) ⊎ (e ≡ window.Memory) → (e ≡ window.Memory) ⊎ ((e ≡ window.Failed) ⊎ IsOfRows plan told e)
mark_fault plan told e (inl failed) = inr (inl failed)
mark_fault plan told e (inr memory) = inl memory

-- a watermark has no row that could be invalid
pub mark_honest : (plan : Plan) (stands : SourceState → Type 0) (infos : List TableInfo) (e : WindowError) → (e ≡ window.Failed) ⊎ (e ≡ window.Memory) → IsHonestFault plan stands infos e
mark_honest plan stands infos e (inl failed) = subst (IsHonestFault plan stands infos) (sym failed) tt
mark_honest plan stands infos e (inr memory) = subst (IsHonestFault plan stands infos) (sym memory) tt

-- of a valid history a window of another version than 1 is told that its table was altered
pub moved_other : (old new : History) (plan : Plan) (version : ℕ) → IsFitHistory new → HasMoved old new plan version → plan.version ≢ 1
moved_other old new plan version fit moved first = moved.other (moved.is ∙ (version_kept new moved.place plan.info.name fit.unaltered fit.opening ∙ sym first))

-- of a conforming source no row is bad, and the history has a cell that isn't readable
pub select_honest : {S : Type 0} (stands : S → SourceState → Type 0) (src : S) (plan : Plan) (infos : List TableInfo) (e : WindowError) → ((version : ℕ) → e ≡ window.Moved version → plan.version ≢ 1) → ((row : ℕ) → e ≡ window.BadChunk row → ⊥)
    → ((name : List ℕ) (error : ValueError) → e ≡ window.Cell name error → HasState stands src (λ t. HasUnreadable infos t.history plan name error)) → IsHonestFault plan (stands src) infos e
select_honest stands src plan infos (window.Moved version) moved never cell = moved version refl
select_honest stands src plan infos (window.BadChunk row) moved never cell = never row refl
select_honest stands src plan infos (window.Cell name error) moved never cell = let stood = cell name error refl in (stood.standing, stood.is, stood.holds)
select_honest stands src plan infos window.Failed moved never cell = tt
select_honest stands src plan infos window.Memory moved never cell = tt

-- the catalogue is the same
pub captured_on : (infos : List TableInfo) (old new : History) (plan : Plan) → new.tables ≡ old.tables → IsCaptured infos old plan → IsCaptured infos new plan
captured_on infos old new plan same captured = record { are = captured_stays old new infos same captured.are; here = captured.here }

-- ---- which halt it is

abbrev pub IsChunkCause : TableName → Plan → Option Trace → Halt → Type 0
IsChunkCause name plan told h = (h ≡ halt.Memory) ⊎ ((h ≡ halt.Source) ⊎ ((error : WindowError) × (h ≡ window_halt name error) × IsOfRows plan told error))

pub chunk_cause : (name : TableName) (plan : Plan) (told : Option Trace) (h : Halt) (e : WindowError) → (h ≡ halt.Memory) ⊎ (h ≡ window_halt name e)
    → (e ≡ window.Memory) ⊎ ((e ≡ window.Failed) ⊎ IsOfRows plan told e) → IsChunkCause name plan told h
chunk_cause name plan told h e (inl memory) cause = inl memory
chunk_cause name plan told h e (inr is) (inl memory) = inl (is ∙ ap (window_halt name) memory)
chunk_cause name plan told h e (inr is) (inr (inl failed)) = inr (inl (is ∙ ap (window_halt name) failed))
chunk_cause name plan told h e (inr is) (inr (inr rows)) = inr (inr (e, is, rows))

pub chunk_halt : (work : SessionState) (table : ℕ) (told : Option Trace) (h : Halt) (info : TableInfo) (plan : Plan) → slice_get work.offset.infos table ≡ Some info → plan_at work table ≡ Some plan
    → IsChunkCause info.name plan told h → IsChunkHalt work table told h
chunk_halt work table told h info plan info_is plan_is cause = record { info = info; info_is = info_is; plan = plan; plan_is = plan_is; cause = cause }

pub honest_halt : (plan : Plan) (stands : SourceState → Type 0) (infos : List TableInfo) (name : TableName) (h : Halt) (e : WindowError) → name ≡ plan.info.name → (h ≡ halt.Memory) ⊎ (h ≡ window_halt name e)
    → IsHonestFault plan stands infos e → IsHonestChunkHalt plan stands infos h
honest_halt plan stands infos name h e same (inl memory) fault = inl memory
honest_halt plan stands infos name h e same (inr is) fault = inr (e, is ∙ ap (λ (n : TableName). window_halt n e) same, fault)

-- it is the source's only where the source failed
pub halt_failed : (name : TableName) (h : Halt) (e : WindowError) → (h ≡ halt.Memory) ⊎ (h ≡ window_halt name e) → h ≡ halt.Source → e ≡ window.Failed
halt_failed name h e (inl memory) is = let wrong : halt.Memory ≡ halt.Source = sym memory ∙ is in cc
halt_failed name h e (inr halted) is = by e (sym halted ∙ is)
  where
    by : (x : WindowError) → window_halt name x ≡ halt.Source → x ≡ window.Failed
    by (window.Moved version) same = cc
    by (window.BadChunk row) same = cc
    by (window.Cell column error) same = cc
    by window.Failed same = refl
    by window.Memory same = cc
