-- Why a session stops with an error before it reads.
use Rattle.std.proofs.Common.{◌≡◌, ◌∙◌, inl, inr, ℤ, Option, Some, None, refl, sym, subst}
use Rattle.std.specs.Prelude.{Contains}
use Rattle.dbl_model_table.specs.declared.config.Config.{Config}
use Rattle.dbl_model_table.specs.declared.table.RawTable.{RawTable}
use Rattle.dbl_model_table.specs.declared.table.TableName.{TableName}
use Rattle.dbl_capture_work.specs.SourceModel.Trace.{Trace}
use Rattle.dbl_capture_work.specs.Offset.declared.offset.Offset.{Offset}
use Rattle.dbl_capture_work.specs.Offset.Offsets.{IsOffset}
use Rattle.dbl_capture_work.specs.declared.halt.Halt.{Halt}
use Rattle.dbl_capture_work.specs.declared.halt.Halt.TheVariants as halt
use Rattle.dbl_capture_work.specs.declared.report.Report.{Report}
use Rattle.dbl_capture_work.specs.Begins.{IsExhausted, IsFaultOf, IsModelFault, IsOffsetFor, IsTooLong}
use Rattle.dbl_capture_laws.specs.Halted.{IsHalt}
use Rattle.dbl_capture_laws.specs.Underway.{IsBeginHalt, IsOpenHalt, SessionsHaltUnread}

-- ---- before it reads

module _ (config : Config) (now : ℤ) (old new : Option Offset) (report : Report) (told : Option Trace) where
  abbrev Halts : Halt → Type 0
  Halts h = IsHalt config now old new report told h

  model_halts : (name : TableName) (h : Halt) → old ≡ None → new ≡ None → Contains config.tables name → (fault : IsModelFault name told h) → (entry : Option RawTable) → IsFaultOf name entry h → Halts h
  model_halts name h none none_new has fault None is = subst Halts (sym is) (none, none_new, has, subst (IsModelFault name told) is fault)
  model_halts name h none none_new has fault (Some raw) is = subst Halts (sym is.2) (none, none_new, (name, has, subst (IsModelFault name told) is.2 fault))

  exhausted_halts : (h : Halt) → (found : Option Offset) → old ≡ found → new ≡ old → IsExhausted found h → Halts h
  exhausted_halts h None old_is same is = absurd is
  exhausted_halts h (Some stored) old_is same is =
      subst Halts (sym is.1)
      (same, subst (λ (o : Option Offset). IsExhausted o (halt.Exhausted stored.incarnation)) (sym old_is) (is.0, refl))

  long_halts : (offset : Offset) (h : Halt) → new ≡ old → IsOffset offset → IsOffsetFor config old offset → IsTooLong offset h → Halts h
  long_halts offset h same asked for long = subst Halts (sym long.is) (inl (same, (offset, asked, for, subst (IsTooLong offset) long.is long)))

  begin_halts : (h : Halt) → new ≡ old → IsBeginHalt config old told h → Halts h
  begin_halts h same (inl memory) = subst Halts (sym memory) tt
  begin_halts h same (inr (inl source)) = subst Halts (sym source) tt
  begin_halts h same (inr (inr (inl offsets))) = subst Halts (sym offsets) tt
  begin_halts h same (inr (inr (inr (inl exhausted)))) = exhausted_halts h old refl same exhausted
  begin_halts h same (inr (inr (inr (inr (inl model))))) =
      model_halts model.1.0 h model.0 (same ∙ model.0) model.1.1 model.1.2 model.1.2.entry model.1.2.is
  begin_halts h same (inr (inr (inr (inr (inr long))))) = long_halts long.0 h same long.1 long.2 long.3

  open_halts : (h : Halt) → IsOpenHalt config old new told h → Halts h
  open_halts h (inl begin) = begin_halts h begin.1 begin.0
  open_halts h (inr (inl gone)) = subst Halts (sym gone.is) (gone.stored, refl, gone.last_answer)
  open_halts h (inr (inr (inl memory))) = subst Halts (sym memory) tt
  open_halts h (inr (inr (inr source))) = subst Halts (sym source) tt

pub sessions_halt_unread : SessionsHaltUnread
sessions_halt_unread config now old new report told h is = open_halts config now old new report told h is
