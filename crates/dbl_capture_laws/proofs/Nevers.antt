-- What never makes a session over a conforming source stop with an error, at each place where it may.
use Rattle.std.proofs.Common.{◌≡◌, ◌+◌, arith, suc, ap, ◌∙◌, ◌⊎◌, inl, inr, ℕ, Option, Some, None, List, ◌∷◌, length, refl, sym, ap₂, subst}
use Rattle.dbl_base.specs.declared.lsn.Lsn.{Lsn}
use Rattle.dbl_pgmsg.specs.declared.messages.Message.{Message}
use Rattle.dbl_pgmsg.specs.Grammar.{Spells}
use Rattle.dbl_pgmsg.proofs.MessageLaws.{one_message}
use Rattle.dbl_record.specs.declared.record.Record.{Record}
use Rattle.dbl_capture_work.specs.SourceLog.declared.error.SourceError.{SourceError}
use Rattle.dbl_capture_work.specs.SourceLog.declared.error.SourceError.TheVariants as source
use Rattle.dbl_capture_work.specs.Source.Model.{SourceModel}
use Rattle.dbl_model_table.specs.declared.config.Config.{Config}
use Rattle.dbl_model_table.specs.declared.table.RawTable.{RawTable}
use Rattle.dbl_model_table.specs.declared.table.TableInfo.{TableInfo}
use Rattle.dbl_model_table.specs.declared.table.TableName.{TableName}
use Rattle.dbl_capture_work.specs.ModelHistory.Fit.{AreInfosOf}
use Rattle.dbl_capture_work.specs.ModelCommit.Blocks.{AreWithoutFault}
use Rattle.dbl_capture_work.specs.ModelCommit.Stated.{transaction_fault}
use Rattle.dbl_capture_work.specs.ModelEvent.Clashes.{Clash}
use Rattle.dbl_capture_work.proofs.FaithfulItems.{first_some}
use Rattle.dbl_capture_work.specs.SourceModel.Calls.{HasReadOneMore}
use Rattle.dbl_capture_work.specs.SourceModel.Standings.{Reading, SourceState}
use Rattle.dbl_capture_work.specs.SourceModel.Stated.{IsReadPlainly}
use Rattle.dbl_capture_work.specs.SourceModel.Trace.{Trace}
use Rattle.dbl_capture_work.specs.Offset.declared.offset.Offset.{Offset}
use Rattle.dbl_capture_work.specs.Window.declared.error.WindowError.{WindowError}
use Rattle.dbl_capture_work.specs.Window.declared.error.WindowError.TheVariants as window
use Rattle.dbl_capture_work.specs.Window.Plans.{Plan}
use Rattle.dbl_capture_work.specs.Window.Selected.{IsCaptured}
use Rattle.dbl_capture_work.specs.CaptureModel.Entries.{SessionStart}
use Rattle.dbl_capture_work.specs.declared.halt.Halt.{Halt}
use Rattle.dbl_capture_work.specs.declared.halt.Halt.TheVariants as halt
use Rattle.dbl_capture_work.specs.declared.report.Report.{Report}
use Rattle.dbl_capture_work.specs.declared.work.SessionState.{SessionState}
use Rattle.dbl_capture_work.specs.Begins.{IsExhausted, IsFaultOf, IsGoneFrom, IsTooLong}
use Rattle.dbl_capture_work.specs.Causes.{IsHonestChunkHalt, IsHonestFault, IsLongRecord}
use Rattle.dbl_capture_work.specs.Halts.{source_halt, window_halt}
use Rattle.dbl_capture_work.specs.Takes.{IsClashIn, IsLongSoFar, IsMessageHalt, IsTxnHalt}
use Rattle.dbl_capture_laws.specs.Sessions.{IsCapturing}
use Rattle.dbl_capture_laws.specs.Nevers.{IsHonestHalt}
use Rattle.dbl_capture_laws.specs.Underway.{IsBeginHalt}
use Rattle.dbl_capture_laws.specs.Carried.{Beginning}
use Rattle.dbl_capture_laws.specs.Sources.{IsUnderWay}
use Rattle.dbl_capture_laws.proofs.Honest.{honest_transactions_fail, spelled_bytes_never_halt}

module _ (entry : SessionStart) (stands : SourceState → Type 0) where
  abbrev Honest : Halt → Type 0
  Honest h = IsHonestHalt entry stands h

  -- ---- before it reads

  fault_honest : (name : TableName) (raw : Option RawTable) (h : Halt) → IsFaultOf name raw h → Honest h
  fault_honest name None h is = subst Honest (sym is) tt
  fault_honest name (Some raw) h is = subst Honest (sym is.2) tt

  exhausted_honest : (old : Option Offset) (h : Halt) → IsExhausted old h → Honest h
  exhausted_honest None h is = absurd is
  exhausted_honest (Some stored) h is = subst Honest (sym is.1) tt

  pub begin_honest : (config : Config) (old : Option Offset) (told : Option Trace) (h : Halt) → IsBeginHalt config old told h → Honest h
  begin_honest config old told h (inl memory) = subst Honest (sym memory) tt
  begin_honest config old told h (inr (inl source)) = subst Honest (sym source) tt
  begin_honest config old told h (inr (inr (inl offsets))) = subst Honest (sym offsets) tt
  begin_honest config old told h (inr (inr (inr (inl exhausted)))) = exhausted_honest old h exhausted
  begin_honest config old told h (inr (inr (inr (inr (inl model))))) = fault_honest model.1.0 model.1.2.entry h model.1.2.is
  begin_honest config old told h (inr (inr (inr (inr (inr long))))) = subst Honest (sym long.3.is) tt

  pub source_honest : (e : SourceError) → Honest (source_halt e)
  source_honest source.Failed = tt
  source_honest source.Memory = tt

  pub memory_honest : (h : Halt) → h ≡ halt.Memory → Honest h
  memory_honest h is = subst Honest (sym is) tt

  pub store_honest : (offset : Offset) (h : Halt) → (h ≡ halt.Memory) ⊎ ((h ≡ halt.Offsets) ⊎ IsTooLong offset h) → Honest h
  store_honest offset h (inl memory) = subst Honest (sym memory) tt
  store_honest offset h (inr (inl failed)) = subst Honest (sym failed) tt
  store_honest offset h (inr (inr long)) = subst Honest (sym long.is) tt

  pub start_honest : (after : Lsn) (h : Halt) → (h ≡ halt.Memory) ⊎ ((h ≡ halt.Source) ⊎ IsGoneFrom after h) → Honest h
  start_honest after h (inl memory) = subst Honest (sym memory) tt
  start_honest after h (inr (inl failed)) = subst Honest (sym failed) tt
  start_honest after h (inr (inr gone)) = subst Honest (sym gone.is) tt

  -- ---- a window

  pub window_honest : (plan : Plan) (infos : List TableInfo) (h : Halt) → plan.version ≡ 1 → IsCapturing entry infos → ((t : SourceState) → stands t → IsCaptured infos t.history plan) → IsHonestChunkHalt plan stands infos h → Honest h
  window_honest plan infos h first captured window_is (inl memory) = subst Honest (sym memory) tt
  window_honest plan infos h first captured window_is (inr fault) = subst Honest (sym fault.1) (by fault.0 fault.2)
    where
      by : (error : WindowError) → IsHonestFault plan stands infos error → Honest (window_halt plan.info.name error)
      by (window.Moved version) is = absurd (is first)
      by (window.BadChunk row) is = absurd is
      by (window.Cell column error) is = (is.0, is.1, infos, captured, record { plan = plan; captured = window_is is.0 is.1; name = refl; cell = is.2 })
      by window.Failed is = tt
      by window.Memory is = tt

  -- ---- the newest message

  clash_honest : (x : Option Clash) (h : Halt) → IsClashIn x h → Honest h
  clash_honest None h found = absurd found
  clash_honest (Some c) h found = subst Honest (sym found) tt

  pub follow_honest : (clash : Option Clash) (records : List Record) (h : Halt) → (h ≡ halt.Memory) ⊎ ((h ≡ halt.Sink) ⊎ (IsClashIn clash h ⊎ ((clash ≡ None) × IsLongRecord records h))) → Honest h
  follow_honest clash records h (inl memory) = subst Honest (sym memory) tt
  follow_honest clash records h (inr (inl failed)) = subst Honest (sym failed) tt
  follow_honest clash records h (inr (inr (inl is))) = clash_honest clash h is
  follow_honest clash records h (inr (inr (inr long))) = subst Honest (sym long.1.is) tt

  pub open_honest : (clash : Option Clash) (records : List Record) (h : Halt) → (h ≡ halt.Memory) ⊎ ((h ≡ halt.Sink) ⊎ (IsClashIn clash h ⊎ ((clash ≡ None) × IsLongSoFar records h))) → Honest h
  open_honest clash records h (inl memory) = subst Honest (sym memory) tt
  open_honest clash records h (inr (inl failed)) = subst Honest (sym failed) tt
  open_honest clash records h (inr (inr (inl is))) = clash_honest clash h is
  open_honest clash records h (inr (inr (inr long))) = subst Honest (sym long.1.long.is) tt

  pub taken_honest : (infos : List TableInfo) (t : SourceState) (after : Lsn) (ms : List Message) (m : Message) (bytes : List ℕ) (number : ℕ) (work : SessionState) (h : Halt) → IsCapturing entry infos → stands t
      → t.reading ≡ Some (record { after = after; messages = m ∷ ms }) → AreInfosOf t.history infos → IsReadPlainly t.history (record { after = after; messages = m ∷ ms }) → work.offset.infos ≡ infos → AreWithoutFault infos after ms
      → Spells bytes m → number ≡ length (m ∷ ms) → (h ≡ halt.Memory) ⊎ (IsMessageHalt number bytes h ⊎ IsTxnHalt number after ms bytes work h) → Honest h
  taken_honest infos t after ms m bytes number work h captured stood reading are right same accepted spells many cause = by cause
    where
      by : (h ≡ halt.Memory) ⊎ (IsMessageHalt number bytes h ⊎ IsTxnHalt number after ms bytes work h) → Honest h
      by (inl memory) = subst Honest (sym memory) tt
      by (inr (inl message)) = absurd (spelled_bytes_never_halt number bytes m h spells message)
      by (inr (inr txn)) = subst Honest (sym txn.is) (
        t,
        stood,
        infos,
        captured,
        honest_transactions_fail infos t after ms m number txn.error reading are right accepted
            (ap₂ (λ (l : List TableInfo) (x : Message). transaction_fault l after x ms) (sym same) (one_message bytes m txn.message spells txn.spells) ∙ txn.fault) many,
      )

-- ---- how many messages were read

abbrev pub reading_at : Lsn → List Message → Reading
reading_at after ms = record { after = after; messages = ms }

-- a source that is after these messages has read as many as are counted
module _ {S : Type 0} (source_model : SourceModel S) (one : (src : S) (s t : SourceState) → source_model.stands src s → source_model.stands src t → s ≡ t) where
  pub many_at : (at : Option SourceState) (found : Option Trace) (b : Beginning) (stored : Option Offset) (work : SessionState) (report : Report) (src : S) (s : SourceState) (after : Lsn) (ms : List Message)
      → IsUnderWay source_model at found b stored work report src → at ≡ Some s → (t : SourceState) → source_model.stands src t → t.reading ≡ Some (record { after = after; messages = ms }) → length ms ≡ report.messages
  many_at at found b stored work report src s after ms u first t is reading =
      let was = u.stood s first in
      let same : t ≡ was.standing = one src t was.standing is was.is in
      let both : Some (reading_at after ms) ≡ Some (reading_at b.first.lsn u.messages) = sym reading ∙ (ap (λ (x : SourceState). x.reading) same ∙ was.holds) in
      ap (λ (r : Reading). length r.messages) (first_some (reading_at after ms) (reading_at b.first.lsn u.messages) both) ∙ u.is.is.many

pub one_longer : (n m : ℕ) → n ≡ m → suc n ≡ m + 1
one_longer n m is = omega (arith, is)

-- it is after one message more
pub took_at : (s t : SourceState) (m : Message) (after : Lsn) (ms : List Message) → HasReadOneMore m s t → s.reading ≡ Some (reading_at after ms) → t.reading ≡ Some (reading_at after (m ∷ ms))
took_at s t m after ms took was =
    let same : took.before ≡ reading_at after ms = first_some took.before (reading_at after ms) (sym took.was ∙ was) in
    took.is ∙ ap (λ (r : Reading). Some (reading_at r.after (m ∷ r.messages))) same
