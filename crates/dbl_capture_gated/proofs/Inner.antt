-- What a session says of its sink, of the inner sink of a gate: they have the same groups, and may leave the same.
use Rattle.std.proofs.Common.{◌≡◌, ℕ, ℤ, Bool, true, false, Option, Some, None, List, ◌++◌, Ok, Err, Result, refl, inl, inr, arith}
use Rattle.std.specs.Prelude.{◌≤◌, ◌+◌, ◌&&◌, is_none, IfErr, IsTrue, OnOk}
use Rattle.dbl_base.specs.Streams.{FailsOnlyIfCounted, FaultCounted}
use Rattle.dbl_pgmsg.specs.declared.messages.Message.{Message}
use Rattle.dbl_pgmsg.specs.Grammar.{Spells}
use Rattle.dbl_record.specs.declared.record.Record.{Record}
use Rattle.dbl_record.specs.Cuts.{cut}
use Rattle.dbl_topic.specs.Model.{SinkModel}
use Rattle.dbl_hooks_gate.specs.Gates.{faults_with, is_open, refusals}
use Rattle.dbl_base.specs.declared.lsn.Lsn.{Lsn}
use Rattle.dbl_model_table.specs.declared.config.Config.{Config}
use Rattle.dbl_offset.specs.Stores.{StoreOn}
use Rattle.dbl_source.specs.Model.{SourceModel}
use Rattle.dbl_capture.specs.CaptureModel.Entries.{SessionStart}
use Rattle.dbl_capture.specs.CaptureWork.SourceModel.Standings.{SourceState}
use Rattle.dbl_capture.specs.CaptureWork.SourceModel.Trace.{Trace}
use Rattle.dbl_capture.specs.CaptureWork.Offset.declared.offset.Offset.{Offset}
use Rattle.dbl_capture.specs.CaptureWork.declared.halt.Halt.{Halt}
use Rattle.dbl_capture.specs.CaptureWork.declared.halt.Halt.TheVariants as halt
use Rattle.dbl_capture.specs.CaptureWork.declared.report.Ending.{Ending}
use Rattle.dbl_capture.specs.CaptureWork.declared.report.Report.{Report}
use Rattle.dbl_capture.specs.CaptureLaws.Gained.{HasCountedGroups, Making, ReportsGroups}
use Rattle.dbl_capture.specs.CaptureLaws.Nevers.{IsFaithfulHalt}
use Rattle.dbl_capture.specs.CaptureLaws.Tallied.{IsTallied, IsTalliedAfter, Tallies}
use Rattle.dbl_capture.specs.SessionEnds.{TalliesRecords}
use Rattle.dbl_capture_gated.specs.Inner.{KeepsInner}

-- the same halt over fewer facts of the sink
pub halt_inner : (entry : SessionStart) (stored : Option Offset) (report : Report) (stands : SourceState → Type 0) (before after : List (List Record) → Type 0)
    → ((groups : List (List Record)) → before groups → after groups) → (h : Halt) → IsFaithfulHalt entry stored report stands before h
    → IsFaithfulHalt entry stored report stands after h
halt_inner entry stored report stands before after so (halt.Clash table column) is = is
halt_inner entry stored report stands before after so (halt.RecordTooLong len) is = is
halt_inner entry stored report stands before after so (halt.OffsetTooLong len) is = (is.0, is.1, is.2, so is.2 is.3, is.4)
halt_inner entry stored report stands before after so h is = tt

pub halts_inner : (entry : SessionStart) (stored : Option Offset) (report : Report) (stands : SourceState → Type 0) (before after : List (List Record) → Type 0)
    → ((groups : List (List Record)) → before groups → after groups) → (result : Result Ending Halt) → IfErr result (IsFaithfulHalt entry stored report stands before)
    → IfErr result (IsFaithfulHalt entry stored report stands after)
halts_inner entry stored report stands before after so (Ok ending) is = tt
halts_inner entry stored report stands before after so (Err h) is = halt_inner entry stored report stands before after so h is

module _ {X K : Type 0} (gate_model : SinkModel X) (model : SinkModel K) (gate2 : X) (sink2 : K)
    (so : (groups : List (List Record)) → gate_model.holds gate2 groups → model.holds sink2 groups)
    (may_so : (left : List (List Record)) → model.may_leave sink2 left → gate_model.may_leave gate2 left) where
  counted_inner : (groups : List (List Record)) (report : Report) → HasCountedGroups gate_model.holds groups gate2 report → HasCountedGroups model.holds groups sink2 report
  counted_inner groups report is = record { more = is.more; held = so (groups ++ is.more) is.held; are = is.are }

  pub reports_inner : (groups : List (List Record)) (report : Report) (result : Result Ending Halt)
      → ReportsGroups gate_model.holds gate_model.may_leave groups result gate2 report → ReportsGroups model.holds model.may_leave groups result sink2 report
  reports_inner groups report (Ok ending) is = counted_inner groups report is
  reports_inner groups report (Err halt.Sink) is = record { more = is.more; group = is.group; left = λ found may. is.left found (may_so found may); are = is.are }
  reports_inner groups report (Err h) is = counted_inner groups report is

  tally_inner : {A : Type 0} (groups : List (List Record)) (by : Making) (after stored : Lsn) (such : A → Message → Type 0) (read : List A) (commits : ℕ) (result : Result Ending Halt)
      → Tallies gate_model.holds groups gate2 by after stored such read commits result → Tallies model.holds groups sink2 by after stored such read commits result
  tally_inner groups by after stored such read commits result is = record {
    newest = is.newest;
    few = is.few;
    earlier = is.earlier;
    parted = is.parted;
    messages = is.messages;
    spelled = is.spelled;
    followed = is.followed;
    upto = is.upto;
    records = is.records;
    sent = is.sent;
    part = is.part;
    part_is = is.part_is;
    held = so (groups ++ (cut is.records ++ cut is.part)) is.held;
  }

  pub told_inner : (groups : List (List Record)) (config : Config) (now : ℤ) (old new : Option Offset) (report : Report) (told : Option Trace) (result : Result Ending Halt)
      → IsTallied gate_model.holds groups config now old new report told gate2 result → IsTallied model.holds groups config now old new report told sink2 result
  told_inner groups config now old new report told result (inl none) = inl (none.0, none.1, so groups none.2)
  told_inner groups config now old new report told result (inr is) = inr (is.0, tally_inner groups _ is.0.after is.0.stored.offset.lsn Spells is.0.read report.commits result is.1)

  pub stood_inner : (groups : List (List Record)) (config : Config) (now : ℤ) (old new : Option Offset) (report : Report) (t : SourceState) (result : Result Ending Halt)
      → IsTalliedAfter gate_model.holds groups config now old new report t gate2 result → IsTalliedAfter model.holds groups config now old new report t sink2 result
  stood_inner groups config now old new report t result (inl none) = inl (none.0, none.1, so groups none.2)
  stood_inner groups config now old new report t result (inr is) = inr (record {
    stored = is.stored;
    reading = is.reading;
    reading_is = is.reading_is;
    begins_after = is.begins_after;
    many = is.many;
    tallies = tally_inner groups _ is.reading.after is.stored.offset.lsn (λ m n. m ≡ n) is.reading.messages report.commits result is.tallies;
  })

  pub tallies_inner : {S D : Type 0} (source_model : SourceModel S) (config : Config) (now : ℤ) (src src2 : S) (gate : X) (sink : K) (store store2 : StoreOn D) (report : Report)
      (result : Result Ending Halt) → ((groups : List (List Record)) → model.holds sink groups → gate_model.holds gate groups)
      → TalliesRecords source_model gate_model config now src src2 gate gate2 store store2 report result
      → TalliesRecords source_model model config now src src2 sink sink2 store store2 report result
  tallies_inner source_model config now src src2 gate sink store store2 report result back is = record {
    counted = λ groups held. reports_inner groups report result (is.counted groups (back groups held));
    tallied = λ groups held other. told_inner groups config now store.offset store2.offset report (source_model.told src2) result (is.tallied groups (back groups held) other);
    tallied_stood = λ groups held other s t found leaves. stood_inner groups config now store.offset store2.offset report t result (is.tallied_stood groups (back groups held) other s t found leaves);
    passed = λ groups held failed s t found leaves left may. is.passed groups (back groups held) failed s t found leaves left (may_so left may);
  }

-- ---- the inner sink itself

live_of : (live : Bool) (refused : Option (ℕ × ℕ)) → live && is_none refused ≡ true → live ≡ true
live_of true refused is = refl
live_of false refused is = absurd cc

live_inner : {K : Type 0} (model : SinkModel K) (sink2 : K) (refused2 : Option (ℕ × ℕ)) (result : Result Ending Halt) → OnOk result (IsTrue (is_open model sink2 refused2))
    → OnOk result (IsTrue (model.is_live sink2))
live_inner model sink2 refused2 (Ok ending) live = live_of (model.is_live sink2) refused2 live
live_inner model sink2 refused2 (Err h) live = tt

some_none : (place : ℕ × ℕ) → ◌≡◌ {A = Option (ℕ × ℕ)} (Some place) None → ⊥
some_none place is = cc

-- the count of the inner sink rose if none was refused
rose_inner : (before after : ℕ) (refused refused2 : Option (ℕ × ℕ)) → refused ≡ None → refused2 ≡ None → (failed : Type 0)
    → FailsOnlyIfCounted failed (before + refusals refused) (after + refusals refused2) → failed → FaultCounted before after
rose_inner before after None None was is failed cause because = omega (arith, cause.cause because)
rose_inner before after (Some place) refused2 was is failed cause because = absurd (some_none place was)
rose_inner before after None (Some place) was is failed cause because = absurd (some_none place is)

pub keeps_inner : {K : Type 0} (model : SinkModel K) (sink sink2 : K) (refused refused2 : Option (ℕ × ℕ)) (result : Result Ending Halt) → refused ≡ None
    → OnOk result (IsTrue (is_open model sink2 refused2)) → model.comes_of sink sink2 → model.faults sink ≤ model.faults sink2
    → FailsOnlyIfCounted (result ≡ Err halt.Sink) (faults_with model sink refused) (faults_with model sink2 refused2)
    → KeepsInner model sink sink2 refused2 result halt.Sink
keeps_inner model sink sink2 refused refused2 result was live comes later cause = record {
  live = live_inner model sink2 refused2 result live;
  comes = comes;
  cause = record { later = later; cause = λ because. rose_inner (model.faults sink) (model.faults sink2) refused refused2 was because.1 (result ≡ Err halt.Sink) cause because.0 };
}
