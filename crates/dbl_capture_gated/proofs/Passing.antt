-- A session over a gate: what it appended is allowed.
use Rattle.std.proofs.Common.{◌≡◌, ◌∙◌, ℕ, ℤ, Bool, true, false, Option, Some, None, List, [], ◌∷◌, ◌++◌, Ok, Err, Result, refl, sym, ap, subst}
use Rattle.std.proofs.Common.{inl, inr}
use Rattle.std.specs.Prelude.{◌⊎◌, ◌&&◌, is_none, IsErr, OnOk}
use Rattle.std.specs.List.{AllByRecursion, AllZip}
use Rattle.dbl_record.specs.declared.record.Record.{Record}
use Rattle.dbl_record.specs.Cuts.{cut, joined}
use Rattle.dbl_record.proofs.CutLaws.{cuts_join}
use Rattle.dbl_topic.specs.Model.{SinkModel}
use Rattle.dbl_hooks_gate.specs.declared.rule.Rule.{Rule}
use Rattle.dbl_hooks_gate.specs.Rules.{AreAllowed}
use Rattle.dbl_hooks_gate.specs.Gates.{AddsAllowed, is_open}
use Rattle.dbl_model_table.specs.declared.change.Commit.{Commit}
use Rattle.dbl_model_table.specs.declared.config.Config.{Config}
use Rattle.dbl_pgmsg.specs.declared.messages.Message.{Message}
use Rattle.dbl_capture.specs.CaptureWork.ModelCommit.Stated.{commits_of}
use Rattle.dbl_capture.specs.CaptureWork.SourceModel.Standings.{SourceState}
use Rattle.dbl_capture.specs.CaptureWork.declared.halt.Halt.{Halt}
use Rattle.dbl_capture.specs.CaptureWork.declared.halt.Halt.TheVariants as halt
use Rattle.dbl_capture.specs.CaptureWork.declared.report.Ending.{Ending}
use Rattle.dbl_capture.specs.CaptureWork.declared.report.Report.{Report}
use Rattle.dbl_capture.specs.CaptureLaws.Gained.{AreSent, Making, making_of}
use Rattle.dbl_capture.specs.CaptureLaws.Tallied.{HasPassed, HasTallied, IsTalliedAfter}
use Rattle.dbl_capture.specs.SessionEnds.{TalliesRecords}
use Rattle.dbl_source.specs.Model.{SourceModel}
use Rattle.dbl_offset.specs.Stores.{StoreOn}
use Rattle.dbl_capture_gated.specs.Passed.{AreAllowedOf, PassesAllowed}

-- ---- a gate that is open

pub unrefused : (live : Bool) (refused : Option (ℕ × ℕ)) → live && is_none refused ≡ true → refused ≡ None
unrefused true None is = refl
unrefused true (Some place) is = absurd cc
unrefused false refused is = absurd cc

-- ---- parts of what is allowed

groups_after : List (List Record) → List (List Record)
groups_after [] = []
groups_after (group ∷ groups) = groups

pub same_after : (groups xs ys : List (List Record)) → groups ++ xs ≡ groups ++ ys → xs ≡ ys
unfolding groups_after
same_after [] xs ys is = is
same_after (group ∷ groups) xs ys is = same_after groups xs ys (ap groups_after is)

pub first_groups : (rule : Rule) (xs ys : List (List Record)) → AllByRecursion (AreAllowed rule) (xs ++ ys) → AllByRecursion (AreAllowed rule) xs
first_groups rule [] ys all = tt
first_groups rule (x ∷ xs) ys all = (all.0, first_groups rule xs ys all.1)

pub both_allowed : (rule : Rule) (xs ys : List Record) → AreAllowed rule xs → AreAllowed rule ys → AreAllowed rule (xs ++ ys)
both_allowed rule [] ys a b = b
both_allowed rule (x ∷ xs) ys a b = (a.0, both_allowed rule xs ys a.1 b)

first_allowed : (rule : Rule) (xs ys : List Record) → AreAllowed rule (xs ++ ys) → AreAllowed rule xs
first_allowed rule [] ys all = tt
first_allowed rule (x ∷ xs) ys all = (all.0, first_allowed rule xs ys all.1)

last_allowed : (rule : Rule) (xs ys : List Record) → AreAllowed rule (xs ++ ys) → AreAllowed rule ys
last_allowed rule [] ys all = all
last_allowed rule (x ∷ xs) ys all = last_allowed rule xs ys all.1

pub joined_allowed : (rule : Rule) (groups : List (List Record)) → AllByRecursion (AreAllowed rule) groups → AreAllowed rule (joined groups)
joined_allowed rule [] all = tt
joined_allowed rule (group ∷ groups) all = both_allowed rule group (joined groups) all.0 (joined_allowed rule groups all.1)

each_allowed : (rule : Rule) (parts : List (List Record)) → AreAllowed rule (joined parts) → AllByRecursion (AreAllowed rule) parts
each_allowed rule [] all = tt
each_allowed rule (part ∷ parts) all = (first_allowed rule part (joined parts) all, each_allowed rule parts (last_allowed rule part (joined parts) all))

-- the records of these commits are allowed if the groups in which they were appended are among allowed ones
pub sent_allowed : (by : Making) (rule : Rule) (low : ℕ) (commits : List Commit) (records : List Record) (groups left more : List (List Record))
    → AreSent by low commits records → AddsAllowed rule groups left → left ≡ groups ++ (cut records ++ more) → AreAllowedOf by rule commits
sent_allowed by rule low commits records groups left more sent adds is =
    let same : adds.more ≡ cut records ++ more = same_after groups adds.more (cut records ++ more) (sym adds.is ∙ is) in
    let cuts : AllByRecursion (AreAllowed rule) (cut records) = first_groups rule (cut records) more (subst (AllByRecursion (AreAllowed rule)) same adds.allowed) in
    let all : AreAllowed rule (joined sent.parts) =
    subst (AreAllowed rule) sent.whole (subst (AreAllowed rule) (cuts_join records) (joined_allowed rule (cut records) cuts)) in
    record { parts = sent.parts; sent = sent.each; allowed = each_allowed rule sent.parts all }

-- ---- messages that are the ones that were read

same_list : (xs ys : List Message) → AllZip (λ m n. m ≡ n) xs ys → xs ≡ ys
same_list [] [] all = refl
same_list [] (y ∷ ys) all = absurd all
same_list (x ∷ xs) [] all = absurd all
same_list (x ∷ xs) (y ∷ ys) all = ap (λ (m : Message). m ∷ xs) all.0 ∙ ap (λ (ms : List Message). y ∷ ms) (same_list xs ys all.1)

-- ---- why a session ended

halted_sink : (h : Halt) → (h ≡ halt.Sink) ⊎ (h ≡ halt.Sink → ⊥)
halted_sink halt.Sink = inl refl
halted_sink h = inr (λ is. cc)

halt_in : Result Ending Halt → Halt
halt_in (Ok ending) = halt.Memory
halt_in (Err h) = h

halt_is : (h g : Halt) → ◌≡◌ {A = Result Ending Halt} (Err h) (Err g) → h ≡ g
unfolding halt_in
halt_is h g is = ap halt_in is

pub sink_failed : (result : Result Ending Halt) → (result ≡ Err halt.Sink) ⊎ (result ≡ Err halt.Sink → ⊥)
sink_failed (Ok ending) = inr (λ is. cc)
sink_failed (Err h) = elim (halted_sink h) [
  | inl is ↦ inl (ap (λ (x : Halt). Err x) is)
  | inr other ↦ inr (λ is. other (halt_is h halt.Sink is))
]

-- a session that ended normally refused no record
pub stopped_by : {K : Type 0} (model : SinkModel K) (sink : K) (refused : Option (ℕ × ℕ)) (result : Result Ending Halt) (place : ℕ × ℕ)
    → OnOk result (is_open model sink refused ≡ true) → refused ≡ Some place → IsErr result
stopped_by model sink refused (Ok ending) place live some =
    let none : None ≡ Some place = sym (unrefused (model.is_live sink) refused live) ∙ some in absurd cc
stopped_by model sink refused (Err h) place live some = refl

-- ---- the commits that the stored offset passed

module _ {S X D : Type 0} (source_model : SourceModel S) (gate_model : SinkModel X) (config : Config) (now : ℤ) (rule : Rule) (src src2 : S) (gate gate2 : X)
    (store store2 : StoreOn D) (report : Report) (result : Result Ending Halt)
    (adds : (groups left : List (List Record)) → gate_model.holds gate groups → gate_model.may_leave gate2 left → AddsAllowed rule groups left)
    (may : (groups : List (List Record)) → gate_model.holds gate2 groups → gate_model.may_leave gate2 groups) where
  passed_by : (groups left : List (List Record)) (t : SourceState) → gate_model.holds gate groups → gate_model.may_leave gate2 left
      → HasPassed groups left config now store.offset store2.offset t → PassesAllowed config now rule store.offset store2.offset t
  passed_by groups left t held may_left p = record {
    stored = p.stored;
    reading = p.reading;
    reading_is = p.reading_is;
    begins_after = p.begins_after;
    newest = p.passes.newest;
    earlier = p.passes.messages;
    parted = p.passes.parted ∙ ap (λ (ms : List Message). p.passes.newest ++ ms) (same_list p.passes.earlier p.passes.messages p.passes.spelled);
    upto = p.passes.upto;
    allowed = sent_allowed (making_of p.stored.offset now config.chunk) rule p.reading.after.0 (commits_of p.stored.offset.infos p.passes.messages)
        p.passes.records groups left p.passes.more p.passes.sent (adds groups left held may_left) p.passes.left_is;
  }

  tallied_by : (groups : List (List Record)) (t : SourceState) → gate_model.holds gate groups
      → HasTallied gate_model.holds groups config now store.offset store2.offset report t gate2 result → PassesAllowed config now rule store.offset store2.offset t
  tallied_by groups t held p =
      let left : List (List Record) = groups ++ (cut p.tallies.records ++ cut p.tallies.part) in
      record {
        stored = p.stored;
        reading = p.reading;
        reading_is = p.reading_is;
        begins_after = p.begins_after;
        newest = p.tallies.newest;
        earlier = p.tallies.messages;
        parted = p.tallies.parted ∙ ap (λ (ms : List Message). p.tallies.newest ++ ms) (same_list p.tallies.earlier p.tallies.messages p.tallies.spelled);
        upto = p.tallies.upto;
        allowed = sent_allowed (making_of p.stored.offset now config.chunk) rule p.reading.after.0 (commits_of p.stored.offset.infos p.tallies.messages)
            p.tallies.records groups left (cut p.tallies.part) p.tallies.sent (adds groups left held (may left p.tallies.held)) refl;
      }

  pub passes : TalliesRecords source_model gate_model config now src src2 gate gate2 store store2 report result → (groups left : List (List Record)) → gate_model.holds gate groups
      → gate_model.may_leave gate2 left → (s t : SourceState) → source_model.stands src s → source_model.stands src2 t
      → (report.messages ≡ 0) ⊎ PassesAllowed config now rule store.offset store2.offset t
  passes tallies groups left held may_left s t found leaves = by (sink_failed result)
    where
      tallied_so : IsTalliedAfter gate_model.holds groups config now store.offset store2.offset report t gate2 result → (report.messages ≡ 0) ⊎ PassesAllowed config now rule store.offset store2.offset t
      tallied_so (inl nothing) = inl nothing.0
      tallied_so (inr is) = inr (tallied_by groups t held is)

      by : (result ≡ Err halt.Sink) ⊎ (result ≡ Err halt.Sink → ⊥) → (report.messages ≡ 0) ⊎ PassesAllowed config now rule store.offset store2.offset t
      by (inl failed) = inr (passed_by groups left t held may_left (tallies.passed groups held failed s t found leaves left may_left))
      by (inr other) = tallied_so (tallies.tallied_stood groups held other s t found leaves)
