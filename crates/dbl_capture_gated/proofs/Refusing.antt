-- The record that a gate refused, among those that came next.
use Rattle.std.proofs.Common.{◌≡◌, ◌∙◌, ℕ, ℤ, Option, Some, None, List, [], ◌∷◌, ◌++◌, Err, Result, sym, ap, subst, inl, inr, take, append_assoc, append-nil}
use Rattle.std.specs.Prelude.{◌⊎◌}
use Rattle.std.specs.List.{AllByRecursion}
use Rattle.std.proofs.lemmas.List.Concat.{flat_map-append}
use Rattle.dbl_record.specs.declared.record.Record.{Record}
use Rattle.dbl_record.specs.Cuts.{cut, joined}
use Rattle.dbl_record.proofs.CutLaws.{cuts_join}
use Rattle.dbl_topic.specs.Model.{SinkModel}
use Rattle.dbl_topic.specs.Sinks.{IsLeftByPut}
use Rattle.dbl_hooks_gate.specs.declared.rule.Rule.{Rule}
use Rattle.dbl_hooks_gate.specs.Rules.{AreAllowed}
use Rattle.dbl_hooks_gate.specs.Gates.{AddsAllowed, FailsGated, IsFirstRefused}
use Rattle.dbl_model_table.specs.declared.config.Config.{Config}
use Rattle.dbl_capture.specs.CaptureWork.ModelCommit.Stated.{commits_of}
use Rattle.dbl_capture.specs.CaptureWork.SourceModel.Standings.{HasState, SourceState}
use Rattle.dbl_capture.specs.CaptureWork.declared.halt.Halt.{Halt}
use Rattle.dbl_capture.specs.CaptureWork.declared.halt.Halt.TheVariants as halt
use Rattle.dbl_capture.specs.CaptureWork.declared.report.Ending.{Ending}
use Rattle.dbl_capture.specs.CaptureWork.declared.report.Report.{Report}
use Rattle.dbl_capture.specs.CaptureLaws.Failing.{FailsNext}
use Rattle.dbl_capture.specs.CaptureLaws.Gained.{making_of}
use Rattle.dbl_capture.specs.CaptureLaws.Tallied.{IsTallied}
use Rattle.dbl_capture.specs.SessionEnds.{TalliesRecords}
use Rattle.dbl_source.specs.Model.{SourceModel}
use Rattle.dbl_offset.specs.Stores.{StoreOn}
use Rattle.dbl_capture_gated.specs.Passed.{RefusesNext}
use Rattle.dbl_capture_gated.proofs.Passing.{both_allowed, first_groups, joined_allowed, same_after, sent_allowed, sink_failed}

last_groups : (rule : Rule) (xs ys : List (List Record)) → AllByRecursion (AreAllowed rule) (xs ++ ys) → AllByRecursion (AreAllowed rule) ys
last_groups rule [] ys all = all
last_groups rule (x ∷ xs) ys all = last_groups rule xs ys all.1

-- what was appended before the group that failed, and perhaps some of it
after_groups : (groups : List (List Record)) (records put group : List Record) (left : List (List Record)) → IsLeftByPut (groups ++ (cut records ++ cut put)) group left
    → (more : List (List Record)) × (left ≡ groups ++ (cut records ++ (cut put ++ more)))
after_groups groups records put group left (inl same) = ([], same ∙ ap (λ (l : List (List Record)). groups ++ (cut records ++ l)) (sym (append-nil (cut put))))
after_groups groups records put group left (inr some) =
    let torn : List (List Record) = take some.0 group ∷ [] in
    (torn, some.3 ∙ (append_assoc groups (cut records ++ cut put) torn ∙ ap (λ (l : List (List Record)). groups ++ l) (append_assoc (cut records) (cut put) torn)))

-- these were allowed
put_allowed : (rule : Rule) (groups left more : List (List Record)) (records put : List Record) → AddsAllowed rule groups left
    → left ≡ groups ++ (cut records ++ (cut put ++ more)) → AreAllowed rule put
put_allowed rule groups left more records put adds is =
    let same : adds.more ≡ cut records ++ (cut put ++ more) = same_after groups adds.more (cut records ++ (cut put ++ more)) (sym adds.is ∙ is) in
    let all : AllByRecursion (AreAllowed rule) (cut records ++ (cut put ++ more)) = subst (AllByRecursion (AreAllowed rule)) same adds.allowed in
    subst (AreAllowed rule) (cuts_join put) (joined_allowed rule (cut put) (first_groups rule (cut put) more (last_groups rule (cut records) (cut put ++ more) all)))

-- the first of a batch that isn't allowed is the first of all, if those before the batch are
next_first : (rule : Rule) (next put group : List Record) (later : List (List Record)) (place : ℕ × ℕ) → cut next ≡ cut put ++ group ∷ later → AreAllowed rule put
    → IsFirstRefused rule group place → IsFirstRefused rule next place
next_first rule next put group later place batches allowed first = record {
  before = put ++ first.before;
  item = first.item;
  after = first.after ++ joined later;
  parted =
      whole
      ∙ (ap (λ (l : List Record). put ++ (l ++ joined later)) first.parted
      ∙ (ap (λ (l : List Record). put ++ l) (append_assoc first.before (first.item ∷ first.after) (joined later))
      ∙ sym (append_assoc put first.before (first.item ∷ (first.after ++ joined later)))));
  allowed = both_allowed rule put first.before allowed first.allowed;
  refused = first.refused;
  storable = first.storable;
  place_is = first.place_is;
}
  where
    whole : next ≡ put ++ (group ++ joined later)
    whole =
        sym (cuts_join next)
        ∙ (ap joined batches
        ∙ (flat_map-append (λ (items : List Record). items) (cut put) (group ∷ later) ∙ ap (λ (l : List Record). l ++ (group ++ joined later)) (cuts_join put)))

-- ---- a gate

pub none_some : {A : Type 0} (refused : Option (ℕ × ℕ)) (place : ℕ × ℕ) → refused ≡ None → refused ≡ Some place → A
none_some None place none some = absurd cc
none_some (Some other) place none some = absurd cc

-- a gate that refused a record failed at it
pub first_refused : {K : Type 0} (model : SinkModel K) (sink : K) (refused : Option (ℕ × ℕ)) (rule old : Rule) (place : ℕ × ℕ) (group : List Record) → refused ≡ Some place
    → rule ≡ old → FailsGated model sink refused rule group → IsFirstRefused old group place
first_refused model sink refused rule old place group some same fails =
    subst (λ (r : Rule). IsFirstRefused r group place) same (subst (λ (o : Option (ℕ × ℕ)). FailsGated model sink o rule group) some fails)

module _ {S X D : Type 0} (source_model : SourceModel S) (gate_model : SinkModel X) (config : Config) (now : ℤ) (rule : Rule) (src src2 : S) (gate gate2 : X)
    (store store2 : StoreOn D) (report : Report) (result : Result Ending Halt) (place : ℕ × ℕ)
    (adds : (groups left : List (List Record)) → gate_model.holds gate groups → gate_model.may_leave gate2 left → AddsAllowed rule groups left)
    (shut : (groups : List (List Record)) → gate_model.holds gate2 groups → ⊥)
    (first_of : (group : List Record) → gate_model.fails_at gate2 group → IsFirstRefused rule group place) where
  refuses : (groups : List (List Record)) (t : SourceState) → gate_model.holds gate groups → FailsNext gate_model groups config now store.offset store2.offset gate2 t
      → RefusesNext config now rule store.offset store2.offset place t
  refuses groups t held f =
      let left = f.at.some.0 in
      let after = after_groups groups f.at.records f.at.put f.at.group left (f.at.left left f.at.some.1) in
      let added = adds groups left held f.at.some.1 in
      record {
        stored = f.stored;
        reading = f.reading;
        reading_is = f.reading_is;
        begins_after = f.begins_after;
        newest = f.newest;
        earlier = f.earlier;
        parted = f.parted;
        allowed = sent_allowed (making_of f.stored.offset now config.chunk) rule f.reading.after.0 (commits_of f.stored.offset.infos f.earlier) f.at.records groups left
            (cut f.at.put ++ after.0) f.at.sent added after.1;
        records = f.at.next;
        next = f.at.next_are;
        first = next_first rule f.at.next f.at.put f.at.group f.at.later place f.at.batches (put_allowed rule groups left after.0 f.at.records f.at.put added after.1)
            (first_of f.at.group f.at.fails);
      }

  pub refuses_next : TalliesRecords source_model gate_model config now src src2 gate gate2 store store2 report result
      → ((groups : List (List Record)) → gate_model.holds gate groups → result ≡ Err halt.Sink → (s : SourceState) → source_model.stands src s
      → HasState source_model.stands src2 (FailsNext gate_model groups config now store.offset store2.offset gate2))
      → (groups : List (List Record)) → gate_model.holds gate groups → (s : SourceState) → source_model.stands src s
      → HasState source_model.stands src2 (RefusesNext config now rule store.offset store2.offset place)
  refuses_next tallies fails groups held s found = by (sink_failed result)
    where
      shut_by : IsTallied gate_model.holds groups config now store.offset store2.offset report (source_model.told src2) gate2 result → ⊥
      shut_by (inl nothing) = shut groups nothing.2
      shut_by (inr is) = shut (groups ++ (cut is.1.records ++ cut is.1.part)) is.1.held

      by : (result ≡ Err halt.Sink) ⊎ (result ≡ Err halt.Sink → ⊥) → HasState source_model.stands src2 (RefusesNext config now rule store.offset store2.offset place)
      by (inl failed) =
          let next = fails groups held failed s found in
          record { standing = next.standing; is = next.is; holds = refuses groups next.standing held next.holds }
      by (inr other) = absurd (shut_by (tallies.tallied groups held other))
