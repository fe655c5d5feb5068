-- What the trait of sinks requires of a gate: it extends itself, and extension is transitive.
use Rattle.std.proofs.Common.{◌≡◌, ◌∙◌, ℕ, Bool, true, false, Option, Some, None, List, []}
use Rattle.std.proofs.Common.{◌∷◌, ◌++◌, refl, sym, ap, subst, append_assoc, append-nil, arith}
use Rattle.std.specs.Prelude.{◌&&◌, is_none}
use Rattle.std.specs.List.{AllByRecursion}
use Rattle.dbl_record.specs.declared.record.Record.{Record}
use Rattle.dbl_topic.specs.Model.{SinkModel}
use Rattle.dbl_hooks_gate.specs.declared.rule.Rule.{Rule}
use Rattle.dbl_hooks_gate.specs.Rules.{AreAllowed}
use Rattle.dbl_hooks_gate.specs.Gates.{AddsAllowed, ExtendsGated, HoldsUnrefused, IsFirstRefused, is_open}

-- ---- groups after groups

all_append : (rule : Rule) (xs ys : List (List Record)) → AllByRecursion (AreAllowed rule) xs → AllByRecursion (AreAllowed rule) ys
    → AllByRecursion (AreAllowed rule) (xs ++ ys)
all_append rule [] ys a b = b
all_append rule (x ∷ xs) ys a b = (a.0, all_append rule xs ys a.1 b)

adds_more : (rule : Rule) (groups now left : List (List Record)) → AddsAllowed rule groups now → AddsAllowed rule now left
    → AddsAllowed rule groups left
adds_more rule groups now left a b = record {
  more = a.more ++ b.more;
  is = b.is ∙ (ap (λ (gs : List (List Record)). gs ++ b.more) a.is ∙ append_assoc groups a.more b.more);
  allowed = all_append rule a.more b.more a.allowed b.allowed;
}

adds_none : (rule : Rule) (groups left : List (List Record)) → left ≡ groups → AddsAllowed rule groups left
adds_none rule groups left same = record { more = []; is = same ∙ sym (append-nil groups); allowed = tt }

-- ---- whether a gate is open

unrefused : (live : Bool) (refused : Option (ℕ × ℕ)) → live && is_none refused ≡ true → refused ≡ None
unrefused true None is = refl
unrefused true (Some place) is = cc
unrefused false refused is = cc

not_both : (b : Bool) → b ≡ true → b ≡ false → {A : Type 0} → A
not_both true is other = cc
not_both false is other = cc

-- ---- the properties

module _ {K : Type 0} (model : SinkModel K)
    (only : (sink : K) (groups left : List (List Record)) → model.holds sink groups → model.may_leave sink left → left ≡ groups) where
  pub gate_self : (comes_self : (sink : K) → model.comes_of sink sink) (sink : K) (refused : Option (ℕ × ℕ)) (rule : Rule)
      → ExtendsGated model sink refused rule sink refused rule
  gate_self comes_self sink refused rule = record {
    comes = comes_self sink;
    later = omega arith;
    same_rule = refl;
    stays = λ place is. is;
    closed = λ shut. (shut, λ left may. may);
    adds = λ groups left held may. adds_none rule groups left (only sink groups left held.0 may);
    opened = λ groups held shown. (groups, held.0, adds_none rule groups groups refl);
    first = λ place none some. cc;
  }

  module _ (comes_on : (first second third : K) → model.comes_of first second → model.comes_of second third → model.comes_of first third)
      (a : K) (ra : Option (ℕ × ℕ)) (ma : Rule) (b : K) (rb : Option (ℕ × ℕ)) (mb : Rule) (c : K) (rc : Option (ℕ × ℕ)) (mc : Rule)
      (ab : ExtendsGated model a ra ma b rb mb) (bc : ExtendsGated model b rb mb c rc mc) where
    by_rule : (groups left : List (List Record)) → AddsAllowed mb groups left → AddsAllowed ma groups left
    by_rule groups left adds = subst (λ (rule : Rule). AddsAllowed rule groups left) ab.same_rule adds

    adds_through : (groups left : List (List Record)) → HoldsUnrefused model a ra groups → model.may_leave c left → (usable : Bool)
        → is_open model b rb ≡ usable
        → AddsAllowed ma groups left
    adds_through groups left held may true is =
        let now = ab.opened groups held is in
        adds_more ma groups now.0 left now.2 (by_rule now.0 left (bc.adds now.0 left (now.1, unrefused (model.is_live b) rb is) may))
    adds_through groups left held may false is = ab.adds groups left held ((bc.closed is).1 left may)

    opened_through : (groups : List (List Record)) → HoldsUnrefused model a ra groups → is_open model c rc ≡ true → (usable : Bool)
        → is_open model b rb ≡ usable
        → (now : List (List Record)) × model.holds c now × AddsAllowed ma groups now
    opened_through groups held shown true is =
        let now = ab.opened groups held is in
        let later = bc.opened now.0 (now.1, unrefused (model.is_live b) rb is) shown in
        (later.0, later.1, adds_more ma groups now.0 later.0 now.2 (by_rule now.0 later.0 later.2))
    opened_through groups held shown false is = not_both (is_open model c rc) shown ((bc.closed is).0)

    first_through : (place : ℕ × ℕ) → ra ≡ None → rc ≡ Some place → (found : Option (ℕ × ℕ)) → rb ≡ found
        → (group : List Record) × IsFirstRefused ma group place
    first_through place none some None is =
        let group = bc.first place is some in
        (group.0, subst (λ (rule : Rule). IsFirstRefused rule group.0 place) ab.same_rule group.1)
    first_through place none some (Some other) is =
        let same : Some other ≡ Some place = sym (bc.stays other is) ∙ some in
        ab.first place none (is ∙ same)

    pub gate_on : ExtendsGated model a ra ma c rc mc
    gate_on = record {
      comes = comes_on a b c ab.comes bc.comes;
      later = omega (arith, ab.later, bc.later);
      same_rule = bc.same_rule ∙ ab.same_rule;
      stays = λ place is. bc.stays place (ab.stays place is);
      closed = λ shut. ((bc.closed (ab.closed shut).0).0, λ left may. (ab.closed shut).1 left ((bc.closed (ab.closed shut).0).1 left may));
      adds = λ groups left held may. adds_through groups left held may (is_open model b rb) refl;
      opened = λ groups held shown. opened_through groups held shown (is_open model b rb) refl;
      first = λ place none some. first_through place none some rb refl;
    }
