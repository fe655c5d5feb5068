-- What an append through a gate keeps.
use Rattle.std.proofs.Common.{◌≡◌, ◌∙◌, ℕ, zero, suc, Bool, true, false, Option, Some, None, List, [], ◌∷◌, ◌++◌, Ok, Err, Result}
use Rattle.std.proofs.Common.{append-nil, take, length, get_or, ◌<◌, ◌-◌, ◌^◌, leb-false, leb-true, refl, sym, ap, subst, inl, inr, arith}
use Rattle.std.specs.Prelude.{◌≢◌, ◌≤◌, ◌&&◌, is_none, IsTrue, OnOk, OnErr}
use Rattle.dbl_base.specs.Streams.{FailsOnlyIfCounted}
use Rattle.dbl_record.specs.declared.record.Record.{Record}
use Rattle.dbl_topic.specs.Model.{SinkModel}
use Rattle.dbl_topic.specs.Sinks.{IsLeftByPut}
use Rattle.dbl_topic.specs.declared.error.SinkError.{SinkError}
use Rattle.dbl_topic.specs.declared.error.SinkError.TheVariants.{Failed, TooLong, Memory}
use Rattle.dbl_hooks_gate.specs.declared.rule.Rule.{Rule}
use Rattle.dbl_hooks_gate.specs.declared.rule.Rule.TheVariants.{MaxValue}
use Rattle.dbl_hooks_gate.specs.Rules.{AreAllowed, is_allowed, is_at_most}
use Rattle.dbl_hooks_gate.specs.Gates.{AddsAllowed, Appends, ExtendsGated, HoldsUnrefused, FailsGated, IsFirstRefused, Refuses, groups_with, is_open}
use Rattle.dbl_hooks_gate.proofs.Fronts.{IsRefusedAt, item_at}

-- ---- a gate that is open

unrefused : (live : Bool) (refused : Option (ℕ × ℕ)) → live && is_none refused ≡ true → refused ≡ None
unrefused true None is = refl
unrefused true (Some place) is = absurd cc
unrefused false refused is = absurd cc

shut : {A : Type 0} (b : Bool) → b ≡ true → b ≡ false → A
shut true is other = absurd cc
shut false is other = absurd cc

refused_shut : {A : Type 0} (live : Bool) (place : ℕ × ℕ) → live && is_none (Some place) ≡ true → A
refused_shut true place is = absurd cc
refused_shut false place is = absurd cc

live_of : (live : Bool) (refused : Option (ℕ × ℕ)) → live && is_none refused ≡ true → live ≡ true
live_of true refused is = refl
live_of false refused is = absurd cc

none_some : {A : Type 0} (refused : Option (ℕ × ℕ)) (place : ℕ × ℕ) → refused ≡ None → refused ≡ Some place → A
none_some None place none some = absurd cc
none_some (Some other) place none some = absurd cc

inside : ℕ × ℕ → Option (ℕ × ℕ) → ℕ × ℕ
inside place None = place
inside place (Some other) = other

place_in : (place other : ℕ × ℕ) → Some place ≡ Some other → place ≡ other
unfolding inside
place_in place other is = ap (inside place) is

-- ---- records before others

allowed_first : (rule : Rule) (n : ℕ) (items : List Record) → AreAllowed rule items → AreAllowed rule (take n items)
allowed_first rule zero items all = tt
allowed_first rule (suc n) [] all = tt
allowed_first rule (suc n) (item ∷ items) all = (all.0, allowed_first rule n items all.1)

left_allowed : (rule : Rule) (items : List Record) (groups left : List (List Record)) → AreAllowed rule items → IsLeftByPut groups items left
    → AddsAllowed rule groups left
left_allowed rule items groups left all (inl same) = record { more = []; is = same ∙ sym (append-nil groups); allowed = tt }
left_allowed rule items groups left all (inr some) =
    record { more = take some.0 items ∷ []; is = some.3; allowed = (allowed_first rule some.0 items all, tt) }

with_allowed : (rule : Rule) (items : List Record) (groups : List (List Record)) → AreAllowed rule items → AddsAllowed rule groups (groups_with groups items)
with_allowed rule [] groups all = record { more = []; is = sym (append-nil groups); allowed = tt }
with_allowed rule (item ∷ items) groups all = record { more = (item ∷ items) ∷ []; is = refl; allowed = (all, tt) }

module _ {K : Type 0} (model : SinkModel K) (sink sink2 : K) (refused : Option (ℕ × ℕ)) (rule : Rule) (items : List Record) (result : Result (Unit {0}) SinkError)
    (live : is_open model sink refused ≡ true) (all : AreAllowed rule items) (a : Appends model sink sink2 items result) where
  opened_after : (r : Result (Unit {0}) SinkError) → result ≡ r → (groups : List (List Record)) → HoldsUnrefused model sink refused groups → is_open model sink2 refused ≡ true
      → (now : List (List Record)) × model.holds sink2 now × AddsAllowed rule groups now
  opened_after (Ok x) is groups held shown =
      (groups_with groups items, subst (λ (r : Result (Unit {0}) SinkError). OnOk r (model.holds sink2 (groups_with groups items))) is (a.added groups held.0), with_allowed rule items groups all)
  opened_after (Err Failed) is groups held shown = shut (model.is_live sink2) (live_of (model.is_live sink2) refused shown) (a.dead is)
  opened_after (Err Memory) is groups held shown = (
    groups,
    (subst (λ (r : Result (Unit {0}) SinkError). OnErr r (result ≢ Err Failed → model.holds sink2 groups)) is (a.kept groups held.0)) (λ failed. (let wrong : Err Memory ≡ Err Failed = sym is ∙ failed in cc)),
    record { more = []; is = sym (append-nil groups); allowed = tt },
  )
  opened_after (Err (TooLong len)) is groups held shown = (
    groups,
    (subst (λ (r : Result (Unit {0}) SinkError). OnErr r (result ≢ Err Failed → model.holds sink2 groups)) is (a.kept groups held.0)) (λ failed. (let wrong : Err (TooLong len) ≡ Err Failed = sym is ∙ failed in cc)),
    record { more = []; is = sym (append-nil groups); allowed = tt },
  )

  -- nothing was refused
  pub passes_on : ExtendsGated model sink refused rule sink2 refused rule
  passes_on = record {
    comes = a.comes;
    later = a.cause.later;
    same_rule = refl;
    stays = λ place is. is;
    closed = λ closed. shut (is_open model sink refused) live closed;
    adds = λ groups left held may. left_allowed rule items groups left all (a.left groups left held.0 may);
    opened = opened_after result refl;
    first = λ place none some. none_some refused place none some;
  }

  -- a record after these was refused
  pub refuses_on : (place : ℕ × ℕ) (group : List Record) → IsFirstRefused rule group place → ExtendsGated model sink refused rule sink2 (Some place) rule
  refuses_on place group first = record {
    comes = a.comes;
    later = a.cause.later;
    same_rule = refl;
    stays = λ other is. none_some refused other (unrefused (model.is_live sink) refused live) is;
    closed = λ closed. shut (is_open model sink refused) live closed;
    adds = λ groups left held may. left_allowed rule items groups left all (a.left groups left held.0 may);
    opened = λ groups held shown. refused_shut (model.is_live sink2) place shown;
    first = λ other none some. (group, subst (λ (p : ℕ × ℕ). IsFirstRefused rule group p) (place_in place other some) first);
  }

-- ---- an append of a whole group

-- What an append of some records says of a sink.
pub record Puts {K : Type 0} (model : SinkModel K) (sink sink2 : K) (items : List Record) (result : Result (Unit {0}) SinkError) : Type 0 where
  pub added : (groups : List (List Record)) → model.holds sink groups → OnOk result (model.holds sink2 (groups ++ items ∷ []))
  pub kept : (groups : List (List Record)) → model.holds sink groups → OnErr result (result ≢ Err Failed → model.holds sink2 groups)
  pub left : (groups left : List (List Record)) → model.holds sink groups → model.may_leave sink2 left → IsLeftByPut groups items left
  pub whole : (groups : List (List Record)) → model.holds sink groups → model.leaves_groups sink2
  pub some : (groups : List (List Record)) → model.holds sink groups → (left : List (List Record)) × model.may_leave sink2 left
  pub comes : model.comes_of sink sink2
  pub live : result ≢ Err Failed → IsTrue (model.is_live sink2)
  pub dead : result ≡ Err Failed → model.is_live sink2 ≡ false
  pub cause : FailsOnlyIfCounted (result ≡ Err Failed) (model.faults sink) (model.faults sink2)
  pub fails : result ≡ Err Failed → model.fails_at sink2 items

with_all : (items : List Record) (groups : List (List Record)) → 1 ≤ length items → groups ++ items ∷ [] ≡ groups_with groups items
with_all [] groups some = absurd (omega (arith, some))
with_all (item ∷ items) groups some = refl

pub appends_all : {K : Type 0} (model : SinkModel K) (sink sink2 : K) (items : List Record) (result : Result (Unit {0}) SinkError) → 1 ≤ length items
    → Puts model sink sink2 items result → Appends model sink sink2 items result
appends_all model sink sink2 items result some p = record {
  added = λ groups held. subst (λ (now : List (List Record)). OnOk result (model.holds sink2 now)) (with_all items groups some) (p.added groups held);
  kept = p.kept;
  left = p.left;
  whole = p.whole;
  some = p.some;
  comes = p.comes;
  live = p.live;
  dead = p.dead;
  cause = p.cause;
  fails = p.fails;
}

-- a failure of the inner sink on first records of the group, before which none was refused
pub fails_inner : {K : Type 0} (model : SinkModel K) (sink sink2 : K) (refused : Option (ℕ × ℕ)) (rule : Rule) (group : List Record) (count : ℕ)
    → is_open model sink refused ≡ true → model.fails_at sink2 (take count group) → FailsGated model sink2 refused rule group
fails_inner model sink sink2 None rule group count live fails = (count, fails)
fails_inner model sink sink2 (Some place) rule group count live fails = refused_shut (model.is_live sink) place live

pub on_any : {T E A : Type 0} (r : Result T E) → A → OnOk r A
on_any (Ok x) a = a
on_any (Err e) a = tt

-- ---- the record that is refused

pub first_at : (rule : Rule) (group : List Record) (n : ℕ) (found : Record) → IsRefusedAt rule group n → found ≡ get_or group n found
    → is_at_most (2 ^ 64 - 1) found.value ≡ true → (place : ℕ × ℕ) → place ≡ (found.position, found.ordinal) → IsFirstRefused rule group place
first_at rule group n found at is storable place place_is = record {
  before = take n group;
  item = at.item;
  after = at.after;
  parted = at.parted;
  allowed = at.allowed;
  refused = at.refused;
  storable = subst (λ (item : Record). is_at_most (2 ^ 64 - 1) item.value ≡ true) (item_at rule group n found at is) storable;
  place_is = place_is ∙ ap (λ (item : Record). (item.position, item.ordinal)) (item_at rule group n found at is);
}

-- a rule of the greatest number refuses nothing
pub bound_by : (rule : Rule) (group : List Record) (place : ℕ × ℕ) → IsFirstRefused rule group place → (most : ℕ) → rule ≡ MaxValue most → most < 2 ^ 64 - 1
bound_by rule group place first most is = longer first.item.value (subst (λ (r : Rule). is_allowed r first.item ≡ false) is first.refused) first.storable
  where
    longer : (value : Option (List ℕ)) → is_at_most most value ≡ false → is_at_most (2 ^ 64 - 1) value ≡ true → most < 2 ^ 64 - 1
    longer None not_most most_is = absurd cc
    longer (Some text) not_most most_is = omega (arith, leb-false (length text) most not_most, leb-true (length text) (2 ^ 64 - 1) most_is)

pub refuses_at : {K : Type 0} (model : SinkModel K) (sink sink2 : K) (rule : Rule) (group : List Record) (n : ℕ) (result : Result (Unit {0}) SinkError) (x : Unit {0})
    → (found : Record) → IsRefusedAt rule group n → found ≡ get_or group n found → is_at_most (2 ^ 64 - 1) found.value ≡ true
    → Appends model sink sink2 (take n group) result → result ≡ Ok x → (given : ℕ × ℕ) → given ≡ (found.position, found.ordinal)
    → (place : ℕ × ℕ) → Some given ≡ Some place → Refuses model rule sink sink2 group place
unfolding first_at
refuses_at model sink sink2 rule group n result x found at is storable a ok given given_is place same = record {
  first = first_at rule group n found at is storable place (sym (place_in given place same) ∙ given_is);
  appended = λ groups held. subst (λ (r : Result (Unit {0}) SinkError). OnOk r (model.holds sink2 (groups_with groups (take n group)))) ok (a.added groups held);
}
