-- Sinks to which a gate appends only what its rule allows. A place is the position and the ordinal of a record.
use Rattle.std.specs.Prelude.{◌≡◌, ◌≢◌, ◌≤◌, ◌&&◌, ◌+◌, ◌-◌, ◌^◌, ◌++◌, ℕ, Bool, true, false, is_none}
use Rattle.std.specs.Prelude.{IsTrue, Option, Some, None, List, [], ◌∷◌, Result, Err, OnOk, OnErr, take}
use Rattle.std.specs.List.{AllByRecursion}
use Rattle.dbl_base.specs.Streams.{FailsOnlyIfCounted}
use Rattle.dbl_record.specs.declared.record.Record.{Record}
use Rattle.dbl_topic.specs.Model.{SinkModel}
use Rattle.dbl_topic.specs.Sinks.{IsLeftByPut}
use Rattle.dbl_topic.specs.declared.error.SinkError.{SinkError}
use Rattle.dbl_topic.specs.declared.error.SinkError.TheVariants.{Failed}
use Rattle.dbl_hooks_gate.specs.declared.rule.Rule.{Rule}
use Rattle.dbl_hooks_gate.specs.Rules.{AreAllowed, is_allowed, is_at_most}

-- ---- refused records

-- The first record of the group that the rule doesn't allow is at this place, after the records `before`. Its value has fewer than 2^64
-- bytes.
pub record IsFirstRefused (rule : Rule) (group : List Record) (place : ℕ × ℕ) : Type 0 where
  pub before : List Record
  pub item : Record
  pub after : List Record
  pub parted : group ≡ before ++ item ∷ after
  pub allowed : AreAllowed rule before
  pub refused : is_allowed rule item ≡ false
  pub storable : is_at_most (2 ^ 64 - 1) item.value ≡ true
  pub place_is : place ≡ (item.position, item.ordinal)

-- The groups with these records after them, as a group of their own if there are any.
abbrev pub groups_with : List (List Record) → List Record → List (List Record)
groups_with groups [] = groups
groups_with groups (item ∷ items) = groups ++ (item ∷ items) ∷ []

-- What an append of records leaves of a sink; nothing is appended if there are none.
pub record Appends {K : Type 0} (model : SinkModel K) (sink new_sink : K) (items : List Record)
    (result : Result (Unit {0}) SinkError) : Type 0 where
  pub added : (groups : List (List Record)) → model.holds sink groups → OnOk result (model.holds new_sink (groups_with groups items))
  pub kept : (groups : List (List Record)) → model.holds sink groups → OnErr result (result ≢ Err Failed → model.holds new_sink groups)
  pub left : (groups left : List (List Record)) → model.holds sink groups → model.may_leave new_sink left → IsLeftByPut groups items left
  pub whole : (groups : List (List Record)) → model.holds sink groups → model.leaves_groups new_sink
  pub some : (groups : List (List Record)) → model.holds sink groups → (left : List (List Record)) × model.may_leave new_sink left
  pub comes : model.comes_of sink new_sink
  pub live : result ≢ Err Failed → IsTrue (model.is_live new_sink)
  pub dead : result ≡ Err Failed → model.is_live new_sink ≡ false
  pub cause : FailsOnlyIfCounted (result ≡ Err Failed) (model.faults sink) (model.faults new_sink)
  pub fails : result ≡ Err Failed → model.fails_at new_sink items

-- An append refused a record: it is the first of the group that the rule doesn't allow, and exactly the records before it were appended.
pub record Refuses {K : Type 0} (model : SinkModel K) (rule : Rule) (sink new_sink : K) (group : List Record) (place : ℕ × ℕ) : Type 0 where
  pub first : IsFirstRefused rule group place
  pub appended : (groups : List (List Record)) → model.holds sink groups → model.holds new_sink (groups_with groups first.before)

-- ---- a gate as a sink

-- The sink has these groups, and no record was refused.
abbrev pub HoldsUnrefused : {K : Type 0} → SinkModel K → K → Option (ℕ × ℕ) → List (List Record) → Type 0
HoldsUnrefused model sink refused groups = model.holds sink groups × (refused ≡ None)

-- Whether the sink is usable and no record was refused.
abbrev pub is_open : {K : Type 0} → SinkModel K → K → Option (ℕ × ℕ) → Bool
is_open model sink refused = model.is_live sink && is_none refused

-- The number of refusals.
abbrev pub refusals : Option (ℕ × ℕ) → ℕ
refusals None = 0
refusals (Some place) = 1

-- The number of faults of the sink and of refusals.
abbrev pub faults_with : {K : Type 0} → SinkModel K → K → Option (ℕ × ℕ) → ℕ
faults_with model sink refused = model.faults sink + refusals refused

-- An append of the group failed: the record that was refused is the first of the group that the rule doesn't allow; or none was, and the
-- inner sink failed on first records of the group.
abbrev pub FailsGated : {K : Type 0} → SinkModel K → K → Option (ℕ × ℕ) → Rule → List Record → Type 0
FailsGated model sink None rule group = (count : ℕ) × model.fails_at sink (take count group)
FailsGated model sink (Some place) rule group = IsFirstRefused rule group place

-- ---- what a gate lets through

-- The groups are the old ones and others after them, all of whose records the rule allows.
pub record AddsAllowed (rule : Rule) (groups left : List (List Record)) : Type 0 where
  pub more : List (List Record)
  pub is : left ≡ groups ++ more
  pub allowed : AllByRecursion (AreAllowed rule) more

-- What a gate keeps, from before any appends to after them: its rule; a refusal; and that no record was appended but those that the rule
-- allows, and none after a refusal or a failure. A record that was refused is the first of a group that the rule doesn't allow. The inner
-- sink's count of faults never falls.
pub record ExtendsGated {K : Type 0} (model : SinkModel K) (sink : K) (refused : Option (ℕ × ℕ)) (rule : Rule)
    (new_sink : K) (new_refused : Option (ℕ × ℕ)) (new_rule : Rule) : Type 0 where
  pub comes : model.comes_of sink new_sink
  pub later : model.faults sink ≤ model.faults new_sink
  pub same_rule : new_rule ≡ rule
  pub stays : (place : ℕ × ℕ) → refused ≡ Some place → new_refused ≡ Some place
  pub closed : is_open model sink refused ≡ false
      → (is_open model new_sink new_refused ≡ false)
      × ((left : List (List Record)) → model.may_leave new_sink left → model.may_leave sink left)
  pub adds : (groups left : List (List Record)) → HoldsUnrefused model sink refused groups → model.may_leave new_sink left
      → AddsAllowed rule groups left
  pub opened : (groups : List (List Record)) → HoldsUnrefused model sink refused groups → is_open model new_sink new_refused ≡ true
      → (now : List (List Record)) × model.holds new_sink now × AddsAllowed rule groups now
  pub first : (place : ℕ × ℕ) → refused ≡ None → new_refused ≡ Some place → (group : List Record) × IsFirstRefused rule group place
