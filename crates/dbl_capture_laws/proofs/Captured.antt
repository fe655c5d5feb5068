-- Tables that can't be captured.
use Rattle.std.proofs.Common.{◌≡◌, ◌∙◌, ◌⊎◌, inl, inr, ℕ, Option, Some, None, List, Result, Ok, Err, length, map, refl, sym, ap, subst}
use Rattle.std.specs.Prelude.{Contains, IfErr, IfOk}
use Rattle.std.specs.List.{AllByRecursion}
use Rattle.std.proofs.lemmas.List.Elements.{All-contains, All-from_recursion}
use Rattle.dbl_base.specs.declared.lsn.Lsn.{Lsn}
use Rattle.dbl_model_table.specs.declared.config.Config.{Config}
use Rattle.dbl_model_table.specs.declared.table.RawTable.{RawTable}
use Rattle.dbl_model_table.specs.declared.table.TableInfo.{TableInfo}
use Rattle.dbl_model_table.specs.declared.table.TableName.{TableName}
use Rattle.dbl_capture_work.specs.Source.Model.{SourceModel}
use Rattle.dbl_capture_work.specs.ModelHistory.History.{History, IsRising}
use Rattle.dbl_capture_work.specs.SourceModel.Calls.{IsHead, Moved}
use Rattle.dbl_capture_work.specs.SourceModel.Standings.{HasState, SourceState}
use Rattle.dbl_capture_work.specs.SourceModel.Trace.{Trace}
use Rattle.dbl_capture_work.specs.Offset.declared.offset.Offset.{Offset}
use Rattle.dbl_capture_work.specs.declared.halt.Halt.{Halt}
use Rattle.dbl_capture_work.specs.declared.halt.Halt.TheVariants as halt
use Rattle.dbl_capture_work.specs.Begins.{AreInfosAt, CanBeCaptured, CouldBeCaptured, IsAbsentHalt, IsExhausted, IsFaultOf, IsFirstOffsetAtHead, IsModelFault}
use Rattle.dbl_capture_work.proofs.Describing.{captured_named, moved_none}
use Rattle.dbl_capture_laws.specs.Musts.{CapturesAll}
use Rattle.dbl_capture_laws.specs.Captured.{CapturedOrHalts, CapturesOrHalts, IsTableHalt, MustHaltAbsent, PassesState}
use Rattle.dbl_capture_laws.specs.Found.{IsFirstIn}
use Rattle.dbl_capture_laws.proofs.Beginnings.{first_offset}

-- ---- halts

of_fault : (name : TableName) (entry : Option RawTable) (h : Halt) → IsFaultOf name entry h → IsTableHalt h
of_fault name None h is = subst IsTableHalt (sym is) tt
of_fault name (Some raw) h is = subst IsTableHalt (sym is.2) tt

pub first_table : (tables : List TableName) (told : Option Trace) (h : Halt) → (h ≡ halt.Memory) ⊎ ((h ≡ halt.Source) ⊎ ((name : TableName) × Contains tables name × IsModelFault name told h)) → IsTableHalt h
first_table tables told h (inl memory) = subst IsTableHalt (sym memory) tt
first_table tables told h (inr (inl failed)) = subst IsTableHalt (sym failed) tt
first_table tables told h (inr (inr model)) = of_fault model.0 model.2.entry h model.2.is

pub again_table : (old : Option Offset) (h : Halt) → old ≡ None → (h ≡ halt.Memory) ⊎ IsExhausted old h → IsTableHalt h
again_table old h none (inl memory) = subst IsTableHalt (sym memory) tt
again_table old h none (inr exhausted) = absurd (subst (λ (o : Option Offset). IsExhausted o h) none exhausted)

-- ---- what is captured

pub captured_all : {A : Type 0} (config : Config) (history : History) (from : ℕ) (r : Result A Halt) → AllByRecursion (CouldBeCaptured history from) config.tables → CapturedOrHalts config history from r
captured_all config history from (Ok answer) all = all
captured_all config history from (Err h) all = inl all

module _ (config : Config) (history : History) where
  abbrev Captured : Type 0
  Captured = AllByRecursion (CanBeCaptured history) config.tables

  pub captures_ok : {A : Type 0} (r : Result A Halt) (P : A → Type 0) → IfOk r P → ((answer : A) → P answer → Captured) → IfErr r IsTableHalt → CapturesOrHalts config history r
  captures_ok (Ok answer) P is all halts = all answer is
  captures_ok (Err h) P is all halts = inr halts

  pub captures_same : (old new : Option Offset) → new ≡ old → CapturesAll config old new history
  captures_same old new same none stored = let wrong : None ≡ Some stored.offset = sym (same ∙ none) ∙ stored.is in cc

  pub captures_by : (old new : Option Offset) → (old ≡ None → Captured) → CapturesAll config old new history
  captures_by old new all none stored = all none

  -- ---- where it has to stop with an error

  can_be : (name : TableName) → Captured → Contains config.tables name → CanBeCaptured history name
  can_be name all has = All-contains (CanBeCaptured history) config.tables name (All-from_recursion (CanBeCaptured history) config.tables all) has

  pub must_captured : {A : Type 0} (old : Option Offset) (r : Result A Halt) → (old ≡ None → Captured) → MustHaltAbsent config history old r
  must_captured old r all none name has never = absurd (never (can_be name (all none) has))

  pub must_absent : {A : Type 0} (old : Option Offset) (r : Result A Halt) → (old ≡ None → CapturesOrHalts config history r) → IfErr r (IsAbsentHalt config.tables history) → MustHaltAbsent config history old r
  must_absent old (Ok answer) captures absent none name has never = absurd (never (can_be name (captures none) has))
  must_absent old (Err h) captures absent none name has never = elim (captures none) [
    | inl all ↦ absurd (never (can_be name all has))
    | inr table ↦ (h, refl, table, absent)
  ]

-- ---- a state that a call led through

-- the one at the call
pub passes_here : {S : Type 0} (source_model : SourceModel S) (src new_src : S) (s : SourceState) (P : SourceState → Type 0) → source_model.stands src s → IsRising s.history → source_model.comes_of src src → source_model.comes_of src new_src
    → (source_model.honest new_src → source_model.honest src) → P s → PassesState source_model src new_src s P
passes_here source_model src new_src s P is rising self comes honest holds =
    record { passed = src; standing = s; is = is; moved = moved_none s rising; extends = self; extended = comes; honest = honest; holds = holds }

-- it is one of a later call too
pub passed_on : {S : Type 0} (source_model : SourceModel S) (src mid new_src : S) (s : SourceState) (P Q : SourceState → Type 0) → ((first second third : S) → source_model.comes_of first second → source_model.comes_of second third → source_model.comes_of first third)
    → source_model.comes_of mid new_src → (source_model.honest new_src → source_model.honest mid) → PassesState source_model src mid s P → ((t : SourceState) → P t → Q t) → PassesState source_model src new_src s Q
passed_on source_model src mid new_src s P Q comes_on comes honest p so = record {
  passed = p.passed;
  standing = p.standing;
  is = p.is;
  moved = p.moved;
  extends = p.extends;
  extended = comes_on p.passed mid new_src p.extended comes;
  honest = λ conforms. p.honest (honest conforms);
  holds = so p.standing p.holds;
}

-- and of another property
pub passed_so : {S : Type 0} (source_model : SourceModel S) (src new_src : S) (s : SourceState) (P Q : SourceState → Type 0) → PassesState source_model src new_src s P → ((t : SourceState) → P t → Q t) → PassesState source_model src new_src s Q
passed_so source_model src new_src s P Q p so =
    record { passed = p.passed; standing = p.standing; is = p.is; moved = p.moved; extends = p.extends; extended = p.extended; honest = p.honest; holds = so p.standing p.holds }

-- what was described was found
pub found_in : {S : Type 0} (source_model : SourceModel S) (src new_src : S) (config : Config) (offset : Offset) (s : SourceState) → ((a b : SourceState) → source_model.stands new_src a → source_model.stands new_src b → a ≡ b) → ((t : SourceState) → source_model.stands new_src t → IsRising t.history)
    → source_model.comes_of src new_src → source_model.comes_of new_src new_src
    → HasState source_model.stands new_src (λ t. Moved s t × ((infos : List TableInfo) × (head : Lsn) × IsFirstOffsetAtHead config infos head offset × (map (λ info. info.name) infos ≡ config.tables) × IsHead head s t))
    → HasState source_model.stands new_src (λ t. AreInfosAt t.history (length s.history.commits) offset.infos offset.versions)
    → PassesState source_model src new_src s (λ t. AllByRecursion (CouldBeCaptured t.history (length s.history.commits)) config.tables × IsFirstIn config s.history t.history offset)
found_in source_model src new_src config offset s one rising comes self first said =
    let t = first.standing in
    let is = first.holds.1.2 in
    let names : map (λ (info : TableInfo). info.name) offset.infos ≡ config.tables = ap (map (λ (info : TableInfo). info.name)) is.infos_are ∙ first.holds.1.3 in
    let since : ℕ = length s.history.commits in
    let described : AreInfosAt t.history since offset.infos offset.versions = subst (λ (x : SourceState). AreInfosAt x.history since offset.infos offset.versions) (one said.standing t said.is first.is) said.holds in
    record {
      passed = new_src;
      standing = t;
      is = first.is;
      moved = first.holds.0;
      extends = comes;
      extended = self;
      honest = λ honest. honest;
      holds = (
        subst (AllByRecursion (CouldBeCaptured t.history since)) names (captured_named t.history since offset.infos offset.versions described),
        record { infos = described; is = first_offset config first.holds.1.0 first.holds.1.1 offset s t first.holds.0.grows (rising t first.is) is first.holds.1.3 first.holds.1.4 },
      );
    }

-- of either answer, by what is known of each
pub result_as : {T : Type 0} (r : Result T Halt) (P : T → Type 0) (B : Halt → Type 0) (Q : Result T Halt → Type 0) → IfOk r P → IfErr r B → ((x : T) → P x → Q (Ok x)) → ((h : Halt) → B h → Q (Err h)) → Q r
result_as (Ok x) P B Q p b f g = f x p
result_as (Err h) P B Q p b f g = g h b
