-- The places of the events that commits tell: they rise.
use Rattle.std.proofs.Common.{◌≡◌, ◌∙◌, inl, inr, ◌+◌, ◌≤◌, ◌<◌, ℕ, suc, Bool, true, false, cond, List, [], ◌∷◌, ◌++◌, Some, length, map, flat_map, filter, refl, sym, ap, subst, arith}
use Rattle.std.specs.Prelude.{nat_lt, slice_get}
use Rattle.std.specs.List.{AllByRecursion}
use Rattle.std.proofs.lemmas.Bool.{cases_order}
use Rattle.std.proofs.lemmas.Bool.Decides.{nat_tests}
use Rattle.std.proofs.lemmas.Grind.{flat_map-append}
use Rattle.std.proofs.lemmas.List.Elements.{filter-append}
use Rattle.dbl_record.specs.declared.record.Record.{Record}
use Rattle.dbl_record.specs.Places.{Place, place_of, IsBefore}
use Rattle.dbl_model_table.specs.declared.identity.Identity.{Identity}
use Rattle.dbl_model_table.specs.declared.change.Commit.{Commit}
use Rattle.dbl_model_table.specs.Rows.{Rows, changes_of}
use Rattle.dbl_model_table.proofs.Lists.{slice_get-lt}
use Rattle.dbl_consume_laws.specs.ModelHistory.History.{AreRising}
use Rattle.dbl_consume_laws.specs.ModelHistory.Ranges.{IsCommitInRange}
use Rattle.dbl_consume_laws.proofs.ModelHistoryMomentLemmas.{lsns}
use Rattle.dbl_consume_laws.specs.ModelEvent.Events.{Event, notices, events_of}
use Rattle.dbl_consume_laws.specs.ModelEvent.EventJson.{print}
use Rattle.dbl_consume_laws.proofs.Prints.{event_numbered}
use Rattle.dbl_consume_courses.specs.Versions.{Versioned, plain_commit, rows_through}
use Rattle.dbl_consume_courses.specs.FitVersions.{AreFitFrom}
use Rattle.dbl_faithful.specs.Kinds.{is_change_record}
use Rattle.dbl_faithful.specs.ToldEvents.{ToldEvent, tell, events_of_commit, events_of_commits, commits_since, events_since, IsPrint}
use Rattle.dbl_faithful.proofs.Items.{at_cases, at_all, mapped, filter_none, filter_whole, all_weaker}
use Rattle.dbl_faithful.proofs.RecordKinds.{events_are_changes}

abbrev pub told_place : ToldEvent → Place
told_place t = (t.event.position, t.event.ordinal)

-- a record of an event stands at its place
pub print_place : (identity : Identity) (t : ToldEvent) (item : Record) → IsPrint identity t item → place_of item ≡ told_place t
print_place identity t item is = ap place_of is.printed

-- a later event has a greater place
abbrev pub TellsRise : List ToldEvent → Type 0
TellsRise told = (k l : ℕ) (s t : ToldEvent) → k < l → slice_get told k ≡ Some s → slice_get told l ≡ Some t → IsBefore (told_place s) (told_place t)

-- a record of an event is that of a change
abbrev pub TellChanges : Identity → List ToldEvent → Type 0
TellChanges identity told = (k : ℕ) (t : ToldEvent) (item : Record) → slice_get told k ≡ Some t → IsPrint identity t item → is_change_record item ≡ true

pub not_at_itself : (a b : Place) → a ≡ b → IsBefore a b → ⊥
not_at_itself a b same (inl lt) = let e : a.0 ≡ b.0 = ap (λ (p : Place). p.0) same in absurd (omega (arith, e, lt))
not_at_itself a b same (inr more) = let e : a.1 ≡ b.1 = ap (λ (p : Place). p.1) same in let lt : a.1 < b.1 = more.1 in absurd (omega (arith, e, lt))

-- so at one place stands one event
pub told_one : (told : List ToldEvent) → TellsRise told → (k l : ℕ) (s t : ToldEvent) → slice_get told k ≡ Some s → slice_get told l ≡ Some t → told_place s ≡ told_place t → k ≡ l
told_one told rise k l s t at_k at_l same = elim (cases_order k l) [
  | inl e ↦ e
  | inr apart ↦ elim apart [
    | inl lt ↦ absurd (not_at_itself (told_place s) (told_place t) same (rise k l s t lt at_k at_l))
    | inr gt ↦ absurd (not_at_itself (told_place t) (told_place s) (sym same) (rise l k t s gt at_l at_k))
  ]
]

-- ---- where an event stands

-- among the events of its commit, and that among the commits
pub record IsToldAt (versions : List Versioned) (t : ToldEvent) : Type 0 where
  pub place : ℕ
  pub number : ℕ
  pub version : Versioned
  pub commit_at : slice_get versions place ≡ Some version
  pub commit_is : t.commit ≡ plain_commit version
  pub event_at : slice_get (events_of version.infos (plain_commit version)) number ≡ Some t.event

zero_on : (k : ℕ) → k ≡ 0 + k
zero_on k = omega arith

-- of one commit
pub of_commit : (v : Versioned) (k : ℕ) (t : ToldEvent) → slice_get (events_of_commit v) k ≡ Some t → (t.commit ≡ plain_commit v) × (t.event.position ≡ v.lsn.0) × (t.event.ordinal ≡ k) × (slice_get (events_of v.infos (plain_commit v)) k ≡ Some t.event)
of_commit v k t at =
    let found = mapped (tell (plain_commit v)) (events_of v.infos (plain_commit v)) k t at in
    let numbers = event_numbered v.lsn.0 0 (flat_map (notices v.infos) (changes_of (plain_commit v))) k found.0 found.1 in (
      ap (λ (x : ToldEvent). x.commit) found.2,
      ap (λ (x : ToldEvent). x.event.position) found.2 ∙ numbers.0,
      ap (λ (x : ToldEvent). x.event.ordinal) found.2 ∙ (numbers.1 ∙ sym (zero_on k)),
      subst (λ (x : ToldEvent). slice_get (events_of v.infos (plain_commit v)) k ≡ Some x.event) (sym found.2) found.1,
    )

pub told_at : (versions : List Versioned) (k : ℕ) (t : ToldEvent) → slice_get (events_of_commits versions) k ≡ Some t → IsToldAt versions t
told_at [] k t at = cc
told_at (v ∷ versions) k t at = elim (at_cases (events_of_commit v) (events_of_commits versions) k t at) [
  | inl here ↦ (
      let own = of_commit v k t here in
      record { place = 0; number = k; version = v; commit_at = refl; commit_is = own.0; event_at = own.3 })
  | inr later ↦ (
      let rest = told_at versions later.0 t later.1 in
      record { place = suc rest.place; number = rest.number; version = rest.version; commit_at = rest.commit_at; commit_is = rest.commit_is; event_at = rest.event_at })
]

-- an event stands at its commit's position
pub event_position : (versions : List Versioned) (t : ToldEvent) → (at : IsToldAt versions t) → t.event.position ≡ at.version.lsn.0
event_position versions t at = (event_numbered at.version.lsn.0 0 (flat_map (notices at.version.infos) (changes_of (plain_commit at.version))) at.number t.event at.event_at).0

-- ---- rising

further : (a b c : ℕ) → a < b → b < c → a < c
further a b c one two = omega (arith, one, two)

pub told_above : (low : ℕ) (versions : List Versioned) → AreRising low (lsns (map plain_commit versions)) → (k : ℕ) (t : ToldEvent) → slice_get (events_of_commits versions) k ≡ Some t → low < t.event.position
told_above low [] rise k t at = cc
told_above low (v ∷ versions) rise k t at = elim (at_cases (events_of_commit v) (events_of_commits versions) k t at) [
  | inl here ↦ subst (λ (p : ℕ). low < p) (sym (of_commit v k t here).1) rise.0
  | inr later ↦ further low v.lsn.0 t.event.position rise.0 (told_above v.lsn.0 versions rise.1 later.0 t later.1)
]

both_later : (k l n a b : ℕ) → k < l → k ≡ n + a → l ≡ n + b → a < b
both_later k l n a b lt one two = omega (arith, lt, one, two)

not_back : (k l n a : ℕ) → k < l → k ≡ n + a → l < n → ⊥
not_back k l n a lt one two = omega (arith, lt, one, two)

by_number : (a b k l : ℕ) → a ≡ k → b ≡ l → k < l → a < b
by_number a b k l one two lt = omega (arith, one, two, lt)

pub told_rise : (low : ℕ) (versions : List Versioned) → AreRising low (lsns (map plain_commit versions)) → TellsRise (events_of_commits versions)
told_rise low [] rise k l s t lt at_k at_l = cc
told_rise low (v ∷ versions) rise k l s t lt at_k at_l = elim (at_cases (events_of_commit v) (events_of_commits versions) k s at_k) [
  | inl first ↦ elim (at_cases (events_of_commit v) (events_of_commits versions) l t at_l) [
    | inl second ↦ (
        let a = of_commit v k s first in
        let b = of_commit v l t second in
        inr (a.1 ∙ sym b.1, by_number s.event.ordinal t.event.ordinal k l a.2 b.2 lt))
    | inr subsequent ↦ inl (subst (λ (p : ℕ). p < t.event.position) (sym (of_commit v k s first).1) (told_above v.lsn.0 versions rise.1 subsequent.0 t subsequent.1))
  ]
  | inr later ↦ elim (at_cases (events_of_commit v) (events_of_commits versions) l t at_l) [
    | inl second ↦ absurd (not_back k l (length (events_of_commit v)) later.0 lt later.2 (slice_get-lt (events_of_commit v) l t second))
    | inr subsequent ↦ told_rise v.lsn.0 versions rise.1 later.0 subsequent.0 s t (both_later k l (length (events_of_commit v)) later.0 subsequent.0 lt later.2 subsequent.2) later.1 subsequent.1
  ]
]

-- the commits of a valid history are in range
pub in_range : (at : Rows) (versions : List Versioned) → AreFitFrom at versions → AllByRecursion (λ v. IsCommitInRange (plain_commit v)) versions
in_range at [] fit = tt
in_range at (v ∷ versions) fit = (fit.0.in_range, in_range (rows_through at v) versions fit.1)

pub tell_changes : (identity : Identity) (versions : List Versioned) → AllByRecursion (λ v. IsCommitInRange (plain_commit v)) versions → TellChanges identity (events_of_commits versions)
tell_changes identity versions ranges k t item at is =
    let found = told_at versions k t at in
    let v : Versioned = found.version in
    let range : IsCommitInRange (plain_commit v) = at_all (λ (x : Versioned). IsCommitInRange (plain_commit x)) versions found.place v ranges found.commit_at in
    ap is_change_record (is.printed ∙ ap (λ (c : Commit). print identity c is.now t.event) found.commit_is)
    ∙ at_all (λ (e : Event). is_change_record (print identity (plain_commit v) is.now e) ≡ true) (events_of v.infos (plain_commit v)) found.number t.event (events_are_changes identity v.infos (plain_commit v) is.now range is.in_range) found.event_at

-- ---- commits after a position

pub events_of_commits-append : (xs ys : List Versioned) → events_of_commits (xs ++ ys) ≡ events_of_commits xs ++ events_of_commits ys
events_of_commits-append xs ys = flat_map-append events_of_commit xs ys

pub events_since-append : (start : ℕ) (xs ys : List Versioned) → events_since start (xs ++ ys) ≡ events_since start xs ++ events_since start ys
events_since-append start xs ys =
    ap events_of_commits (filter-append (λ (v : Versioned). nat_lt start v.lsn.0) xs ys)
    ∙ events_of_commits-append (commits_since start xs) (commits_since start ys)

rising_lower : (low high : ℕ) (xs : List ℕ) → low ≤ high → AreRising high xs → AreRising low xs
rising_lower low high [] le rise = tt
rising_lower low high (x ∷ xs) le rise = let above : high < x = rise.0 in (omega (arith, le, above), rise.1)

lower : (a b : ℕ) → a < b → a ≤ b
lower a b lt = omega (arith, lt)

pub rising_filter : (p : Versioned → Bool) (low : ℕ) (versions : List Versioned) → AreRising low (lsns (map plain_commit versions)) → AreRising low (lsns (map plain_commit (filter p versions)))
rising_filter p low [] rise = tt
rising_filter p low (v ∷ versions) rise = by (rising_filter p v.lsn.0 versions rise.1) (p v)
  where
    by : AreRising v.lsn.0 (lsns (map plain_commit (filter p versions))) → (b : Bool) → AreRising low (lsns (map plain_commit (cond b (v ∷ filter p versions) (filter p versions))))
    by rest true = (rise.0, rest)
    by rest false = rising_lower low v.lsn.0 (lsns (map plain_commit (filter p versions))) (lower low v.lsn.0 rise.0) rest

pub all_filter : (P : Versioned → Type 0) (p : Versioned → Bool) (versions : List Versioned) → AllByRecursion P versions → AllByRecursion P (filter p versions)
all_filter P p [] all = tt
all_filter P p (v ∷ versions) all = by (all_filter P p versions all.1) (p v)
  where
    by : AllByRecursion P (filter p versions) → (b : Bool) → AllByRecursion P (cond b (v ∷ filter p versions) (filter p versions))
    by rest true = (all.0, rest)
    by rest false = rest

pub after_rise : (start low : ℕ) (versions : List Versioned) → AreRising low (lsns (map plain_commit versions)) → TellsRise (events_since start versions)
after_rise start low versions rise = told_rise low (commits_since start versions) (rising_filter (λ (v : Versioned). nat_lt start v.lsn.0) low versions rise)

pub after_changes : (identity : Identity) (start : ℕ) (at : Rows) (versions : List Versioned) → AreFitFrom at versions → TellChanges identity (events_since start versions)
after_changes identity start at versions fit =
    tell_changes identity (commits_since start versions) (all_filter (λ (v : Versioned). IsCommitInRange (plain_commit v)) (λ (v : Versioned). nat_lt start v.lsn.0) versions (in_range at versions fit))

tests_above : (a b : ℕ) → a < b → nat_lt a b ≡ true
tests_above a b lt = grind (arith, nat_tests)

tests_under : (a b : ℕ) → b ≤ a → nat_lt a b ≡ false
tests_under a b le = grind (arith, nat_tests)

-- commits that are all after the position, and ones of which none does
pub since_all : (start : ℕ) (versions : List Versioned) → AllByRecursion (λ v. start < v.lsn.0) versions → commits_since start versions ≡ versions
since_all start versions all = filter_whole (λ (v : Versioned). nat_lt start v.lsn.0) versions
    (all_weaker (λ (v : Versioned). start < v.lsn.0) (λ (v : Versioned). nat_lt start v.lsn.0 ≡ true) versions (λ v lt. tests_above start v.lsn.0 lt) all)

pub since_none : (start : ℕ) (versions : List Versioned) → AllByRecursion (λ v. v.lsn.0 ≤ start) versions → commits_since start versions ≡ []
since_none start versions all = filter_none (λ (v : Versioned). nat_lt start v.lsn.0) versions
    (all_weaker (λ (v : Versioned). v.lsn.0 ≤ start) (λ (v : Versioned). nat_lt start v.lsn.0 ≡ false) versions (λ v le. tests_under start v.lsn.0 le) all)
