-- Positions of a history, and the greatest position of records.
use Rattle.std.proofs.Common.{◌≡◌, ◌∙◌, ◌⊎◌, inl, inr, ◌≤◌, ◌<◌, ℕ, zero, suc, max, Bool, true, false, cond, ◌&&◌, List, [], ◌∷◌, ◌++◌, Some, None, length, map, filter, fold, refl, sym, ap, subst, arith, append_assoc, append-nil, le_refl}
use Rattle.std.specs.Prelude.{nat_lt, nat_le, slice_get}
use Rattle.std.specs.List.{AllByRecursion}
use Rattle.std.proofs.lemmas.Bool.{cases_lt}
use Rattle.std.proofs.lemmas.Bool.Decides.{nat_tests}
use Rattle.std.proofs.lemmas.List.Elements.{All-contains, All-from_recursion, recursion_from_All, filter-append}
use Rattle.dbl_record.specs.declared.record.Record.{Record}
use Rattle.dbl_record.specs.Places.{Place, place_of, IsBefore}
use Rattle.dbl_model_table.specs.declared.table.TableInfo.{TableInfo}
use Rattle.dbl_model_table.proofs.Lists.{and_false}
use Rattle.dbl_consume_laws.specs.ModelHistory.History.{AreRising, RawCommit, History}
use Rattle.dbl_consume_laws.specs.ModelHistory.InForce.{infos_by, versioned_from, opening_infos, versioned}
use Rattle.dbl_consume_laws.proofs.Consumers.{all_left, all_right}
use Rattle.dbl_consume_courses.specs.Versions.{Versioned}
use Rattle.dbl_consume_courses.specs.AgesBetween.{IsLsnOf}
use Rattle.dbl_faithful.specs.CaughtUp.{EndAt, IsEndOf}
use Rattle.dbl_faithful.proofs.Items.{first_some, mapped, map_get, filter_none, filter_whole, all_by_place, all_weaker}
use Rattle.dbl_faithful.specs.Stores.{IsCommitAt, IsPositionOf, top_position, repeated, TopPositionsAreTops, EmptyLogsHaveNoLag, LagsAreBounded, LaterOffsetsLagLess, RepeatedCommitsStandTogether}

-- ---- commits by their LSNs

lsns-versioned : (infos : List TableInfo) (commits : List RawCommit) → map (λ (v : Versioned). v.lsn.0) (versioned_from infos commits) ≡ map (λ (commit : RawCommit). commit.lsn.0) commits
lsns-versioned infos [] = refl
lsns-versioned infos (commit ∷ commits) = ap (λ (l : List ℕ). commit.lsn.0 ∷ l) (lsns-versioned (infos_by commit.body infos) commits)

parted_at : {X : Type 0} (xs : List X) (k : ℕ) (x : X) → slice_get xs k ≡ Some x → (front : List X) × (rest : List X) × (xs ≡ front ++ x ∷ rest)
parted_at [] k x at = cc
parted_at (y ∷ xs) zero x at = ([], xs, ap (λ (z : _). z ∷ xs) (first_some y x at))
parted_at (y ∷ xs) (suc k) x at = let rest = parted_at xs k x at in (y ∷ rest.0, rest.1, ap (λ (l : List _). y ∷ l) rest.2)

-- a commit of the captured ones is one of the history
pub commit_at : (infos : List TableInfo) (history : History) (place : ℕ) (v : Versioned) → slice_get (versioned infos history) place ≡ Some v → IsCommitAt history v.lsn.0
commit_at infos history place v at =
    (place, ap (λ (l : List ℕ). slice_get l place) (sym (lsns-versioned (opening_infos history infos) history.commits)) ∙ map_get (λ (x : Versioned). x.lsn.0) (versioned infos history) place v at)

-- and one of the history is one of them
pub lsn_at : (infos : List TableInfo) (history : History) (position : ℕ) → IsCommitAt history position → IsLsnOf (versioned infos history) position
lsn_at infos history position at = (at.0, ap (λ (l : List ℕ). slice_get l at.0) (lsns-versioned (opening_infos history infos) history.commits) ∙ at.1)

-- the commits that end at a position, and the others
pub record IsEnded (versions : List Versioned) (position : ℕ) : Type 0 where
  pub before : List Versioned
  pub later : List Versioned
  pub spelled : versions ≡ before ++ later
  pub ends : IsEndOf position before

pub ended_at : (infos : List TableInfo) (history : History) (position : ℕ) → IsPositionOf history position → IsEnded (versioned infos history) position
ended_at infos history position (inl none) = record { before = []; later = versioned infos history; spelled = refl; ends = inl (none, refl) }
ended_at infos history position (inr at) =
    let is = lsn_at infos history position at in
    let found = mapped (λ (v : Versioned). v.lsn.0) (versioned infos history) is.0 position is.1 in
    let parts = parted_at (versioned infos history) is.0 found.0 found.1 in
    let end : EndAt position (parts.0 ++ found.0 ∷ []) = record { front = parts.0; last = found.0; spelled = refl; lsn_is = sym found.2 } in
    record { before = parts.0 ++ found.0 ∷ []; later = parts.1; spelled = parts.2 ∙ sym (append_assoc parts.0 (found.0 ∷ []) parts.1); ends = inr end }

-- ---- the greatest position

abbrev far_of : ℕ → List Record → ℕ
far_of far records = fold (λ most item. max most item.position) far records

left_of : (a b w : ℕ) → max a b ≤ w → a ≤ w
left_of a b w le = omega (arith, le)

right_of : (a b w : ℕ) → max a b ≤ w → b ≤ w
right_of a b w le = omega (arith, le)

both_under : (a b w : ℕ) → a ≤ w → b ≤ w → max a b ≤ w
both_under a b w one two = omega (arith, one, two)

far_grows : (far : ℕ) (records : List Record) → far ≤ far_of far records
far_grows far [] = le_refl far
far_grows far (r ∷ records) = left_of far r.position (far_of (max far r.position) records) (far_grows (max far r.position) records)

far_has : (far : ℕ) (records : List Record) → AllByRecursion (λ item. item.position ≤ far_of far records) records
far_has far [] = tt
far_has far (r ∷ records) = (right_of far r.position (far_of (max far r.position) records) (far_grows (max far r.position) records), far_has (max far r.position) records)

far_least : (far most : ℕ) (records : List Record) → far ≤ most → AllByRecursion (λ item. item.position ≤ most) records → far_of far records ≤ most
far_least far most [] le all = le
far_least far most (r ∷ records) le all = far_least (max far r.position) most records (both_under far r.position most le all.0) all.1

far_below : (far most : ℕ) (records : List Record) → far < most → AllByRecursion (λ item. item.position < most) records → far_of far records < most
far_below far most [] lt all = lt
far_below far most (r ∷ records) lt all = far_below (max far r.position) most records (both_below far r.position most lt all.0) all.1
  where
    both_below : (a b w : ℕ) → a < w → b < w → max a b < w
    both_below a b w one two = omega (arith, one, two)

-- it is before what is after each of them
pub top_below : (most : ℕ) (records : List Record) → 0 < most → AllByRecursion (λ item. item.position < most) records → top_position records < most
top_below most records lt all = far_below 0 most records lt all

-- no record is after it
pub top_has : (records : List Record) → AllByRecursion (λ item. item.position ≤ top_position records) records
top_has records = far_has 0 records

none_le : (n : ℕ) → 0 ≤ n
none_le n = omega arith

both_ways : (a b : ℕ) → a ≤ b → b ≤ a → a ≡ b
both_ways a b one two = omega (arith, one, two)

places_under : (most : ℕ) (records : List Record) → AllByRecursion (λ item. item.position ≤ most) records → AllByRecursion (λ (place : Place). place.0 ≤ most) (map place_of records)
places_under most [] all = tt
places_under most (r ∷ records) all = (all.0, places_under most records all.1)

not_above : (top : Place) (records : List Record) → AllByRecursion (λ place. IsBefore top place → ⊥) (map place_of records) → AllByRecursion (λ item. item.position ≤ top.0) records
not_above top [] none = tt
not_above top (r ∷ records) none = (by (cases_lt top.0 r.position), not_above top records none.1)
  where
    by : (top.0 < r.position) ⊎ (r.position ≤ top.0) → r.position ≤ top.0
    by (inl lt) = absurd (none.0 (inl lt))
    by (inr le) = le

pub top_positions_are_tops : TopPositionsAreTops
top_positions_are_tops records top is =
    let under : AllByRecursion (λ item. item.position ≤ top.0) records = not_above top records (recursion_from_All (λ (place : Place). IsBefore top place → ⊥) (map place_of records) is.greatest) in
    let has : AllByRecursion (λ (place : Place). place.0 ≤ top_position records) (map place_of records) = places_under (top_position records) records (top_has records) in
    both_ways (top_position records) top.0 (far_least 0 top.0 records (none_le top.0) under)
    (All-contains (λ (place : Place). place.0 ≤ top_position records) (map place_of records) top (All-from_recursion (λ (place : Place). place.0 ≤ top_position records) (map place_of records) has) is.taken)

-- ---- logs without records

some_le : (a b : ℕ) → a < b → nat_le b 0 ≡ false
some_le a b lt = grind (arith, nat_tests)

not_lt : (a b : ℕ) → b ≤ a → nat_lt a b ≡ false
not_lt a b le = grind (arith, nat_tests)

none_between : (a b : ℕ) → (nat_lt a b && nat_le b 0) ≡ false
none_between a b = elim (cases_lt a b) [
  | inl lt ↦ ap (λ (t : Bool). nat_lt a b && t) (some_le a b lt) ∙ and_false (nat_lt a b)
  | inr le ↦ ap (λ (t : Bool). t && nat_le b 0) (not_lt a b le)
]

pub empty_logs_have_no_lag : EmptyLogsHaveNoLag
empty_logs_have_no_lag history None = refl
empty_logs_have_no_lag history (Some offset) =
    ap length (filter_none (λ (commit : RawCommit). nat_lt offset.lsn.0 commit.lsn.0 && nat_le commit.lsn.0 (top_position [])) history.commits
    (all_by_place (λ (commit : RawCommit). (nat_lt offset.lsn.0 commit.lsn.0 && nat_le commit.lsn.0 (top_position [])) ≡ false) history.commits (λ j commit at. none_between offset.lsn.0 commit.lsn.0)))

-- ---- how many commits are repeated

not_le : (a b : ℕ) → b < a → nat_le a b ≡ false
not_le a b lt = grind (arith, nat_tests)

filter_short : {X : Type 0} (p : X → Bool) (xs : List X) → length (filter p xs) ≤ length xs
filter_short p [] = le_refl 0
filter_short p (x ∷ xs) = by (filter_short p xs) (p x)
  where
    step : (a b : ℕ) → a ≤ b → a ≤ suc b
    step a b le = omega (arith, le)

    more : (a b : ℕ) → a ≤ b → suc a ≤ suc b
    more a b le = omega (arith, le)

    by : length (filter p xs) ≤ length xs → (b : Bool) → length (cond b (x ∷ filter p xs) (filter p xs)) ≤ suc (length xs)
    by rest true = more (length (filter p xs)) (length xs) rest
    by rest false = step (length (filter p xs)) (length xs) rest

-- the commits up to the offset don't pass, nor those after the top
passes_none : (low top : ℕ) (commits : List RawCommit) → AllByRecursion (λ commit. commit.lsn.0 ≤ low) commits → AllByRecursion (λ commit. (nat_lt low commit.lsn.0 && nat_le commit.lsn.0 top) ≡ false) commits
passes_none low top commits under = all_weaker (λ (c : RawCommit). c.lsn.0 ≤ low) (λ (c : RawCommit). (nat_lt low c.lsn.0 && nat_le c.lsn.0 top) ≡ false) commits (λ c le. ap (λ (t : Bool). t && nat_le c.lsn.0 top) (not_lt low c.lsn.0 le)) under

passes_none_after : (low top : ℕ) (commits : List RawCommit) → AllByRecursion (λ commit. top < commit.lsn.0) commits → AllByRecursion (λ commit. (nat_lt low commit.lsn.0 && nat_le commit.lsn.0 top) ≡ false) commits
passes_none_after low top commits over =
    all_weaker (λ (c : RawCommit). top < c.lsn.0) (λ (c : RawCommit). (nat_lt low c.lsn.0 && nat_le c.lsn.0 top) ≡ false) commits
    (λ c lt. ap (λ (t : Bool). nat_lt low c.lsn.0 && t) (not_le c.lsn.0 top lt) ∙ and_false (nat_lt low c.lsn.0)) over

-- a filter of three parts, where the outer ones have none that pass
filter_between : {X : Type 0} (p : X → Bool) (before between later : List X) → AllByRecursion (λ x. p x ≡ false) before → AllByRecursion (λ x. p x ≡ false) later → filter p (before ++ (between ++ later)) ≡ filter p between
filter_between p before between later low high =
    filter-append p before (between ++ later)
    ∙ (ap (λ (l : List _). l ++ filter p (between ++ later)) (filter_none p before low)
    ∙ (filter-append p between later ∙ (ap (λ (l : List _). filter p between ++ l) (filter_none p later high) ∙ append-nil (filter p between))))

pub lags_are_bounded : LagsAreBounded
lags_are_bounded history records offset before between later is low high =
    let p : RawCommit → Bool = (λ commit. nat_lt offset.lsn.0 commit.lsn.0 && nat_le commit.lsn.0 (top_position records)) in
    let all : filter p history.commits ≡ filter p between = ap (filter p) is ∙ filter_between p before between later (passes_none offset.lsn.0 (top_position records) before low) (passes_none_after offset.lsn.0 (top_position records) later high) in
    subst (λ (l : List RawCommit). length l ≤ length between) (sym all) (filter_short p between)

both_pass : (low top c : ℕ) → low < c → c ≤ top → (nat_lt low c && nat_le c top) ≡ true
both_pass low top c lt le = grind (arith, nat_tests)

lt_passes : (low top c : ℕ) → (nat_lt low c && nat_le c top) ≡ true → low < c
lt_passes low top c is = grind (arith, nat_tests)

le_passes : (low top c : ℕ) → (nat_lt low c && nat_le c top) ≡ true → c ≤ top
le_passes low top c is = grind (arith, nat_tests)

later_passes : (old new top c : ℕ) → old ≤ new → (nat_lt new c && nat_le c top) ≡ true → (nat_lt old c && nat_le c top) ≡ true
later_passes old new top c le is = both_pass old top c (still (lt_passes new top c is)) (le_passes new top c is)
  where
    still : new < c → old < c
    still lt = omega (arith, le, lt)

-- a filter that passes more leaves no fewer
filter_fewer : {X : Type 0} (p q : X → Bool) (xs : List X) → ((x : X) → p x ≡ true → q x ≡ true) → length (filter p xs) ≤ length (filter q xs)
filter_fewer p q [] more = le_refl 0
filter_fewer p q (x ∷ xs) more = by (filter_fewer p q xs more) (p x) (q x) (more x)
  where
    step : (a b : ℕ) → a ≤ b → a ≤ suc b
    step a b le = omega (arith, le)

    both : (a b : ℕ) → a ≤ b → suc a ≤ suc b
    both a b le = omega (arith, le)

    by : length (filter p xs) ≤ length (filter q xs) → (b c : Bool) → (b ≡ true → c ≡ true) → length (cond b (x ∷ filter p xs) (filter p xs)) ≤ length (cond c (x ∷ filter q xs) (filter q xs))
    by rest true true passes = both (length (filter p xs)) (length (filter q xs)) rest
    by rest true false passes = let e : false ≡ true = passes refl in cc
    by rest false true passes = step (length (filter p xs)) (length (filter q xs)) rest
    by rest false false passes = rest

pub later_offsets_lag_less : LaterOffsetsLagLess
later_offsets_lag_less history records old new le =
    filter_fewer (λ (commit : RawCommit). nat_lt new.lsn.0 commit.lsn.0 && nat_le commit.lsn.0 (top_position records)) (λ (commit : RawCommit). nat_lt old.lsn.0 commit.lsn.0 && nat_le commit.lsn.0 (top_position records)) history.commits
    (λ commit is. later_passes old.lsn.0 new.lsn.0 (top_position records) commit.lsn.0 le is)

-- ---- where they stand

abbrev raw_lsns : List RawCommit → List ℕ
raw_lsns commits = map (λ commit. commit.lsn.0) commits

-- commits that rise, parted at a position
record IsParted (commits : List RawCommit) (position : ℕ) : Type 0 where
  pub front : List RawCommit
  pub back : List RawCommit
  pub spelled : commits ≡ front ++ back
  pub under : AllByRecursion (λ commit. commit.lsn.0 ≤ position) front
  pub over : AllByRecursion (λ commit. position < commit.lsn.0) back
  pub rises : AreRising position (raw_lsns back)

-- those that rise from a number on are above each smaller one
pub raw_above : (low most : ℕ) (commits : List RawCommit) → low ≤ most → AreRising most (raw_lsns commits) → AllByRecursion (λ commit. low < commit.lsn.0) commits
raw_above low most [] le rise = tt
raw_above low most (c ∷ commits) le rise = (beyond low most c.lsn.0 le rise.0, raw_above low c.lsn.0 commits (reaches low most c.lsn.0 le rise.0) rise.1)
  where
    beyond : (a b w : ℕ) → a ≤ b → b < w → a < w
    beyond a b w le lt = omega (arith, le, lt)

    reaches : (a b w : ℕ) → a ≤ b → b < w → a ≤ w
    reaches a b w le lt = omega (arith, le, lt)

part_at : (low position : ℕ) (commits : List RawCommit) → AreRising low (raw_lsns commits) → IsParted commits position
part_at low position [] rise = record { front = []; back = []; spelled = refl; under = tt; over = tt; rises = tt }
part_at low position (c ∷ commits) rise = elim (cases_lt position c.lsn.0) [
  | inl lt ↦ record { front = []; back = c ∷ commits; spelled = refl; under = tt; over = (lt, raw_above position c.lsn.0 commits (lower position c.lsn.0 lt) rise.1); rises = (lt, rise.1) }
  | inr le ↦ (
      let rest : IsParted commits position = part_at c.lsn.0 position commits rise.1 in
      record { front = c ∷ rest.front; back = rest.back; spelled = ap (λ (l : List RawCommit). c ∷ l) rest.spelled; under = (le, rest.under); over = rest.over; rises = rest.rises })
]
  where
    lower : (a b : ℕ) → a < b → a ≤ b
    lower a b lt = omega (arith, lt)

pairs : (low top : ℕ) (commits : List RawCommit) → AllByRecursion (λ commit. low < commit.lsn.0) commits → (P : ℕ → Type 0) → AllByRecursion (λ commit. P commit.lsn.0) commits → AllByRecursion (λ commit. (low < commit.lsn.0) × P commit.lsn.0) commits
pairs low top [] one P two = tt
pairs low top (c ∷ commits) one P two = ((one.0, two.0), pairs low top commits one.1 P two.1)

pub repeated_commits_stand_together : RepeatedCommitsStandTogether
repeated_commits_stand_together history records offset rise =
    let low : ℕ = offset.lsn.0 in
    let top : ℕ = top_position records in
    let p : RawCommit → Bool = (λ commit. nat_lt low commit.lsn.0 && nat_le commit.lsn.0 top) in
    let first : IsParted history.commits low = part_at 0 low history.commits rise in
    let next : IsParted first.back top = part_at low top first.back first.rises in
    let over : AllByRecursion (λ (c : RawCommit). low < c.lsn.0) (next.front ++ next.back) = subst (AllByRecursion (λ (c : RawCommit). low < c.lsn.0)) next.spelled first.over in
    let middle : AllByRecursion (λ (c : RawCommit). (low < c.lsn.0) × (c.lsn.0 ≤ top)) next.front =
    pairs low top next.front (all_left (λ (c : RawCommit). low < c.lsn.0) next.front next.back over) (λ n. n ≤ top) next.under in
    let whole : history.commits ≡ first.front ++ (next.front ++ next.back) = first.spelled ∙ ap (λ (l : List RawCommit). first.front ++ l) next.spelled in
    let same : next.front ≡ repeated history records offset =
    sym (ap (filter p) whole
    ∙ (filter_between p first.front next.front next.back (passes_none low top first.front first.under) (passes_none_after low top next.back next.over)
    ∙ filter_whole p next.front (all_weaker (λ (c : RawCommit). (low < c.lsn.0) × (c.lsn.0 ≤ top)) (λ (c : RawCommit). p c ≡ true) next.front (λ c both. both_pass low top c.lsn.0 both.0 both.1) middle))) in
    record {
      before = first.front;
      later = next.back;
      spelled = whole ∙ ap (λ (l : List RawCommit). first.front ++ (l ++ next.back)) same;
      unread = first.under;
      redelivered = subst (AllByRecursion (λ (c : RawCommit). (low < c.lsn.0) × (c.lsn.0 ≤ top))) same middle;
      undelivered = pairs low top next.back (all_right (λ (c : RawCommit). low < c.lsn.0) next.front next.back over) (λ n. top < n) next.over;
    }
