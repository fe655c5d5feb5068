-- Lemmas of points in histories whose tables may be altered.
use Rattle.std.proofs.Common.{◌≡◌, ◌∙◌, ℕ, ◌+◌, ◌-◌, ◌≤◌, ◌<◌, ◌^◌, min, max, Bool, true, false, List, [], ◌∷◌, length, drop, get_or, refl, sym, ap, arith}
use Rattle.std.specs.Prelude.{nat_le, nat_lt, ◌==◌, if◌then◌else◌}
use Rattle.std.proofs.lemmas.Bool.Decides.{nat_tests}
use Rattle.std.proofs.lemmas.List.{drop_more, drop_all}
use Rattle.dbl_record.specs.declared.record.Record.{Record}
use Rattle.dbl_record.specs.Places.{Place, place_of}
use Rattle.dbl_model_table.specs.declared.change.Commit.{Commit}
use Rattle.dbl_model_table.specs.Rows.{changes_of, moment_at}
use Rattle.dbl_consume_laws.specs.Moments.{changes_through}
use Rattle.dbl_consume_courses.specs.Versions.{Versioned}
use Rattle.dbl_consume_courses.specs.AlteredTables.{version_moment, position_moment, version_span_end}
use Rattle.cases_courses.specs.declared.versions.Version.{Version}
use Rattle.cases_courses.specs.AlteredHistories.{all_versioned}
use Rattle.cases_ages.proofs.MomentLemmas.{is_lower, not_lower, is_equal, not_equal}

is_upto : (a b : ℕ) → a ≤ b → nat_le a b ≡ true
is_upto a b le = grind (arith, nat_tests)

is_past : (a b : ℕ) → b < a → nat_le a b ≡ false
is_past a b lt = grind (arith, nat_tests)

-- ---- the point of a position

-- what is counted of items with an LSN and a number of changes each, as far as they aren't after a position
abbrev pub point_of : {X : Type 0} → (X → ℕ) → (X → ℕ) → ℕ → List X → ℕ
point_of lsn count position [] = 0
point_of lsn count position (x ∷ xs) = if nat_le (lsn x) position then count x + point_of lsn count position xs else 0

pub commits_point : (position : ℕ) (commits : List Commit) → moment_at commits position ≡ point_of (λ (c : Commit). c.lsn.0) (λ (c : Commit). length (changes_of c)) position commits
commits_point position [] = refl
commits_point position (c ∷ commits) = ap (λ (n : ℕ). if nat_le c.lsn.0 position then length (changes_of c) + n else 0) (commits_point position commits)

pub versions_point : (position : ℕ) (versions : List Version) → position_moment (all_versioned versions) position ≡ point_of (λ (v : Version). v.commit.lsn.0) (λ (v : Version). length (changes_of v.commit)) position versions
versions_point position [] = refl
versions_point position (v ∷ versions) = ap (λ (n : ℕ). if nat_le v.commit.lsn.0 position then length (changes_of v.commit) + n else 0) (versions_point position versions)

module _ {X : Type 0} (lsn count : X → ℕ) (position : ℕ) (xs : List X) where
  -- of the first i items this was counted, as far as 64 bits tell
  abbrev pub IsCountedTo : ℕ → ℕ → Type 0
  IsCountedTo i moment = (moment < 2 ^ 64) × (min (point_of lsn count position xs) (2 ^ 64 - 1) ≡ min (moment + point_of lsn count position (drop i xs)) (2 ^ 64 - 1))

  pub counted_first : IsCountedTo 0 0
  counted_first = (omega arith, omega arith)

  there : (i : ℕ) (x : X) (b : Bool) → i < length xs → x ≡ get_or xs i x → nat_le (lsn x) position ≡ b → point_of lsn count position (drop i xs) ≡ (if b then count x + point_of lsn count position (drop (i + 1) xs) else 0)
  there i x b lt is test =
      ap (point_of lsn count position) (drop_more xs i x lt ∙ ap (λ (y : X). y ∷ drop (i + 1) xs) (sym is))
      ∙ ap (λ (t : Bool). if t then count x + point_of lsn count position (drop (i + 1) xs) else 0) test

  pub counted_past : (i moment : ℕ) (x : X) → i < length xs → x ≡ get_or xs i x → position < lsn x → IsCountedTo i moment → moment ≡ min (point_of lsn count position xs) (2 ^ 64 - 1)
  counted_past i moment x lt is past so_far =
      let none : point_of lsn count position (drop i xs) ≡ 0 = there i x false lt is (is_past (lsn x) position past) in
      omega (arith, so_far.0, so_far.1, none)

  pub counted_next : (i moment number sum : ℕ) (x : X) → i < length xs → x ≡ get_or xs i x → lsn x ≤ position → number ≡ count x → sum ≡ min (moment + number) (2 ^ 64 - 1) → IsCountedTo i moment → IsCountedTo (i + 1) sum
  counted_next i moment number sum x lt is le number_is sum_is so_far =
      let at : point_of lsn count position (drop i xs) ≡ count x + point_of lsn count position (drop (i + 1) xs) = there i x true lt is (is_upto (lsn x) position le) in
      (omega (arith, sum_is), omega (arith, so_far.1, at, number_is, sum_is))

  pub counted_end : (i moment : ℕ) → length xs ≤ i → IsCountedTo i moment → moment ≡ min (point_of lsn count position xs) (2 ^ 64 - 1)
  counted_end i moment past so_far =
      let none : point_of lsn count position (drop i xs) ≡ 0 = ap (point_of lsn count position) (drop_all i xs past) in
      omega (arith, so_far.0, so_far.1, none)

-- ---- the point of a record

module _ (versions : List Version) (place : Place) where
  abbrev rest : ℕ → ℕ
  rest i = version_moment (all_versioned (drop i versions)) place

  abbrev count : Version → ℕ
  count v = length (changes_of v.commit)

  -- after the first i commits the point counted is this, as far as 64 bits tell
  abbrev pub IsVersionAlong : ℕ → ℕ → Type 0
  IsVersionAlong i moment = (moment < 2 ^ 64) × (min (version_moment (all_versioned versions) place) (2 ^ 64 - 1) ≡ min (moment + version_moment (all_versioned (drop i versions)) place) (2 ^ 64 - 1))

  pub version_along_none : IsVersionAlong 0 0
  version_along_none = (omega arith, omega arith)

  there_at : (i : ℕ) (v : Version) (b d : Bool) → i < length versions → v ≡ get_or versions i v → nat_lt v.commit.lsn.0 place.0 ≡ b → (v.commit.lsn.0 == place.0) ≡ d
      → rest i ≡ (if b then count v + rest (i + 1) else (if d then changes_through v.infos.items (changes_of v.commit) place.1 else 0))
  there_at i v b d lt is low same =
      ap (λ (l : List Version). version_moment (all_versioned l) place) (drop_more versions i v lt ∙ ap (λ (x : Version). x ∷ drop (i + 1) versions) (sym is))
      ∙ (ap (λ (x : Bool). if x then count v + rest (i + 1) else (if v.commit.lsn.0 == place.0 then changes_through v.infos.items (changes_of v.commit) place.1 else 0)) low
      ∙ ap (λ (x : Bool). if b then count v + rest (i + 1) else (if x then changes_through v.infos.items (changes_of v.commit) place.1 else 0)) same)

  pub version_along_past : (i moment : ℕ) (v : Version) → i < length versions → v ≡ get_or versions i v → place.0 < v.commit.lsn.0 → IsVersionAlong i moment → moment ≡ min (version_moment (all_versioned versions) place) (2 ^ 64 - 1)
  version_along_past i moment v lt is past so_far =
      let none : rest i ≡ 0 = there_at i v false false lt is (not_lower v.commit.lsn.0 place.0 (omega (arith, past))) (not_equal v.commit.lsn.0 place.0 (λ e. omega (arith, e, past))) in
      omega (arith, so_far.0, so_far.1, none)

  pub version_along_here : (i moment through sum : ℕ) (v : Version) → i < length versions → v ≡ get_or versions i v → place.0 ≡ v.commit.lsn.0 → through ≡ changes_through v.infos.items (changes_of v.commit) place.1 → sum ≡ min (moment + through) (2 ^ 64 - 1)
      → IsVersionAlong i moment → sum ≡ min (version_moment (all_versioned versions) place) (2 ^ 64 - 1)
  version_along_here i moment through sum v lt is here through_is sum_is so_far =
      let at : rest i ≡ changes_through v.infos.items (changes_of v.commit) place.1 = there_at i v false true lt is (not_lower v.commit.lsn.0 place.0 (omega (arith, here))) (is_equal v.commit.lsn.0 place.0 (sym here)) in
      omega (arith, so_far.1, at, through_is, sum_is)

  pub version_along_more : (i moment number sum : ℕ) (v : Version) → i < length versions → v ≡ get_or versions i v → v.commit.lsn.0 < place.0 → number ≡ count v → sum ≡ min (moment + number) (2 ^ 64 - 1) → IsVersionAlong i moment → IsVersionAlong (i + 1) sum
  version_along_more i moment number sum v lt is low number_is sum_is so_far =
      let at : rest i ≡ count v + rest (i + 1) = there_at i v true false lt is (is_lower v.commit.lsn.0 place.0 low) (not_equal v.commit.lsn.0 place.0 (λ e. omega (arith, e, low))) in
      (omega (arith, sum_is), omega (arith, so_far.1, at, number_is, sum_is))

  pub version_along_all : (i moment : ℕ) → length versions ≤ i → IsVersionAlong i moment → moment ≡ min (version_moment (all_versioned versions) place) (2 ^ 64 - 1)
  version_along_all i moment past so_far =
      let none : rest i ≡ 0 = ap (λ (l : List Version). version_moment (all_versioned l) place) (drop_all i versions past) in
      omega (arith, so_far.0, so_far.1, none)

-- ---- the end of a span

-- the start can be counted last
span_start : (versions : List Versioned) (records : List Record) (a b : ℕ) → version_span_end versions records (max a b) ≡ max a (version_span_end versions records b)
span_start versions [] a b = refl
span_start versions (item ∷ records) a b =
    let swap : max (max a b) (version_moment versions (place_of item)) ≡ max a (max b (version_moment versions (place_of item))) = omega arith in
    ap (version_span_end versions records) swap ∙ span_start versions records a (max b (version_moment versions (place_of item)))

module _ (versions : List Versioned) (records : List Record) (from : ℕ) where
  -- the first i records reach this far, as far as 64 bits tell
  abbrev pub IsSpanned : ℕ → ℕ → Type 0
  IsSpanned i far = (far < 2 ^ 64) × (min (version_span_end versions records from) (2 ^ 64 - 1) ≡ min (version_span_end versions (drop i records) far) (2 ^ 64 - 1))

  pub spanned_first : from < 2 ^ 64 → IsSpanned 0 from
  spanned_first fits = (fits, refl)

  pub spanned_more : (i far moment next : ℕ) (item : Record) → i < length records → item ≡ get_or records i item → moment ≡ min (version_moment versions (place_of item)) (2 ^ 64 - 1) → next ≡ max far moment → IsSpanned i far → IsSpanned (i + 1) next
  spanned_more i far moment next item lt is moment_is next_is so_far =
      let rest : List Record = drop (i + 1) records in
      let point : ℕ = version_moment versions (place_of item) in
      let at : drop i records ≡ item ∷ rest = drop_more records i item lt ∙ ap (λ (x : Record). x ∷ rest) (sym is) in
      let a : version_span_end versions (drop i records) far ≡ max point (version_span_end versions rest far) =
      ap (λ (l : List Record). version_span_end versions l far) at ∙ (ap (version_span_end versions rest) (swap far point) ∙ span_start versions rest point far) in
      let b : version_span_end versions rest next ≡ max moment (version_span_end versions rest far) = ap (version_span_end versions rest) (next_is ∙ swap far moment) ∙ span_start versions rest moment far in
      (omega (arith, next_is, so_far.0, moment_is), omega (arith, so_far.1, a, b, moment_is))
    where
      swap : (x y : ℕ) → max x y ≡ max y x
      swap x y = omega arith

  pub spanned_all : (i far : ℕ) → length records ≤ i → IsSpanned i far → far ≡ min (version_span_end versions records from) (2 ^ 64 - 1)
  spanned_all i far past so_far =
      let none : version_span_end versions (drop i records) far ≡ far = ap (λ (l : List Record). version_span_end versions l far) (drop_all i records past) in
      omega (arith, so_far.0, so_far.1, none)
