-- Positions between commits.
use Rattle.std.proofs.Common.{◌≡◌, ◌∙◌, inl, inr, ◌≤◌, ◌<◌, ℕ, List, [], ◌∷◌, ◌++◌, map, refl, sym, ap, ap₂, subst, arith, append_assoc, le_refl}
use Rattle.std.specs.List.{AllByRecursion}
use Rattle.dbl_consume_laws.specs.ModelHistory.History.{AreRising}
use Rattle.dbl_consume_laws.proofs.ModelHistoryMomentLemmas.{lsns}
use Rattle.dbl_consume_courses.specs.Versions.{Versioned, plain_commit}
use Rattle.dbl_faithful.specs.CaughtUp.{EndAt, IsEndOf}
use Rattle.dbl_faithful.specs.CaughtUpLaws.{PositionsEndOnce}
use Rattle.dbl_faithful.proofs.Items.{all_weaker}

chain : (a b c : ℕ) → a < b → b < c → a < c
chain a b c one two = omega (arith, one, two)

under : (a b : ℕ) → a < b → a ≤ b
under a b lt = omega (arith, lt)

never : (a b : ℕ) → a ≤ b → b < a → ⊥
never a b le lt = omega (arith, le, lt)

-- ---- commits that rise

pub all_above : (low : ℕ) (versions : List Versioned) → AreRising low (lsns (map plain_commit versions)) → AllByRecursion (λ v. low < v.lsn.0) versions
all_above low [] rise = tt
all_above low (v ∷ versions) rise = (
  rise.0,
  all_weaker (λ (x : Versioned). v.lsn.0 < x.lsn.0) (λ (x : Versioned). low < x.lsn.0) versions (λ x lt. chain low v.lsn.0 x.lsn.0 rise.0 lt) (all_above v.lsn.0 versions rise.1),
)

pub rising_after : (low : ℕ) (before : List Versioned) (v : Versioned) (later : List Versioned) → AreRising low (lsns (map plain_commit (before ++ v ∷ later))) → AreRising v.lsn.0 (lsns (map plain_commit later))
rising_after low [] v later rise = rise.1
rising_after low (b ∷ before) v later rise = rising_after b.lsn.0 before v later rise.1

-- the commits before one of them
pub rising_to : (low : ℕ) (before : List Versioned) (v : Versioned) (later : List Versioned) → AreRising low (lsns (map plain_commit (before ++ v ∷ later))) → low < v.lsn.0
rising_to low [] v later rise = rise.0
rising_to low (b ∷ before) v later rise = chain low b.lsn.0 v.lsn.0 rise.0 (rising_to b.lsn.0 before v later rise.1)

pub all_before : (low : ℕ) (before : List Versioned) (v : Versioned) (later : List Versioned) → AreRising low (lsns (map plain_commit (before ++ v ∷ later))) → AllByRecursion (λ x. x.lsn.0 < v.lsn.0) before
all_before low [] v later rise = tt
all_before low (b ∷ before) v later rise = (rising_to b.lsn.0 before v later rise.1, all_before b.lsn.0 before v later rise.1)

-- and with it
pub all_under : (low : ℕ) (before : List Versioned) (v : Versioned) (later : List Versioned) → AreRising low (lsns (map plain_commit (before ++ v ∷ later))) → AllByRecursion (λ x. x.lsn.0 ≤ v.lsn.0) (before ++ v ∷ [])
all_under low [] v later rise = (le_refl v.lsn.0, tt)
all_under low (b ∷ before) v later rise = (under b.lsn.0 v.lsn.0 (rising_to b.lsn.0 before v later rise.1), all_under b.lsn.0 before v later rise.1)

-- ---- a position that ends some first commits

seam : (front : List Versioned) (last : Versioned) (later : List Versioned) → (front ++ last ∷ []) ++ later ≡ front ++ last ∷ later
seam front last later = append_assoc front (last ∷ []) later

module _ (position : ℕ) (before later : List Versioned) (rise : AreRising 0 (lsns (map plain_commit (before ++ later)))) where
  ended : (end : EndAt position before) → AreRising 0 (lsns (map plain_commit (end.front ++ end.last ∷ later)))
  ended end =
      subst (λ (l : List Versioned). AreRising 0 (lsns (map plain_commit l))) (seam end.front end.last later)
      (subst (λ (l : List Versioned). AreRising 0 (lsns (map plain_commit (l ++ later)))) end.spelled rise)

  pub end_after : IsEndOf position before → AllByRecursion (λ v. position < v.lsn.0) later
  end_after (inl none) =
      subst (λ (p : ℕ). AllByRecursion (λ (v : Versioned). p < v.lsn.0) later) (sym none.0)
      (all_above 0 later (subst (λ (l : List Versioned). AreRising 0 (lsns (map plain_commit (l ++ later)))) none.1 rise))
  end_after (inr end) =
      subst (λ (p : ℕ). AllByRecursion (λ (v : Versioned). p < v.lsn.0) later) end.lsn_is (all_above end.last.lsn.0 later (rising_after 0 end.front end.last later (ended end)))

  pub end_under : IsEndOf position before → AllByRecursion (λ v. v.lsn.0 ≤ position) before
  end_under (inl none) = subst (AllByRecursion (λ (v : Versioned). v.lsn.0 ≤ position)) (sym none.1) tt
  end_under (inr end) =
      subst (AllByRecursion (λ (v : Versioned). v.lsn.0 ≤ position)) (sym end.spelled)
      (subst (λ (p : ℕ). AllByRecursion (λ (v : Versioned). v.lsn.0 ≤ p) (end.front ++ end.last ∷ [])) end.lsn_is (all_under 0 end.front end.last later (ended end)))

-- ---- commits part at a position in one way

abbrev tail_of : List Versioned → List Versioned
tail_of [] = []
tail_of (v ∷ vs) = vs

abbrev head_lsn : List Versioned → ℕ
head_lsn [] = 0
head_lsn (v ∷ vs) = v.lsn.0

split_front : (position : ℕ) (a x b y : List Versioned) → a ++ x ≡ b ++ y → AllByRecursion (λ v. v.lsn.0 ≤ position) a → AllByRecursion (λ v. position < v.lsn.0) x → AllByRecursion (λ v. v.lsn.0 ≤ position) b
    → AllByRecursion (λ v. position < v.lsn.0) y → a ≡ b
split_front position [] x [] y is low_a high_x low_b high_y = refl
split_front position [] [] (d ∷ b) y is low_a high_x low_b high_y = cc
split_front position [] (c ∷ x) (d ∷ b) y is low_a high_x low_b high_y = absurd (never d.lsn.0 position low_b.0 (subst (λ (n : ℕ). position < n) (ap head_lsn is) high_x.0))
split_front position (c ∷ a) x [] [] is low_a high_x low_b high_y = cc
split_front position (c ∷ a) x [] (d ∷ y) is low_a high_x low_b high_y = absurd (never c.lsn.0 position low_a.0 (subst (λ (n : ℕ). position < n) (sym (ap head_lsn is)) high_y.0))
split_front position (c ∷ a) x (d ∷ b) y is low_a high_x low_b high_y =
    let same : c ≡ d = cc in
    ap₂ (λ (h : Versioned) (t : List Versioned). h ∷ t) same (split_front position a x b y (ap tail_of is) low_a.1 high_x low_b.1 high_y)

pub positions_end_once : PositionsEndOnce
positions_end_once versions a b x y position rise one two of_a of_b =
    let rise_a : AreRising 0 (lsns (map plain_commit (a ++ x))) = subst (λ (l : List Versioned). AreRising 0 (lsns (map plain_commit l))) one rise in
    let rise_b : AreRising 0 (lsns (map plain_commit (b ++ y))) = subst (λ (l : List Versioned). AreRising 0 (lsns (map plain_commit l))) two rise in
    split_front position a x b y (sym one ∙ two) (end_under position a x rise_a of_a) (end_after position a x rise_a of_a) (end_under position b y rise_b of_b) (end_after position b y rise_b of_b)
