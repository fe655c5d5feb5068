-- Commits that rise, and those of the history that are next.
use Rattle.std.proofs.Common.{◌≡◌, ◌∙◌, ◌≤◌, ◌<◌, ℕ, List, [], ◌∷◌, ◌++◌, Some, map, refl, sym, ap, ap₂, subst, arith}
use Rattle.std.specs.Prelude.{slice_get}
use Rattle.std.specs.List.{AllByRecursion}
use Rattle.dbl_model_table.specs.declared.table.TableInfo.{TableInfo}
use Rattle.dbl_model_table.specs.declared.change.Commit.{Commit}
use Rattle.dbl_faithful.specs.ModelHistory.History.{AreRising, RawCommit, History}
use Rattle.dbl_faithful.specs.ModelHistory.Typed.{typed_commit, typed}
use Rattle.dbl_faithful.proofs.ModelHistoryMomentLemmas.{lsns}
use Rattle.dbl_faithful.specs.Stores.{IsCommitAt}
use Rattle.dbl_faithful.proofs.Items.{map_get, all_weaker}
use Rattle.dbl_faithful.proofs.Lists.{map_append}
use Rattle.dbl_faithful.proofs.Splits.{RawNext}

never : (a b : ℕ) → a ≤ b → b < a → ⊥
never a b le lt = omega (arith, le, lt)

chain : (a b c : ℕ) → a < b → b < c → a < c
chain a b c one two = omega (arith, one, two)

-- what is said of LSNs is said of typed commits
pub typed_more : (infos : List TableInfo) (P : ℕ → Type 0) (more : List RawCommit) → AllByRecursion (λ commit. P commit.lsn.0) more → AllByRecursion (λ commit. P commit.lsn.0) (map (typed_commit infos) more)
typed_more infos P [] all = tt
typed_more infos P (c ∷ more) all = (all.0, typed_more infos P more all.1)

pub all_above : (low : ℕ) (commits : List Commit) → AreRising low (lsns commits) → AllByRecursion (λ c. low < c.lsn.0) commits
all_above low [] rise = tt
all_above low (c ∷ commits) rise = (
  rise.0,
  all_weaker (λ (x : Commit). c.lsn.0 < x.lsn.0) (λ (x : Commit). low < x.lsn.0) commits (λ x lt. chain low c.lsn.0 x.lsn.0 rise.0 lt) (all_above c.lsn.0 commits rise.1),
)

pub rising_after : (low : ℕ) (before : List Commit) (c : Commit) (later : List Commit) → AreRising low (lsns (before ++ c ∷ later)) → AreRising c.lsn.0 (lsns later)
rising_after low [] c later rise = rise.1
rising_after low (b ∷ before) c later rise = rising_after b.lsn.0 before c later rise.1

abbrev tail_of : List Commit → List Commit
tail_of [] = []
tail_of (c ∷ cs) = cs

abbrev head_lsn : List Commit → ℕ
head_lsn [] = 0
head_lsn (c ∷ cs) = c.lsn.0

-- commits part at a position in one way
pub split_once : (position : ℕ) (a x b y : List Commit) → a ++ x ≡ b ++ y → AllByRecursion (λ c. c.lsn.0 ≤ position) a → AllByRecursion (λ c. position < c.lsn.0) x → AllByRecursion (λ c. c.lsn.0 ≤ position) b
    → AllByRecursion (λ c. position < c.lsn.0) y → x ≡ y
split_once position [] x [] y is low_a high_x low_b high_y = is
split_once position [] [] (d ∷ b) y is low_a high_x low_b high_y = cc
split_once position [] (c ∷ x) (d ∷ b) y is low_a high_x low_b high_y = absurd (never d.lsn.0 position low_b.0 (subst (λ (n : ℕ). position < n) (ap head_lsn is) high_x.0))
split_once position (c ∷ a) x [] [] is low_a high_x low_b high_y = cc
split_once position (c ∷ a) x [] (d ∷ y) is low_a high_x low_b high_y = absurd (never c.lsn.0 position low_a.0 (subst (λ (n : ℕ). position < n) (sym (ap head_lsn is)) high_y.0))
split_once position (c ∷ a) x (d ∷ b) y is low_a high_x low_b high_y = split_once position a x b y (ap tail_of is) low_a.1 high_x low_b.1 high_y

-- and the first ones are the same, too
pub split_front : (position : ℕ) (a x b y : List Commit) → a ++ x ≡ b ++ y → AllByRecursion (λ c. c.lsn.0 ≤ position) a → AllByRecursion (λ c. position < c.lsn.0) x → AllByRecursion (λ c. c.lsn.0 ≤ position) b
    → AllByRecursion (λ c. position < c.lsn.0) y → a ≡ b
split_front position [] x [] y is low_a high_x low_b high_y = refl
split_front position [] [] (d ∷ b) y is low_a high_x low_b high_y = cc
split_front position [] (c ∷ x) (d ∷ b) y is low_a high_x low_b high_y = absurd (never d.lsn.0 position low_b.0 (subst (λ (n : ℕ). position < n) (ap head_lsn is) high_x.0))
split_front position (c ∷ a) x [] [] is low_a high_x low_b high_y = cc
split_front position (c ∷ a) x [] (d ∷ y) is low_a high_x low_b high_y = absurd (never c.lsn.0 position low_a.0 (subst (λ (n : ℕ). position < n) (sym (ap head_lsn is)) high_y.0))
split_front position (c ∷ a) x (d ∷ b) y is low_a high_x low_b high_y =
    let same : c ≡ d = cc in
    ap₂ (λ (h : Commit) (t : List Commit). h ∷ t) same (split_front position a x b y (ap tail_of is) low_a.1 high_x low_b.1 high_y)

-- ---- raw commits

-- what is read of a commit has its LSN
typed_back : (infos : List TableInfo) (P : ℕ → Type 0) (cs : List RawCommit) → AllByRecursion (λ commit. P commit.lsn.0) (map (typed_commit infos) cs) → AllByRecursion (λ commit. P commit.lsn.0) cs
typed_back infos P [] all = tt
typed_back infos P (c ∷ cs) all = (all.0, typed_back infos P cs all.1)

raw_head : (infos : List TableInfo) (later : List RawCommit) (commit : Commit) (rest : List Commit) → map (typed_commit infos) later ≡ commit ∷ rest → AllByRecursion (λ c. commit.lsn.0 < c.lsn.0) rest → RawNext later commit.lsn.0
raw_head infos [] commit rest is over = cc
raw_head infos (raw ∷ more) commit rest is over = record {
  raw = raw;
  rest = more;
  is = refl;
  lsn_is = ap head_lsn is;
  over = typed_back infos (λ n. commit.lsn.0 < n) more (subst (AllByRecursion (λ (c : Commit). commit.lsn.0 < c.lsn.0)) (sym (ap tail_of is)) over);
}

pub raw_next : (infos : List TableInfo) (position : ℕ) (low high : List RawCommit) (before : List Commit) (commit : Commit) (rest : List Commit) → map (typed_commit infos) (low ++ high) ≡ before ++ commit ∷ rest
    → AllByRecursion (λ c. c.lsn.0 ≤ position) low → AllByRecursion (λ c. position < c.lsn.0) high → AllByRecursion (λ c. c.lsn.0 ≤ position) before → AllByRecursion (λ c. position < c.lsn.0) (commit ∷ rest)
    → AllByRecursion (λ c. commit.lsn.0 < c.lsn.0) rest → RawNext high commit.lsn.0
raw_next infos position low high before commit rest is low_is high_is before_is later_is over =
    raw_head infos high commit rest
    (split_once position (map (typed_commit infos) low) (map (typed_commit infos) high) before (commit ∷ rest) (sym (map_append (typed_commit infos) low high) ∙ is)
    (typed_more infos (λ n. n ≤ position) low low_is) (typed_more infos (λ n. position < n) high high_is) before_is later_is) over

lsns-typed : (infos : List TableInfo) (commits : List RawCommit) → lsns (map (typed_commit infos) commits) ≡ map (λ (commit : RawCommit). commit.lsn.0) commits
lsns-typed infos [] = refl
lsns-typed infos (commit ∷ commits) = ap (λ (l : List ℕ). commit.lsn.0 ∷ l) (lsns-typed infos commits)

-- a commit of the captured ones is one of the history
pub commit_at : (infos : List TableInfo) (history : History) (place : ℕ) (commit : Commit) → slice_get (typed infos history) place ≡ Some commit → IsCommitAt history commit.lsn.0
commit_at infos history place commit at =
    (place, ap (λ (l : List ℕ). slice_get l place) (sym (lsns-typed infos history.commits)) ∙ map_get (λ (c : Commit). c.lsn.0) (typed infos history) place commit at)
