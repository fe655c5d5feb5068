-- Positions among the commits of a history and of a course.
use Rattle.std.proofs.Common.{◌≡◌, ◌∙◌, ℕ, ◌+◌, ◌≤◌, ◌<◌, max, Bool, true, false, List, [], ◌∷◌, ◌++◌, length, map, refl, sym, ap, subst, arith, length-append}
use Rattle.std.proofs.lemmas.Bool.Decides.{nat_tests}
use Rattle.std.specs.Prelude.{nat_le, if◌then◌else◌}
use Rattle.std.specs.List.{AllByRecursion}
use Rattle.dbl_model_table.specs.declared.table.TableInfo.{TableInfo}
use Rattle.dbl_model_table.specs.declared.change.Commit.{Commit}
use Rattle.dbl_model_table.specs.Rows.{changes_of, all_changes, moment_at}
use Rattle.dbl_model_history.specs.History.{AreRising}
use Rattle.dbl_model_history.proofs.MomentLemmas.{lsns}
use Rattle.dbl_consume_laws.specs.Commits.{moment_after}
use Rattle.dbl_consume_courses.specs.Versions.{Versioned, plain_commit}
use Rattle.dbl_consume_courses.specs.AlteredTables.{position_moment}
use Rattle.dbl_consume_courses.specs.FitVersions.{AreFitVersions}
use Rattle.dbl_consume_courses.specs.Growth.{course_of}
use Rattle.dbl_consume_courses.specs.RowsThere.{changes_in}
use Rattle.dbl_consume_courses.proofs.FitLemmas.{all_back, good_of}
use Rattle.dbl_consume_courses.proofs.InfoMoves.{none_at}
use Rattle.dbl_consume_courses.proofs.ThereLemmas.{changes_more}

-- ---- numbers

pub le_of : (a b : ℕ) → a < b → a ≤ b
le_of a b lt = omega (arith, lt)

pub le_trans : (a b c : ℕ) → a ≤ b → b ≤ c → a ≤ c
le_trans a b c one two = omega (arith, one, two)

pub lt_le : (a b c : ℕ) → a < b → b ≤ c → a < c
lt_le a b c one two = omega (arith, one, two)

pub le_lt : (a b c : ℕ) → a ≤ b → b < c → a < c
le_lt a b c one two = omega (arith, one, two)

pub left_most : (a b : ℕ) → a ≤ max a b
left_most a b = omega arith

pub both_below : (a b n : ℕ) → a < n → b < n → max a b < n
both_below a b n one two = omega (arith, one, two)

pub max_right_is : (a b : ℕ) → a ≤ b → max a b ≡ b
max_right_is a b le = omega (arith, le)

pub max_again : (a b : ℕ) → max b (max a b) ≡ max a b
max_again a b = omega arith

pub upto_is : (a b : ℕ) → a ≤ b → nat_le a b ≡ true
upto_is a b le = grind (arith, nat_tests)

pub past_is : (a b : ℕ) → b < a → nat_le a b ≡ false
past_is a b lt = grind (arith, nat_tests)

pub le_is : (a b : ℕ) → a ≡ b → a ≤ b
le_is a b is = omega (arith, is)

-- ---- commits up to a position

pub to_lsns : (P : ℕ → Type 0) (vs : List Versioned) → AllByRecursion (λ v. P v.lsn.0) vs → AllByRecursion P (lsns (map plain_commit vs))
to_lsns P [] all = tt
to_lsns P (v ∷ vs) all = (all.0, to_lsns P vs all.1)

pub of_lsns : (P : ℕ → Type 0) (vs : List Versioned) → AllByRecursion P (lsns (map plain_commit vs)) → AllByRecursion (λ v. P v.lsn.0) vs
of_lsns P [] all = tt
of_lsns P (v ∷ vs) all = (all.0, of_lsns P vs all.1)

pub of_commits : (P : ℕ → Type 0) (cs : List Commit) → AllByRecursion P (lsns cs) → AllByRecursion (λ c. P c.lsn.0) cs
of_commits P [] all = tt
of_commits P (c ∷ cs) all = (all.0, of_commits P cs all.1)

pub all_end : (P : Versioned → Type 0) (xs : List Versioned) (v : Versioned) → AllByRecursion P xs → P v → AllByRecursion P (xs ++ v ∷ [])
all_end P [] v all one = (one, tt)
all_end P (x ∷ xs) v all one = (all.0, all_end P xs v all.1 one)

-- commits after a rising bound
pub past_all : (low position : ℕ) (vs : List Versioned) → position ≤ low → AreRising low (lsns (map plain_commit vs)) → AllByRecursion (λ v. position < v.lsn.0) vs
past_all low position [] le rise = tt
past_all low position (v ∷ vs) le rise = (le_lt position low v.lsn.0 le rise.0, past_all v.lsn.0 position vs (le_trans position low v.lsn.0 le (le_of low v.lsn.0 rise.0)) rise.1)

pub moment_upto : (position : ℕ) (front more : List Commit) → AllByRecursion (λ c. c.lsn.0 ≤ position) front → AllByRecursion (λ c. position < c.lsn.0) more → moment_at (front ++ more) position ≡ moment_after front
moment_upto position [] more upto past = none_at more position past
moment_upto position (c ∷ front) more upto past =
    ap (λ (b : Bool). if b then length (changes_of c) + moment_at (front ++ more) position else 0) (upto_is c.lsn.0 position upto.0)
    ∙ (ap (λ (m : ℕ). length (changes_of c) + m) (moment_upto position front more upto.1 past) ∙ sym (length-append (changes_of c) (all_changes front)))

pub position_past : (position : ℕ) (more : List Versioned) → AllByRecursion (λ v. position < v.lsn.0) more → position_moment more position ≡ 0
position_past position [] past = refl
position_past position (v ∷ more) past = ap (λ (b : Bool). if b then length (changes_of (plain_commit v)) + position_moment more position else 0) (past_is v.lsn.0 position past.0)

pub position_upto : (position : ℕ) (front more : List Versioned) → AllByRecursion (λ v. v.lsn.0 ≤ position) front → AllByRecursion (λ v. position < v.lsn.0) more → position_moment (front ++ more) position ≡ changes_in front
position_upto position [] more upto past = position_past position more past
position_upto position (v ∷ front) more upto past =
    ap (λ (b : Bool). if b then length (changes_of (plain_commit v)) + position_moment (front ++ more) position else 0) (upto_is v.lsn.0 position upto.0)
    ∙ (ap (λ (m : ℕ). length (changes_of (plain_commit v)) + m) (position_upto position front more upto.1 past) ∙ sym (changes_more v front))

pub step_most : (b : Bool) (n m l w : ℕ) → m ≤ l → w ≡ n + l → (if b then n + m else 0) ≤ w
step_most true n m l w le is = omega (arith, le, is)
step_most false n m l w le is = omega arith

pub position_most : (versions : List Versioned) (position : ℕ) → position_moment versions position ≤ changes_in versions
position_most [] position = omega arith
position_most (v ∷ versions) position =
    step_most (nat_le v.lsn.0 position) (length (changes_of (plain_commit v))) (position_moment versions position) (changes_in versions) (changes_in (v ∷ versions)) (position_most versions position) (changes_more v versions)

pub position_longer : (position : ℕ) (versions later : List Versioned) → AllByRecursion (λ v. position < v.lsn.0) later → position_moment (versions ++ later) position ≡ position_moment versions position
position_longer position [] later past = position_past position later past
position_longer position (v ∷ versions) later past = ap (λ (m : ℕ). if nat_le v.lsn.0 position then length (changes_of (plain_commit v)) + m else 0) (position_longer position versions later past)

pub step_mono : (l a b n x y : ℕ) → a ≤ b → x ≤ y → (if nat_le l a then n + x else 0) ≤ (if nat_le l b then n + y else 0)
step_mono l a b n x y le more = grind (arith, nat_tests)

pub moment_mono : (commits : List Commit) (a b : ℕ) → a ≤ b → moment_at commits a ≤ moment_at commits b
moment_mono [] a b le = omega arith
moment_mono (c ∷ commits) a b le = step_mono c.lsn.0 a b (length (changes_of c)) (moment_at commits a) (moment_at commits b) le (moment_mono commits a b le)

pub position_mono : (versions : List Versioned) (a b : ℕ) → a ≤ b → position_moment versions a ≤ position_moment versions b
position_mono [] a b le = omega arith
position_mono (v ∷ versions) a b le = step_mono v.lsn.0 a b (length (changes_of (plain_commit v))) (position_moment versions a) (position_moment versions b) le (position_mono versions a b le)

-- the commits of a course are of the history
pub course_upto : (infos : List TableInfo) (earlier : List Versioned) (start table position : ℕ) → AreFitVersions infos earlier → AllByRecursion (λ e. e.lsn.0 ≤ position) earlier
    → AllByRecursion (λ c. c.lsn.0 ≤ position) (course_of infos start table earlier).commits
course_upto infos earlier start table position valid upto =
    let good = good_of infos earlier start table valid in
    of_commits (λ l. l ≤ position) (course_of infos start table earlier).commits
    (all_back (λ l. l ≤ position) good.front (lsns (course_of infos start table earlier).commits) (subst (AllByRecursion (λ l. l ≤ position)) good.is (to_lsns (λ l. l ≤ position) earlier upto)))
