-- The moments of positions.
use Rattle.std.proofs.Common.{◌≡◌, ◌∙◌, ◌+◌, ◌≤◌, ◌<◌, ℕ, Bool, true, false, List, [], ◌∷◌, ◌++◌, length, map, take, refl, sym, ap, arith, length-append, append-nil}
use Rattle.std.specs.Prelude.{nat_le, if◌then◌else◌}
use Rattle.std.proofs.lemmas.Bool.Decides.{nat_tests}
use Rattle.dbl_model_table.specs.declared.change.Commit.{Commit}
use Rattle.dbl_model_table.specs.Rows.{rows, changes_of, all_changes, moment_at}
use Rattle.dbl_model_history.specs.History.{AreRising}
use Rattle.dbl_model_history.specs.Laws.{PositionsAreMoments, MomentsAreChanges}
use Rattle.dbl_model_history.proofs.RowLemmas.{rows-by_commit}

abbrev pub lsns : List Commit → List ℕ
lsns commits = map (λ (c : Commit). c.lsn.0) commits

at_most : (a b : ℕ) → a ≤ b → nat_le a b ≡ true
at_most a b le = grind (arith, nat_tests)

above : (a b : ℕ) → b < a → nat_le a b ≡ false
above a b lt = grind (arith, nat_tests)

-- no commit of a list that begins above a position counts for it
pub moment_at-early : (cs : List Commit) (low position : ℕ) → AreRising low (lsns cs) → position ≤ low → moment_at cs position ≡ 0
moment_at-early [] low position rise le = refl
moment_at-early (c ∷ cs) low position rise le = ap (λ (b : Bool). if b then length (changes_of c) + moment_at cs position else 0) (above c.lsn.0 position (omega (arith, rise.0)))

-- a commit among others that rise from an LSN on is above it
pub rising_to : (before : List Commit) (c : Commit) (later : List Commit) (low : ℕ) → AreRising low (lsns (before ++ c ∷ later)) → low < c.lsn.0
rising_to [] c later low rise = rise.0
rising_to (b ∷ before) c later low rise = omega (arith, rise.0, rising_to before c later b.lsn.0 rise.1)

-- a commit's position is the moment after it
pub moment_at-commit : (before : List Commit) (c : Commit) (later : List Commit) (low : ℕ) → AreRising low (lsns (before ++ c ∷ later)) → moment_at (before ++ c ∷ later) c.lsn.0 ≡ length (all_changes (before ++ c ∷ []))
moment_at-commit [] c later low rise =
    let rest : moment_at later c.lsn.0 ≡ 0 = moment_at-early later c.lsn.0 c.lsn.0 rise.1 (omega arith) in
    let long : length (changes_of c ++ []) ≡ length (changes_of c) = ap length (append-nil (changes_of c)) in
    ap (λ (b : Bool). if b then length (changes_of c) + moment_at later c.lsn.0 else 0) (at_most c.lsn.0 c.lsn.0 (omega arith)) ∙ omega (arith, rest, long)
moment_at-commit (b ∷ before) c later low rise =
    let under : nat_le b.lsn.0 c.lsn.0 ≡ true = at_most b.lsn.0 c.lsn.0 (omega (arith, rising_to before c later b.lsn.0 rise.1)) in
    ap (λ (t : Bool). if t then length (changes_of b) + moment_at (before ++ c ∷ later) c.lsn.0 else 0) under
    ∙ (ap (λ (n : ℕ). length (changes_of b) + n) (moment_at-commit before c later b.lsn.0 rise.1)
    ∙ sym (length-append (changes_of b) (all_changes (before ++ c ∷ []))))

pub positions_are : PositionsAreMoments
positions_are before c later rise = (moment_at-early (before ++ c ∷ later) 0 0 rise (omega arith), moment_at-commit before c later 0 rise)

take-before : (before : List Commit) (c : Commit) (later : List Commit) → take (length before) (before ++ c ∷ later) ≡ before
take-before [] c later = refl
take-before (b ∷ before) c later = ap (λ (l : List Commit). b ∷ l) (take-before before c later)

pub moments_are : MomentsAreChanges
moments_are infos before c later n le =
    ap (λ (l : List Commit). rows infos (before ++ c ∷ later) (length (all_changes l) + n)) (take-before before c later) ∙ rows-by_commit infos before c later n le
